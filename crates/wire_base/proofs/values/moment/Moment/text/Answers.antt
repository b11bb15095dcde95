use Rattle.wire_base.proofs.StampLaws.{text_is}
use Rattle.wire_base.proofs.values.moment.Moment.text.Goals as goal

pub returns : goal.returns
returns c = record {
  text = rw (
    c.digit.ensures.digit,
    c.digit-2.ensures.digit,
    c.digit-3.ensures.digit,
    c.digit-4.ensures.digit,
    c.digit-5.ensures.digit,
    c.digit-6.ensures.digit,
    c.digit-7.ensures.digit,
    c.digit-8.ensures.digit,
    c.digit-9.ensures.digit,
    c.digit-10.ensures.digit,
    c.digit-11.ensures.digit,
    c.digit-12.ensures.digit,
    c.digit-13.ensures.digit,
    c.digit-14.ensures.digit,
  ) (text_is c.args.self.now);
}
