-- A string that is an item.
use Rattle.cbor_det.specs.Standing.{place}
use Rattle.std.proofs.lemmas.Result.{IfOk-weaker}
use Rattle.cbor_det.proofs.Strings.{bytes_item, text_item, text_bad}
use Rattle.cbor_det.proofs.string.string_item.Goals as goal

pub returns-in-ByteString-clause-ended : goal.returns-in-ByteString-clause-ended
returns-in-ByteString-clause-ended c =
    IfOk-weaker c.close_item.result _ _ (λ came given. bytes_item _ c.args.at c.args.kind c.args.octets _ c.requires.item c.in-ByteString.is given) c.close_item.ensures.given

pub returns-in-Some-clause-ended : goal.returns-in-Some-clause-ended
returns-in-Some-clause-ended c =
    IfOk-weaker c.close_item-in-Some.result _ _ (λ came given. text_item _ c.args.at c.args.kind c.args.octets c.in-Some.text _ c.requires.item c.in-TextString.is c.in-Some.ensures.text given)
    c.close_item-in-Some.ensures.given

pub returns-in-None-clause-ended : goal.returns-in-None-clause-ended
returns-in-None-clause-ended c = text_bad (place c.args.stack.now.items) c.args.at c.args.kind c.args.octets c.in-TextString.is c.in-None.ensures.text
