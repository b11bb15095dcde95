-- What the tally says of an event is what is to be said of it.
use Rattle.std.proofs.Common.{◌∙◌, Option, length, refl, ap, arith}
use Rattle.std.specs.Prelude.{option_to_list}
use Rattle.swima_model.specs.declared.record.Record.{Record}
use Rattle.swima_model.specs.Size.{records_octets}
use Rattle.validator_core.proofs.Tallying.{fit, gone_counted, gone_octets, held_is, unfit}
use Rattle.validator_core.proofs.tally.Tally.follow.Goals as goal

pub returns-then-is_contradiction-clause-follows : goal.returns-then-is_contradiction-clause-follows
returns-then-is_contradiction-clause-follows c = λ base before is.
    let found = c.live_record-held.ensures.held ∙ held_is c.args.event.now.subject.id base before c.args.self.now _ is c.in_ok-last.ensures.old in
    unfit base before c.args.event.now c.args.self.now _ is found _ c.if-is_contradiction.ensures.unfit

pub returns-clause-follows : goal.returns-clause-follows
returns-clause-follows c = λ base before is.
    let found = c.live_record-held.ensures.held ∙ held_is c.args.event.now.subject.id base before c.args.self.now _ is c.in_ok-last.ensures.old in
    fit base before c.args.event.now c.args.self.now _ is found _ c.args.event refl refl c.in_ok-last.ensures.updates.0 c.weight-come.result c.weight-gone.result (
      c.weight-come.ensures.count ∙ ap (λ (o : Option Record). length (option_to_list o)) c.said.ensures.said,
      c.weight-come.ensures.octets ∙ ap (λ (o : Option Record). records_octets (option_to_list o)) c.said.ensures.said,
    )
    (c.weight-gone.ensures.count, c.weight-gone.ensures.octets)
    (omega (arith, gone_counted base before c.args.event.now c.args.self.now _ is found c.weight-gone.result.0 c.weight-gone.ensures.count))
    (omega (arith, gone_octets base before c.args.event.now c.args.self.now _ is found c.weight-gone.result.1 c.weight-gone.ensures.octets))
    _ c.if-is_contradiction.ensures.unfit c.too_large.ensures.large

pub overflow_sub-self : goal.overflow_sub-self
overflow_sub-self c =
    let (base, before, is) = c.requires.some in
    let found = c.live_record-held.ensures.held ∙ held_is c.args.event.now.subject.id base before c.args.self.now _ is c.in_ok-last.ensures.old in
    omega (arith, gone_counted base before c.args.event.now c.args.self.now _ is found c.weight-gone.result.0 c.weight-gone.ensures.count)

pub overflow_sub-self-2 : goal.overflow_sub-self-2
overflow_sub-self-2 c =
    let (base, before, is) = c.requires.some in
    let found = c.live_record-held.ensures.held ∙ held_is c.args.event.now.subject.id base before c.args.self.now _ is c.in_ok-last.ensures.old in
    omega (arith, gone_octets base before c.args.event.now c.args.self.now _ is found c.weight-gone.result.1 c.weight-gone.ensures.octets)
