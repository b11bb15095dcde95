use Rattle.std.proofs.Common.{ap, ◌∙◌}
use Rattle.pa_attrs.specs.Stream.{front_of}
use Rattle.pa_attrs.proofs.Fronts.{front_none}
use Rattle.pa_attrs.proofs.feed.AttrFeed.feed.Goals as goal

pub invariant_of-self-in-Ok-Some : goal.invariant_of-self-in-Ok-Some
invariant_of-self-in-Ok-Some c =
    let holds = rw c.in-Ok-Some.field-0-is at c.in-Ok-Some.ensures.holds in
    (c.in-Ok-Some.ensures.order, c.in-Ok-Some.ensures.within, λ going. ap front_of holds.3 ∙ front_none)

pub returns-in-Ok-Some-clause-torn : goal.returns-in-Ok-Some-clause-torn
returns-in-Ok-Some-clause-torn c =
    let holds = rw c.in-Ok-Some.field-0-is at c.in-Ok-Some.ensures.holds in
    λ going. ap front_of holds.3 ∙ front_none
