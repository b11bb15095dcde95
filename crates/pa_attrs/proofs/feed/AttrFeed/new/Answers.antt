use Rattle.std.proofs.Common.{arith, ap, ◌∙◌, length, List, ℕ}
use Rattle.pa_attrs.specs.Stream.{front_of}
use Rattle.pa_attrs.proofs.Fronts.{front_none}
use Rattle.pa_attrs.proofs.feed.AttrFeed.new.Goals as goal

pub invariant_of-result : goal.invariant_of-result
invariant_of-result c = (c.new.ensures.order, omega (arith, ap (λ (o : List ℕ). length o) c.new.ensures.nothing), λ going. ap front_of c.new.ensures.nothing ∙ front_none)
