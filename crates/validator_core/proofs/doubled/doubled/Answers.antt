-- The first number that equals the one before it is the least that stands twice.
use Rattle.std.proofs.Common.{◌∙◌, ◌≡◌, ◌+◌, ◌<◌, ℕ, List, Option, Some, None, true, eqb, ap, sym, subst, get_or, drop, length, eqb-true}
use Rattle.std.specs.Option.{option_eq}
use Rattle.std.proofs.lemmas.Bool.{cond-true, false≢true}
use Rattle.std.proofs.lemmas.List.{at_drop_all, at_drop_more}
use Rattle.swima_model.specs.Repeated.{IsLeastRepeated}
use Rattle.swima_model.proofs.Rises.{rises, repeat_after, least_of_rising}
use Rattle.validator_core.specs.Placed.{ids_of}
use Rattle.validator_core.specs.declared.order.Placed.{Placed}
use Rattle.validator_core.proofs.doubled.doubled.Goals as goal

found_here : (before : Option ℕ) (places : List Placed) (i : ℕ) (d : Placed) → i < length places → option_eq eqb before (Some (get_or places i d).id) ≡ true
    → repeat_after before (ids_of (drop i places)) ≡ before
found_here None places i d lt e = absurd (false≢true e)
found_here (Some b) places i d lt e =
    let n = (get_or places i d).id in
    at_drop_more (λ (ps : List Placed). repeat_after (Some b) (ids_of ps)) places i d lt
    ∙ cond-true (eqb b n) (Some n) (repeat_after (Some n) (ids_of (drop (i + 1) places))) e
    ∙ ap (λ (m : ℕ). Some m) (sym (eqb-true b n e))

pub returns-then-eq : goal.returns-then-eq
returns-then-eq c =
    let numbers = ids_of c.args.places.now in
    let here = found_here c.loop-placed.before c.args.places.now c.loop-placed.placed-index _ c.loop-placed-test.true (sym c.eq.ensures ∙ c.if-eq.true) in
    record { least = subst (IsLeastRepeated numbers) (sym c.loop-placed.invariant ∙ here) (least_of_rising numbers (rises numbers c.requires.rising)) }

pub returns : goal.returns
returns c =
    let numbers = ids_of c.args.places.now in
    let none = at_drop_all (λ (ps : List Placed). repeat_after c.loop-placed.before (ids_of ps)) c.args.places.now c.loop-placed.placed-index c.loop-placed-test.false in
    record { least = subst (IsLeastRepeated numbers) (sym c.loop-placed.invariant ∙ none) (least_of_rising numbers (rises numbers c.requires.rising)) }
