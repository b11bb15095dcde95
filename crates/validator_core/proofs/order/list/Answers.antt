-- Sorting changes only the order.
use Rattle.std.proofs.Common.{◌∙◌, List, ap, rules, subst, ℕ}
use Rattle.std.specs.List.Sorted.{IsPermutation}
use Rattle.std.proofs.lemmas.List.{take_all}
use Rattle.std.proofs.lemmas.List.Sorted.{IsNonDecreasingBy-from_sort_by_key, IsPermutation-map}
use Rattle.swima_model.specs.InOrder.{ids}
use Rattle.swima_model.proofs.Rises.{does_not_fall, rises_by}
use Rattle.validator_core.specs.declared.order.Placed.{Placed}
use Rattle.validator_core.specs.Placed.{ids_of}
use Rattle.validator_core.proofs.order.list.Goals as goal

pub returns-clause-order : goal.returns-clause-order
returns-clause-order c =
    let records = c.args.records.now in
    let sorted = c.sort_unstable_by_key.new.self.items in
    let all = c.loop-place.invariant.ids ∙ ap ids (take_all c.loop-place.place records c.loop-place-test.false) in
    let up = IsNonDecreasingBy-from_sort_by_key (λ (p : Placed). p.id) _ c.sort_unstable_by_key.ensures.sorted (λ a r q k. search rules) in
    record {
      same = subst (λ (numbers : List ℕ). IsPermutation numbers (ids_of sorted)) all (IsPermutation-map (λ (p : Placed). p.id) _ sorted c.sort_unstable_by_key.ensures.permutation);
      rising = does_not_fall (ids_of sorted) (rises_by (λ (p : Placed). p.id) sorted up);
    }
