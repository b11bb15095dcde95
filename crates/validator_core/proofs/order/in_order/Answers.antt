-- Where no two have the same identifier, each sort by identifier gives `in_order`.
use Rattle.std.proofs.Common.{◌≡◌, ◌∙◌, ◌++◌, ℕ, List, ap, rules, subst, take, drop, length}
use Rattle.std.specs.List.Sorted.{IsPermutation, IsStrictlyIncreasing}
use Rattle.std.proofs.Math.Seq.{take-append_seam}
use Rattle.std.proofs.lemmas.List.Sorted.{IsNonDecreasingBy-from_sort_by_key, IsPermutation-sym, IsPermutation-trans, length_permutation}
use Rattle.swima_model.specs.declared.record.Record.{Record}
use Rattle.swima_model.specs.Doubled.{doubled}
use Rattle.swima_model.specs.InOrder.{ids, in_order}
use Rattle.swima_model.proofs.Placing.{in_order_permutation, in_order_rising_permutation}
use Rattle.swima_model.proofs.Rises.{rises_by}
use Rattle.validator_core.proofs.Mentioning.{same_in_order}
use Rattle.validator_core.proofs.order.in_order.Goals as goal

pub returns : goal.returns
returns c =
    let given = c.into_vec-items.result.items in
    let placed = c.move_each.new.items in
    let rest = drop (length placed) given in
    let made = c.sort_unstable_by_key.new.self.items in
    let copied = c.into_vec-items.ensures.items in
    let up = IsNonDecreasingBy-from_sort_by_key (λ (r : Record). r.id) _ c.sort_unstable_by_key.ensures.sorted (λ a r q k. search rules) in
    let len = length_permutation _ placed c.move_each.ensures.same ∙ c.as_mut_slice.ensures.len in
    let whole : take c.into_vec-items.result.len (placed ++ rest) ≡ placed = subst (λ (n : ℕ). take n (placed ++ rest) ≡ placed) len (take-append_seam placed rest) in
    let put : IsPermutation given placed = subst (λ (rs : List Record). IsPermutation rs placed) c.as_mut_slice.ensures.value c.move_each.ensures.same in
    let moved : IsPermutation given made = IsPermutation-trans given placed made put (subst (λ (rs : List Record). IsPermutation rs made) whole c.sort_unstable_by_key.ensures.permutation) in
    let turned : IsPermutation (in_order given) made = IsPermutation-trans (in_order given) given made (IsPermutation-sym given (in_order given) (in_order_permutation given)) moved in
    record {
      same = subst (λ (rs : List Record). IsPermutation rs made) copied moved;
      order = λ none.
          let strict : IsStrictlyIncreasing (ids (in_order given)) = (in_order_rising_permutation given).strict (ap (λ (rs : List Record). doubled (ids rs)) copied ∙ none) in
          same_in_order (in_order given) made turned strict (rises_by (λ (r : Record). r.id) _ up) ∙ ap in_order copied;
    }
