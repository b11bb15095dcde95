-- A stable sort by identifier is `by_id`.
use Rattle.std.proofs.Common.{◌∙◌, ap, rules}
use Rattle.std.proofs.lemmas.List.Sorted.{IsNonDecreasingBy-from_sort_by_key, answers_always}
use Rattle.swima_model.proofs.ByNumber.{sorted_is_in_order}
use Rattle.source_set.specs.Keys.{Held, by_id}
use Rattle.source_set.proofs.keys.Keys.by_id.Goals as goal

pub returns : goal.returns
returns c =
    let up = IsNonDecreasingBy-from_sort_by_key (λ (held : Held). held.1) _ c.in_ok-sort_by_key.ensures.sorted (λ a r q k. search rules) in
    let stable = c.in_ok-sort_by_key.ensures.stable (λ (held : Held). held.1) (answers_always _ _ _ (λ f a r g h. search rules)) in
    record { order = c.from_vec.ensures.items ∙ sorted_is_in_order (λ (held : Held). held.1) c.in_ok-held.held.items c.sort_by_key.new.self.items up stable ∙ ap by_id (c.in_ok-held.ensures.entries ∙ c.self.view_is) }
