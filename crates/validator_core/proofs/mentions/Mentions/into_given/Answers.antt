-- What the last mentions say, in order, is what is live after the events alone.
use Rattle.std.proofs.Common.{[], List, rules, subst}
use Rattle.std.specs.List.Sorted.{IsPermutation}
use Rattle.std.proofs.lemmas.List.Sorted.{IsNonDecreasingBy-from_sort_by_key}
use Rattle.swima_model.specs.declared.record.Record.{Record}
use Rattle.swima_model.proofs.Rises.{rises_by}
use Rattle.validator_core.proofs.Dropping.{nothing_rises}
use Rattle.validator_core.proofs.Mentioning.{live_in_any_order}
use Rattle.validator_core.proofs.mentions.Mentions.into_given.Goals as goal

pub returns-clause-given : goal.returns-clause-given
returns-clause-given c = λ events are.
    let sorted = c.sort_unstable_by_key.new.self.items in
    let moved = subst (λ (rs : List Record). IsPermutation rs sorted) are.last c.sort_unstable_by_key.ensures.permutation in
    let up = IsNonDecreasingBy-from_sort_by_key (λ (r : Record). r.id) _ c.sort_unstable_by_key.ensures.sorted (λ a r q k. search rules) in
    live_in_any_order [] events sorted nothing_rises moved (rises_by (λ (r : Record). r.id) sorted up)
