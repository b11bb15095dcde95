use Rattle.std.proofs.Common.{◌≡◌, ◌∙◌, List, length, ℕ, ap, sym, subst, arith}
use Rattle.std.proofs.lemmas.Bool.{eqb-false}
use Rattle.std.proofs.lemmas.List.{length-map}
use Rattle.std.proofs.lemmas.Result.{IfOk-weaker}
use Rattle.collector_core.specs.Answering.{is_wanted}
use Rattle.collector_core.specs.Borrowed.{values}
use Rattle.collector_core.specs.Index.{Finds}
use Rattle.collector_core.proofs.Picked.{some_found}
use Rattle.collector_core.proofs.Wanting.{few_chosen}
use Rattle.collector_core.proofs.targets.wanted_records.Goals as goal

pub returns-then-is_empty-clause-few : goal.returns-then-is_empty-clause-few
returns-then-is_empty-clause-few c =
    IfOk-weaker c.walked.result _ _ (λ made is. few_chosen made.items (λ r. is_wanted c.args.targets.now r.content.ident) c.args.records.now.records is) c.walked.ensures.wanted

pub returns-clause-wanted : goal.returns-clause-wanted
returns-clause-wanted c =
    let some : length c.args.targets.now ≡ 0 → ⊥ = λ none.
    eqb-false _ _ (sym c.is_empty.ensures ∙ c.if-is_empty.false)
    (omega (arith, none, ap length c.targets.view_is, length-map c.targets.inside.rising.items (λ b. b.now), c.targets.inside.rising.ok.0)) in
    let finds = subst (λ (targets : List (List ℕ)). Finds targets c.index.result.now c.in_ok-ids.ids) (ap values c.as_slice.ensures.value ∙ c.targets.view_is) c.in_ok-ids.ensures.found in
    let all = some_found c.args.targets.now c.index.result.now c.in_ok-ids.ids c.args.records.now.next c.args.records.now.records some c.index.ensures.index c.index.ensures.rising c.index.ensures.next c.picked.ensures.ordered finds in
    IfOk-weaker c.picked.result _ _ (λ made is. is ∙ all) c.picked.ensures.picked

pub returns-clause-few : goal.returns-clause-few
returns-clause-few c =
    IfOk-weaker c.picked.result _ _ (λ made is. few_chosen made.items (λ r. is_wanted c.args.targets.now r.content.ident) c.args.records.now.records is) (returns-clause-wanted c)
