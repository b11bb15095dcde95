use Rattle.std.proofs.Common.{rules, ◌≡◌, ◌∙◌, ℕ, List, [], ap, length, subst, sym}
use Rattle.std.specs.List.Sorted.{IsPermutation}
use Rattle.std.specs.List.{list_any}
use Rattle.std.proofs.lemmas.List.{take_at}
use denote.Ref.{Bor}
use Rattle.collector_core.specs.Answering.{is_later}
use Rattle.collector_core.proofs.Moving.{one_later}
use Rattle.collector_core.proofs.moved.has_later.Goals as goal

pub returns-then-is_empty : goal.returns-then-is_empty
returns-then-is_empty c =
    let none : c.args.targets.now ≡ [] = search rules in
    record { later = c.keeps_later.ensures.later ∙ ap (λ (targets : List (List ℕ)). list_any (is_later c.args.after targets) c.args.log.now.events) (sym none) }

pub returns : goal.returns
returns c =
    let some : c.args.targets.now ≡ [] → ⊥ = search rules in
    let same = c.as_slice.ensures.value ∙ take_at _ _ _ (c.sort_unstable.ensures.len ∙ ap length c.deref_mut.ensures.value) in
    record {
      later = c.has_one_of.ensures.any ∙ one_later c.args.after c.args.targets.now c.args.log.now.events c.later_idents-later.result.items c.as_slice.result.now some c.later_idents-later.ensures.idents
          (subst (λ (xs : List (Bor (List ℕ))). IsPermutation c.later_idents-later.result.items xs) (sym same)
          (subst (λ (xs : List (Bor (List ℕ))). IsPermutation xs c.sort_unstable.new.self) c.deref_mut.ensures.value c.sort_unstable.ensures.permutation));
    }
