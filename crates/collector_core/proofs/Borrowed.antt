-- Sums over values that are borrowed.
use Rattle.std.proofs.Common.{◌≡◌, ◌∙◌, ◌+◌, ℕ, List, [], ◌∷◌, refl, sym, ap}
use Rattle.std.specs.List.{sum_by}
use Rattle.std.proofs.lemmas.List.Sums.{sum_by-cons}
use Rattle.collector_core.specs.Borrowed.{values}
use denote.Ref.{Bor}

pub sum_of_values : {X : Type 0} (f : X → ℕ) (bs : List (Bor X)) → sum_by f (values bs) ≡ sum_by (λ (b : Bor X). f b.now) bs
sum_of_values f [] = refl
sum_of_values f (b ∷ bs) = sum_by-cons f b.now (values bs) ∙ ap (λ (n : ℕ). f b.now + n) (sum_of_values f bs) ∙ sym (sum_by-cons (λ b. f b.now) b bs)
