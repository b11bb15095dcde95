-- Lists that are changed from their first place on.
use Rattle.std.proofs.Common.{◌≡◌, ◌<◌, ◌≤◌, ◌+◌, ◌∙◌, inl, inr, ℕ, List, get_or, length, set, refl, sym, subst, arith}
use Rattle.std.proofs.lemmas.Bool.{cases_eq}
use Rattle.std.proofs.lemmas.List.{get_or-set_other, get_or-set_same, get_or_default, length-set}

-- At the first places this is so of what was there before and is there after, and the others are as
-- they were.
module _ {A : Type 0} (so : ℕ → A → A → Type 0) where
  pub record UpTo (k : ℕ) (before after : List A) : Type 0 where
    pub count : length after ≡ length before
    pub done : (place : ℕ) (other : A) → place < k → place < length before → so place (get_or before place other) (get_or after place other)
    pub rest : (place : ℕ) (other : A) → k ≤ place → get_or after place other ≡ get_or before place other

  pub none_yet : (xs : List A) → UpTo 0 xs xs
  none_yet xs = record {
    count = refl;
    done = λ place other less within. absurd (omega (arith, less));
    rest = λ place other more. refl;
  }

  pub one_more : (k : ℕ) (xs ys : List A) (x y : A) → k < length xs → UpTo k xs ys → x ≡ get_or ys k x → so k x y → UpTo (k + 1) xs (set ys k y)
  one_more k xs ys x y less far at now = record {
    count = length-set ys k y ∙ far.count;
    done = λ place other soon within. elim (cases_eq place k) [
      | inl same ↦ here place other same
      | inr apart ↦ subst (λ (a : A). so place (get_or xs place other) a) (sym (get_or-set_other ys k place y other apart)) (far.done place other (omega (arith, soon, apart)) within)
    ];
    rest = λ place other later.
        get_or-set_other ys k place y other (λ same. absurd (omega (arith, later, same))) ∙ far.rest place other (omega (arith, later));
  }
    where
      there : k < length ys
      there = omega (arith, less, far.count)

      was : (other : A) → x ≡ get_or xs k other
      was other = at ∙ get_or_default ys k x other there ∙ far.rest k other (omega arith)

      here : (place : ℕ) (other : A) → place ≡ k → so place (get_or xs place other) (get_or (set ys k y) place other)
      here place other same =
          subst (λ (p : ℕ). so p (get_or xs p other) (get_or (set ys k y) p other)) (sym same)
          (subst (λ (a : A). so k a (get_or (set ys k y) k other)) (was other)
          (subst (λ (a : A). so k x a) (sym (get_or-set_same ys k y other there)) now))
