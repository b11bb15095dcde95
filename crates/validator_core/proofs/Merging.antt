-- Records that are held and records that are given, in one order of identifier.
use Rattle.std.proofs.Common.{◌≡◌, ℕ, suc, ◌≤◌, eqb, cond, Bool, true, false, List, [], ◌∷◌, ◌++◌, Option, Some, None, refl, sym, ap, ◌∙◌, subst, append_assoc, arith, eqb-true, ltb-true, ltb-false}
use Rattle.std.specs.Prelude.{nat_lt, reverse}
use Rattle.std.specs.Option.{option_or}
use Rattle.std.specs.List.Sorted.{IsStrictlyIncreasing}
use Rattle.std.proofs.lemmas.Bool.{cond_both, cond-true, eqb-false, true≢false}
use Rattle.std.proofs.lemmas.List.{reverse-append}
use Rattle.swima_model.specs.declared.record.Record.{Record}
use Rattle.swima_model.specs.InOrder.{ids}
use Rattle.swima_model.specs.Live.{record_of}
use Rattle.swima_model.proofs.Places.{Climbs, climbed, climbs, none_above, none_or}
use Rattle.swima_model.proofs.Rises.{AllFrom, from_lower}
use Rattle.validator_core.specs.Merged.{is_below, merged, merged_from}

-- ---- records that rise

-- Their identifiers rise, from this number on.
abbrev Up : ℕ → List Record → Type 0
Up n rs = AllFrom n (ids rs) × Climbs (ids rs)

up_cons : (n : ℕ) (r : Record) (rs : List Record) → n ≤ r.id → Up (suc r.id) rs → Up n (r ∷ rs)
up_cons n r rs le up = ((le, from_lower n (suc r.id) (ids rs) (omega (arith, le)) up.0), (up.0, up.1))

up_rest : (n : ℕ) (r : Record) (rs : List Record) → Up n (r ∷ rs) → Up (suc r.id) rs
up_rest n r rs up = (up.1.0, up.1.1)

up_from : (m n : ℕ) (rs : List Record) → m ≡ n → Up (suc m) rs → Up (suc n) rs
up_from m n rs same up = subst (λ (k : ℕ). Up (suc k) rs) same up

from_zero : (ns : List ℕ) → AllFrom 0 ns
from_zero [] = tt
from_zero (n ∷ ns) = (omega arith, from_zero ns)

up_strict : (rs : List Record) → IsStrictlyIncreasing (ids rs) → Up 0 rs
up_strict rs up = (from_zero (ids rs), climbs (ids rs) up)

-- Both lists together rise.
module _ (r : Record) (later : List Record → List Record) (keeps : (hs : List Record) → Up (suc r.id) hs → Up (suc r.id) (later hs)) where
  from_up : (n : ℕ) (gs : List Record) → n ≤ r.id → Up n gs → Up n (merged_from r later gs)
  from_up n [] le up = up_cons n r (later []) le (keeps [] (tt, tt))
  from_up n (g ∷ gs) le up =
      cond_both (nat_lt g.id r.id) _ _ (Up n)
      (λ below. up_cons n g (merged_from r later gs) up.0.0 (from_up (suc g.id) gs (ltb-true g.id r.id below) (up_rest n g gs up))) (λ off.
      cond_both (eqb g.id r.id) _ _ (Up n)
      (λ same.
      let is : g.id ≡ r.id = eqb-true g.id r.id same in
      up_cons n g (later gs) up.0.0 (up_from r.id g.id (later gs) (sym is) (keeps gs (up_from g.id r.id gs is (up_rest n g gs up)))))
      (λ apart.
      up_cons n r (later (g ∷ gs)) le
      (keeps (g ∷ gs) (up_cons (suc r.id) g gs (omega (arith, ltb-false g.id r.id off, eqb-false g.id r.id apart)) (up_rest n g gs up)))))

merged_up : (n : ℕ) (rs gs : List Record) → Up n rs → Up n gs → Up n (merged rs gs)
merged_up n [] gs held up = up
merged_up n (r ∷ rs) gs held up = from_up r (merged rs) (λ hs more. merged_up (suc r.id) rs hs (up_rest n r rs held) more) n gs held.0.0 up

-- ---- the record of an identifier

either_cond : (b : Bool) (g : Record) (x y : Option Record) → cond b (Some g) (option_or x y) ≡ option_or (cond b (Some g) x) y
either_cond true g x y = refl
either_cond false g x y = refl

same_cond : (b c : Bool) (g r : Record) (x y : Option Record) → b ≡ c → cond b (Some g) (option_or x y) ≡ option_or (cond b (Some g) x) (cond c (Some r) y)
same_cond true true g r x y e = refl
same_cond true false g r x y e = absurd (true≢false e)
same_cond false true g r x y e = absurd (true≢false (sym e))
same_cond false false g r x y e = refl

above_cond : (b : Bool) (r : Record) (x y : Option Record) → (b ≡ true → x ≡ None) → cond b (Some r) (option_or x y) ≡ option_or x (cond b (Some r) y)
above_cond true r x y none = ap (λ (o : Option Record). option_or o (Some r)) (sym (none refl))
above_cond false r x y none = refl

-- Of both lists together it is the given one, and else the one that is held.
module _ (q : ℕ) (r : Record) (later : List Record → List Record) (x : Option Record)
    (is : (hs : List Record) → Up (suc r.id) hs → record_of q (later hs) ≡ option_or (record_of q hs) x) where
  from_each : (n : ℕ) (gs : List Record) → Up n gs → record_of q (merged_from r later gs) ≡ option_or (record_of q gs) (cond (eqb r.id q) (Some r) x)
  from_each n [] up = ap (cond (eqb r.id q) (Some r)) (is [] (tt, tt))
  from_each n (g ∷ gs) up =
      cond_both (nat_lt g.id r.id) _ _ (λ (rs : List Record). record_of q rs ≡ option_or (record_of q (g ∷ gs)) (cond (eqb r.id q) (Some r) x))
      (λ below.
      ap (cond (eqb g.id q) (Some g)) (from_each (suc g.id) gs (up_rest n g gs up)) ∙ either_cond (eqb g.id q) g (record_of q gs) (cond (eqb r.id q) (Some r) x)) (λ off.
      cond_both (eqb g.id r.id) _ _ (λ (rs : List Record). record_of q rs ≡ option_or (record_of q (g ∷ gs)) (cond (eqb r.id q) (Some r) x))
      (λ same.
      let one : g.id ≡ r.id = eqb-true g.id r.id same in
      ap (cond (eqb g.id q) (Some g)) (is gs (up_from g.id r.id gs one (up_rest n g gs up)))
      ∙ same_cond (eqb g.id q) (eqb r.id q) g r (record_of q gs) x (ap (λ (k : ℕ). eqb k q) one))
      (λ apart.
      let more : Up (suc r.id) (g ∷ gs) = up_cons (suc r.id) g gs (omega (arith, ltb-false g.id r.id off, eqb-false g.id r.id apart)) (up_rest n g gs up) in
      ap (cond (eqb r.id q) (Some r)) (is (g ∷ gs) more)
      ∙ above_cond (eqb r.id q) r (record_of q (g ∷ gs)) x
      (λ here. subst (λ (k : ℕ). record_of k (g ∷ gs) ≡ None) (eqb-true r.id q here) (none_above r.id (suc r.id) (g ∷ gs) (omega arith) more.0))))

merged_each : (q n : ℕ) (rs gs : List Record) → Up n rs → Up n gs → record_of q (merged rs gs) ≡ option_or (record_of q gs) (record_of q rs)
merged_each q n [] gs held up = sym (none_or (record_of q gs))
merged_each q n (r ∷ rs) gs held up = from_each q r (merged rs) (record_of q rs) (λ hs more. merged_each q (suc r.id) rs hs (up_rest n r rs held) more) n gs up

module _ (base given : List Record) (rising : IsStrictlyIncreasing (ids base)) (up : IsStrictlyIncreasing (ids given)) where
  pub merged_rises : IsStrictlyIncreasing (ids (merged base given))
  merged_rises = climbed (ids (merged base given)) (merged_up 0 base given (up_strict base rising) (up_strict given up)).1

  pub merged_of : (q : ℕ) → record_of q (merged base given) ≡ option_or (record_of q given) (record_of q base)
  merged_of q = merged_each q 0 base given (up_strict base rising) (up_strict given up)

-- ---- one step of the merge

-- One record put at the end of those that are made.
pub placed : (made after : List Record) (next : Record) (rest whole : List Record) → after ≡ made ++ next ∷ [] → whole ≡ next ∷ rest → after ++ rest ≡ made ++ whole
placed made after next rest whole put is =
    ap (λ (rs : List Record). rs ++ rest) put ∙ append_assoc made (next ∷ []) rest ∙ ap (λ (rs : List Record). made ++ rs) (sym is)

-- Given records are kept the last first: the next, which is below the one that is held, is taken
-- off their end.
pub below_off : (held next : Record) (items left : List Record) → items ≡ left ++ next ∷ [] → is_below held.id (reverse items) ≡ true
    → (later : List Record) → merged (held ∷ later) (reverse items) ≡ next ∷ merged (held ∷ later) (reverse left)
below_off held next items left off below later =
    let turned : reverse items ≡ next ∷ reverse left = ap reverse off ∙ reverse-append left (next ∷ []) in
    ap (merged (held ∷ later)) turned ∙ cond-true (nat_lt next.id held.id) _ _ (subst (λ (gs : List Record). is_below held.id gs ≡ true) turned below)
