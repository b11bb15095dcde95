-- Keys put among others, and taken out again.
use Rattle.std.proofs.Common.{◌≡◌, ℕ, cond, Bool, List, [], ◌∷◌, None, Some, Less, Equal, Greater, nat_cmp, refl, sym, ap, ap₂, ◌∙◌, arith}
use Rattle.std.specs.Ordering.{is_eq, match_ordering}
use Rattle.std.specs.declared.cmp.Ordering.{Ordering}
use Rattle.std.proofs.lemmas.Bool.{le-ltb, eq-eqb}
use Rattle.std.proofs.lemmas.Option.{none-some}
use Rattle.source_set.specs.Keys.{Held, id_at, with_key, without}

-- A number is equal to itself.
pub itself : (k : ℕ) → nat_cmp k k ≡ Equal
itself k = ap₂ (λ (below same : Bool). cond below Less (cond same Equal Greater)) (le-ltb k k (omega arith)) (eq-eqb k k refl)

-- ---- one key among keys, by how it stands to the first

pub put_at : (o : Ordering) (key id : ℕ) (e : Held) (es : List Held) → nat_cmp key e.0 ≡ o
    → with_key key id (e ∷ es) ≡ match_ordering o ((key, id) ∷ e ∷ es) ((e.0, id) ∷ es) (e ∷ with_key key id es)
put_at o key id e es is = ap (λ (p : Ordering). match_ordering p ((key, id) ∷ e ∷ es) ((e.0, id) ∷ es) (e ∷ with_key key id es)) is

pub find_at : (o : Ordering) (key : ℕ) (e : Held) (es : List Held) → nat_cmp key e.0 ≡ o → id_at key (e ∷ es) ≡ cond (is_eq o) (Some e.1) (id_at key es)
find_at o key e es is = ap (λ (p : Ordering). cond (is_eq p) (Some e.1) (id_at key es)) is

pub leave_at : (o : Ordering) (key : ℕ) (e : Held) (es : List Held) → nat_cmp key e.0 ≡ o → without key (e ∷ es) ≡ cond (is_eq o) es (e ∷ without key es)
leave_at o key e es is = ap (λ (p : Ordering). cond (is_eq p) es (e ∷ without key es)) is

-- ---- a key that was put is found

found-step : (o : Ordering) (key id : ℕ) (e : Held) (es : List Held) → nat_cmp key e.0 ≡ o → id_at key (with_key key id es) ≡ Some id → id_at key (with_key key id (e ∷ es)) ≡ Some id
found-step Less key id e es is later = ap (id_at key) (put_at Less key id e es is) ∙ find_at Equal key (key, id) (e ∷ es) (itself key)
found-step Equal key id e es is later = ap (id_at key) (put_at Equal key id e es is) ∙ find_at Equal key (e.0, id) es is
found-step Greater key id e es is later = ap (id_at key) (put_at Greater key id e es is) ∙ find_at Greater key e (with_key key id es) is ∙ later

pub found : (key id : ℕ) (es : List Held) → id_at key (with_key key id es) ≡ Some id
found key id [] = find_at Equal key (key, id) [] (itself key)
found key id (e ∷ es) = found-step (nat_cmp key e.0) key id e es refl (found key id es)

-- ---- put twice is put once

twice-step : (o : Ordering) (key id : ℕ) (e : Held) (es : List Held) → nat_cmp key e.0 ≡ o → with_key key id (with_key key 0 es) ≡ with_key key id es
    → with_key key id (with_key key 0 (e ∷ es)) ≡ with_key key id (e ∷ es)
twice-step Less key id e es is later =
    ap (with_key key id) (put_at Less key 0 e es is) ∙ put_at Equal key id (key, 0) (e ∷ es) (itself key) ∙ sym (put_at Less key id e es is)
twice-step Equal key id e es is later = ap (with_key key id) (put_at Equal key 0 e es is) ∙ put_at Equal key id (e.0, 0) es is ∙ sym (put_at Equal key id e es is)
twice-step Greater key id e es is later =
    ap (with_key key id) (put_at Greater key 0 e es is) ∙ put_at Greater key id e (with_key key 0 es) is ∙ ap (λ (rest : List Held). e ∷ rest) later
    ∙ sym (put_at Greater key id e es is)

pub twice : (key id : ℕ) (es : List Held) → with_key key id (with_key key 0 es) ≡ with_key key id es
twice key id [] = put_at Equal key id (key, 0) [] (itself key)
twice key id (e ∷ es) = twice-step (nat_cmp key e.0) key id e es refl (twice key id es)

-- ---- a new key taken out again leaves the keys as they were

back-step : (o : Ordering) (key : ℕ) (e : Held) (es : List Held) → nat_cmp key e.0 ≡ o → id_at key (e ∷ es) ≡ None → (id_at key es ≡ None → without key (with_key key 0 es) ≡ es)
    → without key (with_key key 0 (e ∷ es)) ≡ e ∷ es
back-step Less key e es is none later = ap (without key) (put_at Less key 0 e es is) ∙ leave_at Equal key (key, 0) (e ∷ es) (itself key)
back-step Equal key e es is none later = absurd (none-some e.1 (sym none ∙ find_at Equal key e es is))
back-step Greater key e es is none later =
    ap (without key) (put_at Greater key 0 e es is) ∙ leave_at Greater key e (with_key key 0 es) is
    ∙ ap (λ (rest : List Held). e ∷ rest) (later (sym (find_at Greater key e es is) ∙ none))

pub back : (key : ℕ) (es : List Held) → id_at key es ≡ None → without key (with_key key 0 es) ≡ es
back key [] none = leave_at Equal key (key, 0) [] (itself key)
back key (e ∷ es) none = back-step (nat_cmp key e.0) key e es refl none (back key es)
