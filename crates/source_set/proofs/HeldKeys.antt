-- The keys that a source holds, and what it said of them last.
use Rattle.std.proofs.Common.{◌≡◌, ◌≢◌, inl, inr, ℕ, eqb, leb, ltb, cond, Bool, true, false, List, [], ◌∷◌, None, Some, Less, Equal, Greater, nat_cmp, refl, sym, ap, ◌∙◌, subst, ne_eqb}
use Rattle.std.specs.Ordering.{is_eq}
use Rattle.std.specs.declared.cmp.Ordering.{Ordering}
use Rattle.std.proofs.lemmas.Bool.{cases_eq}
use Rattle.std.proofs.lemmas.Option.{none-some}
use Rattle.swima_model.specs.ByNumber.{put_by}
use Rattle.source_set.specs.Keys.{Held, by_id, id_at, ids, with_key, without}
use Rattle.source_set.specs.Records.{IsAmong}
use Rattle.source_set.proofs.KeyLaws.{find_at, itself, leave_at, put_at}

-- ---- one key and another

apart_cmp-step : (less same : Bool) → same ≡ false → is_eq (cond less Less (cond same Equal Greater)) ≡ false
apart_cmp-step true same is = refl
apart_cmp-step false same is = ap (λ (s : Bool). is_eq (cond s Equal Greater)) is

apart_cmp : (a b : ℕ) → a ≢ b → is_eq (nat_cmp a b) ≡ false
apart_cmp a b other = apart_cmp-step (ltb a b) (eqb a b) (ne_eqb a b other)

equal_same : (a b : ℕ) → nat_cmp a b ≡ Equal → a ≡ b
equal_same a b is = elim (cases_eq a b) [ inl same ↦ same | inr other ↦ let no : is_eq (nat_cmp a b) ≡ false = apart_cmp a b other in let yes : is_eq (nat_cmp a b) ≡ true = ap is_eq is in absurd cc ]

-- The first of some keys is looked at.
hit : (key : ℕ) (e : Held) (es : List Held) → key ≡ e.0 → id_at key (e ∷ es) ≡ Some e.1
hit key e es is = find_at Equal key e es (ap (λ (k : ℕ). nat_cmp key k) (sym is) ∙ itself key)

miss : (key : ℕ) (e : Held) (es : List Held) → key ≢ e.0 → id_at key (e ∷ es) ≡ id_at key es
miss key e es other = ap (λ (t : Bool). cond t (Some e.1) (id_at key es)) (apart_cmp key e.0 other)

drop_hit : (key : ℕ) (e : Held) (es : List Held) → key ≡ e.0 → without key (e ∷ es) ≡ es
drop_hit key e es is = leave_at Equal key e es (ap (λ (k : ℕ). nat_cmp key k) (sym is) ∙ itself key)

drop_miss : (key : ℕ) (e : Held) (es : List Held) → key ≢ e.0 → without key (e ∷ es) ≡ e ∷ without key es
drop_miss key e es other = ap (λ (t : Bool). cond t es (e ∷ without key es)) (apart_cmp key e.0 other)

-- ---- a key that is put leaves the others

other_put-step : (o : Ordering) (q k id : ℕ) (e : Held) (es : List Held) → nat_cmp k e.0 ≡ o → q ≢ k → id_at q (with_key k id es) ≡ id_at q es → id_at q (with_key k id (e ∷ es)) ≡ id_at q (e ∷ es)
other_put-step Less q k id e es is other later = ap (id_at q) (put_at Less k id e es is) ∙ miss q (k, id) (e ∷ es) other
other_put-step Equal q k id e es is other later =
    let apart : q ≢ e.0 = λ same. other (same ∙ sym (equal_same k e.0 is)) in
    ap (id_at q) (put_at Equal k id e es is) ∙ miss q (e.0, id) es apart ∙ sym (miss q e es apart)
other_put-step Greater q k id e es is other later = ap (id_at q) (put_at Greater k id e es is) ∙ elim (cases_eq q e.0) [
  | inl same ↦ hit q e (with_key k id es) same ∙ sym (hit q e es same)
  | inr apart ↦ miss q e (with_key k id es) apart ∙ later ∙ sym (miss q e es apart)
]

pub other_put : (q k id : ℕ) (es : List Held) → q ≢ k → id_at q (with_key k id es) ≡ id_at q es
other_put q k id [] other = miss q (k, id) [] other
other_put q k id (e ∷ es) other = other_put-step (nat_cmp k e.0) q k id e es refl other (other_put q k id es other)

-- ---- a key that is taken out leaves the others

pub other_without : (q k : ℕ) (es : List Held) → q ≢ k → id_at q (without k es) ≡ id_at q es
other_without q k [] other = refl
other_without q k (e ∷ es) other = elim (cases_eq k e.0) [
  | inl same ↦ ap (id_at q) (drop_hit k e es same) ∙ sym (miss q e es (λ is. other (is ∙ sym same)))
  | inr apart ↦ ap (id_at q) (drop_miss k e es apart) ∙ elim (cases_eq q e.0) [
    | inl here ↦ hit q e (without k es) here ∙ sym (hit q e es here)
    | inr there ↦ miss q e (without k es) there ∙ other_without q k es other ∙ sym (miss q e es there)
  ]
]

-- Each key is there once.
abbrev pub Once : List Held → Type 0
Once [] = Unit {0}
Once (e ∷ es) = (id_at e.0 es ≡ None) × Once es

pub gone_without : (k : ℕ) (es : List Held) → Once es → id_at k (without k es) ≡ None
gone_without k [] once = refl
gone_without k (e ∷ es) once = elim (cases_eq k e.0) [
  | inl same ↦ ap (id_at k) (drop_hit k e es same) ∙ ap (λ (q : ℕ). id_at q es) same ∙ once.0
  | inr apart ↦ ap (id_at k) (drop_miss k e es apart) ∙ miss k e (without k es) apart ∙ gone_without k es once.1
]

none_without : (q k : ℕ) (es : List Held) → Once es → id_at q es ≡ None → id_at q (without k es) ≡ None
none_without q k es once none = elim (cases_eq q k) [
  | inl same ↦ ap (λ (p : ℕ). id_at p (without k es)) same ∙ gone_without k es once
  | inr apart ↦ other_without q k es apart ∙ none
]

pub once_without : (k : ℕ) (es : List Held) → Once es → Once (without k es)
once_without k [] once = tt
once_without k (e ∷ es) once = elim (cases_eq k e.0) [
  | inl same ↦ subst Once (sym (drop_hit k e es same)) once.1
  | inr apart ↦ subst Once (sym (drop_miss k e es apart)) (none_without e.0 k es once.1 once.0, once_without k es once.1)
]

once_put-step : (o : Ordering) (k id : ℕ) (e : Held) (es : List Held) → nat_cmp k e.0 ≡ o → id_at k (e ∷ es) ≡ None → Once (e ∷ es) → (id_at k es ≡ None → Once (with_key k id es)) → Once (with_key k id (e ∷ es))
once_put-step Less k id e es is none once later = subst Once (sym (put_at Less k id e es is)) (none, once)
once_put-step Equal k id e es is none once later = absurd (none-some e.1 (sym none ∙ find_at Equal k e es is))
once_put-step Greater k id e es is none once later =
    let apart : e.0 ≢ k = λ same. let at : nat_cmp k e.0 ≡ Equal = ap (λ (q : ℕ). nat_cmp k q) same ∙ itself k in absurd cc in
    subst Once (sym (put_at Greater k id e es is)) (other_put e.0 k id es apart ∙ once.0, later (sym (find_at Greater k e es is) ∙ none))

pub once_put : (k id : ℕ) (es : List Held) → id_at k es ≡ None → Once es → Once (with_key k id es)
once_put k id [] none once = (refl, tt)
once_put k id (e ∷ es) none once = once_put-step (nat_cmp k e.0) k id e es refl none once (λ n. once_put k id es n once.1)

-- ---- all keys

at_among : (key id : ℕ) (es : List Held) → id_at key es ≡ Some id → IsAmong id (ids es)
at_among key id [] is = absurd (none-some id is)
at_among key id (e ∷ es) is = elim (cases_eq key e.0) [
  | inl same ↦ let here : Some e.1 ≡ Some id = sym (hit key e es same) ∙ is in inl cc
  | inr apart ↦ inr (at_among key id es (sym (miss key e es apart) ∙ is))
]

abbrev put : Held → List Held → List Held
put held keys = put_by (λ (held : Held). held.1) held keys

put_here-step : (e f : Held) (es : List Held) (test : Bool) → IsAmong e.1 (ids (put e es)) → IsAmong e.1 (ids (cond test (e ∷ f ∷ es) (f ∷ put e es)))
put_here-step e f es true later = inl refl
put_here-step e f es false later = inr later

put_there-step : (id : ℕ) (e f : Held) (es : List Held) (test : Bool) → IsAmong id (ids (f ∷ es)) → (IsAmong id (ids es) → IsAmong id (ids (put e es))) → IsAmong id (ids (cond test (e ∷ f ∷ es) (f ∷ put e es)))
put_there-step id e f es true is later = inr is
put_there-step id e f es false (inl here) later = inl here
put_there-step id e f es false (inr there) later = inr (later there)

put_here : (e : Held) (es : List Held) → IsAmong e.1 (ids (put e es))
put_here e [] = inl refl
put_here e (f ∷ es) = put_here-step e f es (leb e.1 f.1) (put_here e es)

put_there : (id : ℕ) (e : Held) (es : List Held) → IsAmong id (ids es) → IsAmong id (ids (put e es))
put_there id e [] is = absurd is
put_there id e (f ∷ es) is = put_there-step id e f es (leb e.1 f.1) is (put_there id e es)

sorted_among : (id : ℕ) (es : List Held) → IsAmong id (ids es) → IsAmong id (ids (by_id es))
sorted_among id [] is = is
sorted_among id (e ∷ es) (inl here) = subst (λ (n : ℕ). IsAmong n (ids (put e (by_id es)))) here (put_here e (by_id es))
sorted_among id (e ∷ es) (inr there) = put_there id e (by_id es) (sorted_among id es there)

pub key_sorted : (key id : ℕ) (es : List Held) → id_at key es ≡ Some id → IsAmong id (ids (by_id es))
key_sorted key id es is = sorted_among id es (at_among key id es is)
