-- What the keys of a source say of the records that its deeds leave.
use Rattle.std.proofs.Common.{◌≡◌, ◌≢◌, ◌⊎◌, inl, inr, ℕ, ◌+◌, ◌<◌, ◌≤◌, eqb, cond, Bool, true, false, List, [], ◌∷◌, Option, None, Some, refl, sym, ap, ◌∙◌, arith, eq-eqb, ne_eqb}
use Rattle.std.specs.List.{fold}
use Rattle.std.proofs.lemmas.Bool.{cases_eq}
use Rattle.std.proofs.lemmas.Option.{none-some}
use Rattle.swima_model.specs.declared.record.Content.{Content}
use Rattle.source_set.specs.Deeds.{Deletes, deletions}
use Rattle.source_set.specs.Keys.{Held, by_id, id_at, ids, with_key, without}
use Rattle.source_set.specs.Records.{IsAmong, content_after}
use Rattle.source_set.proofs.HeldKeys.{Once, gone_without, key_sorted, once_put, once_without, other_put, other_without}
use Rattle.source_set.proofs.KeyLaws.{found}

-- A source holds these keys, said this of each key, and its deeds leave this of each identifier.
-- The identifiers that were made are below a number.
pub record Reflects (n : ℕ) (keys : List Held) (said held : ℕ → Option Content) (made : ℕ → Type 0) : Type 0 where
  pub once : Once keys
  pub recorded : (key id : ℕ) → id_at key keys ≡ Some id → (content : Content) × (said key ≡ Some content) × (held id ≡ Some content) × (id < n) × made id
  pub apart : (one other id : ℕ) → id_at one keys ≡ Some id → id_at other keys ≡ Some id → one ≡ other
  pub gone : (id : ℕ) → made id → ((key : ℕ) → id_at key keys ≡ Some id → ⊥) → held id ≡ None
  pub below : (id : ℕ) → made id → id < n

some_same : (one other : ℕ) → Some one ≡ Some other → one ≡ other
some_same one other e = cc

-- What a test says of a number that is, or is not, the one that is meant.
yes : {X : Type 0} → (at id : ℕ) (x y : X) → at ≡ id → cond (eqb at id) x y ≡ x
yes at id x y is = ap (λ (t : Bool). cond t x y) (eq-eqb at id is)

no : {X : Type 0} → (at id : ℕ) (x y : X) → at ≢ id → cond (eqb at id) x y ≡ y
no at id x y other = ap (λ (t : Bool). cond t x y) (ne_eqb at id other)

-- ---- a record is created

pub created_key : (n : ℕ) (keys : List Held) (said held : ℕ → Option Content) (made : ℕ → Type 0) (key new : ℕ) (content : Content) → Reflects n keys said held made → id_at key keys ≡ None → n ≤ new
    → Reflects (new + 1) (with_key key new keys) (λ q. cond (eqb key q) (Some content) (said q)) (λ i. cond (eqb new i) (Some content) (held i)) (λ i. made i ⊎ (new ≡ i))
created_key n keys said held made key new content was absent least = record {
  once = once_put key new keys absent was.once;
  recorded = λ q id at. elim (cases_eq q key) [
    | inl same ↦
        let is : new ≡ id = some_same new id (sym (found key new keys) ∙ ap (λ (k : ℕ). id_at k (with_key key new keys)) (sym same) ∙ at) in
        (content, yes key q (Some content) (said q) (sym same), yes new id (Some content) (held id) is, omega (arith, is), inr is)
    | inr other ↦
        let old = was.recorded q id (sym (other_put q key new keys other) ∙ at) in
        let apart : new ≢ id = λ is. omega (arith, is, old.3, least) in
        (old.0, no key q (Some content) (said q) (λ is. other (sym is)) ∙ old.1, no new id (Some content) (held id) apart ∙ old.2, omega (arith, old.3, least), inl old.4)
  ];
  apart = λ one other id a b. elim (cases_eq one key) [
    | inl first ↦ elim (cases_eq other key) [
      | inl second ↦ first ∙ sym second
      | inr second ↦
          let is : new ≡ id = some_same new id (sym (found key new keys) ∙ ap (λ (k : ℕ). id_at k (with_key key new keys)) (sym first) ∙ a) in
          let old = was.recorded other id (sym (other_put other key new keys second) ∙ b) in
          absurd (omega (arith, is, old.3, least))
    ]
    | inr first ↦ elim (cases_eq other key) [
      | inl second ↦
          let is : new ≡ id = some_same new id (sym (found key new keys) ∙ ap (λ (k : ℕ). id_at k (with_key key new keys)) (sym second) ∙ b) in
          let old = was.recorded one id (sym (other_put one key new keys first) ∙ a) in
          absurd (omega (arith, is, old.3, least))
      | inr second ↦ was.apart one other id (sym (other_put one key new keys first) ∙ a) (sym (other_put other key new keys second) ∙ b)
    ]
  ];
  gone = λ id is none. elim is [
    | inl old ↦
        let apart : new ≢ id = λ same. omega (arith, same, was.below id old, least) in
        no new id (Some content) (held id) apart
        ∙ was.gone id old (λ q at. elim (cases_eq q key) [
          | inl same ↦ none-some id (sym absent ∙ ap (λ (k : ℕ). id_at k keys) (sym same) ∙ at)
          | inr other ↦ none q (other_put q key new keys other ∙ at)
        ])
    | inr same ↦ absurd (none key (found key new keys ∙ ap (λ (i : ℕ). Some i) same))
  ];
  below = λ id is. elim is [ inl old ↦ omega (arith, was.below id old, least) | inr same ↦ omega (arith, same) ];
}

-- ---- a record is altered

pub altered_key : (n : ℕ) (keys : List Held) (said held : ℕ → Option Content) (made : ℕ → Type 0) (key at : ℕ) (content : Content) → Reflects n keys said held made → id_at key keys ≡ Some at
    → Reflects n keys (λ q. cond (eqb key q) (Some content) (said q)) (λ i. cond (eqb at i) (Some content) (held i)) made
altered_key n keys said held made key at content was here = record {
  once = was.once;
  recorded = λ q id is. let old = was.recorded q id is in elim (cases_eq q key) [
    | inl same ↦
        let one : at ≡ id = some_same at id (sym here ∙ ap (λ (k : ℕ). id_at k keys) (sym same) ∙ is) in
        (content, yes key q (Some content) (said q) (sym same), yes at id (Some content) (held id) one, old.3, old.4)
    | inr other ↦
        let apart : at ≢ id = λ one. other (was.apart q key id is (here ∙ ap (λ (i : ℕ). Some i) one)) in
        (old.0, no key q (Some content) (said q) (λ e. other (sym e)) ∙ old.1, no at id (Some content) (held id) apart ∙ old.2, old.3, old.4)
  ];
  apart = was.apart;
  gone = λ id is none.
      let apart : at ≢ id = λ one. none key (here ∙ ap (λ (i : ℕ). Some i) one) in
      no at id (Some content) (held id) apart ∙ was.gone id is none;
  below = was.below;
}

-- ---- a record is deleted

pub deleted_key : (n : ℕ) (keys : List Held) (said held : ℕ → Option Content) (made : ℕ → Type 0) (key at : ℕ) → Reflects n keys said held made → id_at key keys ≡ Some at
    → Reflects n (without key keys) (λ q. cond (eqb key q) None (said q)) (λ i. cond (eqb at i) None (held i)) made
deleted_key n keys said held made key at was here = record {
  once = once_without key keys was.once;
  recorded = λ q id is. elim (cases_eq q key) [
    | inl same ↦ absurd (none-some id (sym (gone_without key keys was.once) ∙ ap (λ (k : ℕ). id_at k (without key keys)) (sym same) ∙ is))
    | inr other ↦
        let there = sym (other_without q key keys other) ∙ is in
        let old = was.recorded q id there in
        let apart : at ≢ id = λ one. other (was.apart q key id there (here ∙ ap (λ (i : ℕ). Some i) one)) in
        (old.0, no key q None (said q) (λ e. other (sym e)) ∙ old.1, no at id None (held id) apart ∙ old.2, old.3, old.4)
  ];
  apart = λ one other id a b. elim (cases_eq one key) [
    | inl first ↦ absurd (none-some id (sym (gone_without key keys was.once) ∙ ap (λ (k : ℕ). id_at k (without key keys)) (sym first) ∙ a))
    | inr first ↦ elim (cases_eq other key) [
      | inl second ↦ absurd (none-some id (sym (gone_without key keys was.once) ∙ ap (λ (k : ℕ). id_at k (without key keys)) (sym second) ∙ b))
      | inr second ↦ was.apart one other id (sym (other_without one key keys first) ∙ a) (sym (other_without other key keys second) ∙ b)
    ]
  ];
  gone = λ id is none. elim (cases_eq at id) [
    | inl one ↦ yes at id None (held id) one
    | inr apart ↦
        no at id None (held id) apart
        ∙ was.gone id is (λ q there. elim (cases_eq q key) [
          | inl same ↦ apart (some_same at id (sym here ∙ ap (λ (k : ℕ). id_at k keys) (sym same) ∙ there))
          | inr other ↦ none q (other_without q key keys other ∙ there)
        ])
  ];
  below = was.below;
}

-- ---- all records are deleted

cond_same : {X : Type 0} → (x : X) (test : Bool) → cond test x x ≡ x
cond_same x true = refl
cond_same x false = refl

none_stays : (id : ℕ) (es : List Held) → fold (content_after id) None (deletions es) ≡ None
none_stays id [] = refl
none_stays id (e ∷ es) = ap (λ (c : Option Content). fold (content_after id) c (deletions es)) (cond_same None (eqb e.1 id)) ∙ none_stays id es

all_deleted : (id : ℕ) (es : List Held) (held : Option Content) → IsAmong id (ids es) → fold (content_after id) held (deletions es) ≡ None
all_deleted id [] held is = absurd is
all_deleted id (e ∷ es) held (inl here) = ap (λ (c : Option Content). fold (content_after id) c (deletions es)) (yes e.1 id None held here) ∙ none_stays id es
all_deleted id (e ∷ es) held (inr there) = all_deleted id es (content_after id held (Deletes e.1)) there

-- It is gone, or none of these was its.
swept_out : (id : ℕ) (es : List Held) (held : Option Content) → (fold (content_after id) held (deletions es) ≡ None) ⊎ ((fold (content_after id) held (deletions es) ≡ held) × (IsAmong id (ids es) → ⊥))
swept_out id [] held = inr (refl, λ is. is)
swept_out id (e ∷ es) held = elim (cases_eq e.1 id) [
  | inl here ↦ inl (all_deleted id (e ∷ es) held (inl here))
  | inr apart ↦
      let same : fold (content_after id) (cond (eqb e.1 id) None held) (deletions es) ≡ fold (content_after id) held (deletions es) =
      ap (λ (c : Option Content). fold (content_after id) c (deletions es)) (no e.1 id None held apart) in
      elim (swept_out id es held) [
        | inl gone ↦ inl (same ∙ gone)
        | inr stays ↦ inr (same ∙ stays.0, λ is. elim is [ inl here ↦ apart here | inr there ↦ stays.1 there ])
      ]
]

pub ended_keys : (n : ℕ) (keys : List Held) (said held : ℕ → Option Content) (made : ℕ → Type 0) → Reflects n keys said held made
    → Reflects n [] (λ q. None) (λ i. fold (content_after i) (held i) (deletions (by_id keys))) made
ended_keys n keys said held made was = record {
  once = tt;
  recorded = λ q id is. absurd (none-some id is);
  apart = λ one other id a b. absurd (none-some id a);
  gone = λ id is none. elim (swept_out id (by_id keys) (held id)) [
    | inl gone ↦ gone
    | inr stays ↦ stays.0 ∙ was.gone id is (λ q at. stays.1 (key_sorted q id keys at))
  ];
  below = was.below;
}
