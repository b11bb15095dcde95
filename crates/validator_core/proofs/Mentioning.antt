-- What events say of the records that they mention, and the records that are live then.
use Rattle.std.proofs.Common.{◌≡◌, ℕ, zero, suc, ◌≤◌, eqb, cond, ◌||◌, Bool, true, false, List, [], ◌∷◌, ◌++◌, Option, Some, None, refl, sym, ap, ap₂, ◌∙◌, subst, arith, eq-eqb, eqb-true, ne_eqb}
use Rattle.std.specs.Prelude.{reverse}
use Rattle.std.specs.List.{Contains}
use Rattle.std.specs.List.Sorted.{IsPermutation, IsStrictlyIncreasing}
use Rattle.std.specs.BTreeMap.{is_at}
use Rattle.std.specs.BTreeSet.{BTreeSet, contains}
use Rattle.std.specs.Ordering.{nat_cmp}
use Rattle.std.proofs.lemmas.Bool.{cond-true, cond-false}
use Rattle.std.proofs.lemmas.Grind.{reverse_onto}
use Rattle.std.proofs.lemmas.List.Sorted.{Contains-permutation, IsPermutation-reverse, IsPermutation-append_right, IsPermutation-trans, IsPermutation-sym, IsPermutation-map}
use Rattle.swima_model.specs.declared.event.Event.{Event}
use Rattle.swima_model.specs.declared.record.Record.{Record}
use Rattle.swima_model.specs.InOrder.{ids}
use Rattle.swima_model.specs.Live.{is_deletion, is_mentioned, last_mentions, live, record_of, unmentioned}
use Rattle.swima_model.proofs.Living.{live_rises, once_strict, same_records, strict_from, strict_rest}
use Rattle.swima_model.proofs.Placing.{in_order_permutation}
use Rattle.swima_model.proofs.Repeats.{times_permuted}
use Rattle.swima_model.proofs.Rises.{AllFrom, Rises, strictly}
use Rattle.validator_core.specs.declared.mentions.Mentions.{Mentions}
use Rattle.validator_core.specs.Gone.{is_gone}
use Rattle.validator_core.specs.Mentions.{AreOf}
use Rattle.validator_core.proofs.Dropping.{mentioned_again, mentioned_first, not_gone_yet}
use Rattle.validator_core.proofs.Tallying.{at_eqb}

-- ---- records in another order

-- Of rising identifiers, a record that is there is the one of its identifier.
from_contains : (n : ℕ) (r : Record) (rs : List Record) → AllFrom n (ids rs) → Contains rs r → n ≤ r.id
from_contains n r [] up h = absurd (omega (arith, h.1))
from_contains n r (x ∷ xs) up (zero, lt, e) = omega (arith, up.0, ap (λ (s : Record). s.id) e)
from_contains n r (x ∷ xs) up (suc k, lt, e) = from_contains n r xs up.1 (k, omega (arith, lt), e)

contained_found : (r : Record) (rs : List Record) → IsStrictlyIncreasing (ids rs) → Contains rs r → record_of r.id rs ≡ Some r
contained_found r [] up h = absurd (omega (arith, h.1))
contained_found r (x ∷ xs) up (zero, lt, e) =
    cond-true (eqb x.id r.id) (Some x) (record_of r.id xs) (eq-eqb x.id r.id (ap (λ (s : Record). s.id) e)) ∙ ap (λ (s : Record). Some s) e
contained_found r (x ∷ xs) up (suc k, lt, e) =
    let there : Contains xs r = (k, omega (arith, lt), e) in
    let above : suc x.id ≤ r.id = from_contains (suc x.id) r xs (strict_from x.id (ids xs) up) there in
    cond-false (eqb x.id r.id) (Some x) (record_of r.id xs) (ne_eqb x.id r.id (λ same. omega (arith, above, same)))
    ∙ contained_found r xs (strict_rest x.id (ids xs) up) there

-- The record of an identifier has it, and is there.
found_step : (id : ℕ) (r x : Record) (xs : List Record) (here : Bool) → eqb x.id id ≡ here → cond here (Some x) (record_of id xs) ≡ Some r
    → (record_of id xs ≡ Some r → (r.id ≡ id) × Contains xs r) → (r.id ≡ id) × Contains (x ∷ xs) r
found_step id r x xs true is e later = let same : x ≡ r = cc in (ap (λ (s : Record). s.id) (sym same) ∙ eqb-true x.id id is, (zero, omega arith, same))
found_step id r x xs false is e later =
    let h : (r.id ≡ id) × Contains xs r = later e in
    (h.0, (suc h.1.0, omega (arith, h.1.1), h.1.2))

found_contained : (id : ℕ) (r : Record) (rs : List Record) → record_of id rs ≡ Some r → (r.id ≡ id) × Contains rs r
found_contained id r [] e = absurd (cc)
found_contained id r (x ∷ xs) e = found_step id r x xs (eqb x.id id) refl e (found_contained id r xs)

moved_found : (id : ℕ) (r : Record) (rs ss : List Record) → IsPermutation rs ss → IsStrictlyIncreasing (ids ss) → record_of id rs ≡ Some r → record_of id ss ≡ Some r
moved_found id r rs ss moved up e =
    let h : (r.id ≡ id) × Contains rs r = found_contained id r rs e in
    subst (λ (n : ℕ). record_of n ss ≡ Some r) h.0 (contained_found r ss up (Contains-permutation rs ss r moved h.1))

same_found : (id : ℕ) (rs ss : List Record) (a b : Option Record) → record_of id rs ≡ a → record_of id ss ≡ b
    → ((r : Record) → record_of id rs ≡ Some r → record_of id ss ≡ Some r) → ((r : Record) → record_of id ss ≡ Some r → record_of id rs ≡ Some r) → a ≡ b
same_found id rs ss None None is js there back = refl
same_found id rs ss (Some r) b is js there back = sym (there r is) ∙ js
same_found id rs ss None (Some s) is js there back = sym is ∙ back s js

-- Records of rising identifiers are the same in any order that does not fall.
pub same_in_order : (rs ss : List Record) → IsPermutation rs ss → IsStrictlyIncreasing (ids rs) → Rises (ids ss) → ss ≡ rs
same_in_order rs ss moved up down =
    let strict : IsStrictlyIncreasing (ids ss) =
    strictly (ids ss) down
    (λ n. omega (arith, once_strict n (ids rs) up, times_permuted n (ids rs) (ids ss) (IsPermutation-map (λ (r : Record). r.id) rs ss moved))) in
    same_records ss rs strict up
    (λ id.
    same_found id ss rs (record_of id ss) (record_of id rs) refl refl (λ r. moved_found id r ss rs (IsPermutation-sym rs ss moved) up)
    (λ r. moved_found id r rs ss moved strict))

-- ---- what is live

-- The records that no event mentions and what the last mentions say, in any order that does not
-- fall, are what is live.
pub live_in_any_order : (base : List Record) (events : List Event) (ordered : List Record) → IsStrictlyIncreasing (ids base)
    → IsPermutation (unmentioned events base ++ reverse (last_mentions events)) ordered → Rises (ids ordered) → ordered ≡ live base events
live_in_any_order base events ordered up moved down =
    let kept : List Record = unmentioned events base in
    let said : List Record = last_mentions events in
    let turned : IsPermutation (kept ++ said) (kept ++ reverse said) = IsPermutation-append_right kept said (reverse said) (IsPermutation-reverse said) in
    let there : IsPermutation (kept ++ said) ordered = IsPermutation-trans (kept ++ said) (kept ++ reverse said) ordered turned moved in
    let back : IsPermutation (live base events) (kept ++ said) = IsPermutation-sym (kept ++ said) (live base events) (in_order_permutation (kept ++ said)) in
    same_in_order (live base events) ordered (IsPermutation-trans (live base events) (kept ++ said) ordered back there) (live_rises base events up) down

-- ---- one mention more

-- An event before others, and the identifiers that are mentioned then.
module _ (event : Event) (later : List Event) (old : Mentions) (now : BTreeSet ℕ) (are : AreOf later old)
    (updates : (id : ℕ) → contains nat_cmp now id ≡ cond (is_at (nat_cmp event.subject.id) id) true (contains nat_cmp old.ids id)) where
  either_step : (here said : Bool) → cond here true said ≡ (here || said)
  either_step true said = refl
  either_step false said = refl

  mentioned : (id : ℕ) → contains nat_cmp now id ≡ is_mentioned id (event ∷ later)
  mentioned id =
      updates id ∙ ap₂ (λ (here said : Bool). cond here true said) (at_eqb event.subject.id id) (are.ids id)
      ∙ either_step (eqb event.subject.id id) (is_mentioned id later)

  -- What the last mentions say, where its record is mentioned or not, and it deletes this or not.
  says : (said gone : Bool) → is_mentioned event.subject.id later ≡ said → is_deletion event.action ≡ gone
      → last_mentions (event ∷ later) ≡ cond (said || gone) (last_mentions later) (event.subject ∷ last_mentions later)
  says said gone is deletes = ap₂ (λ (m d : Bool). cond (m || d) (last_mentions later) (event.subject ∷ last_mentions later)) is deletes

  -- Its record is mentioned already.
  pub again : (after : Mentions) → contains nat_cmp old.ids event.subject.id ≡ true → after.ids ≡ now → after.gone ≡ old.gone → after.last.items ≡ old.last.items
      → AreOf (event ∷ later) after
  again after there ids gone last =
      let said : is_mentioned event.subject.id later ≡ true = sym (are.ids event.subject.id) ∙ there in
      record {
        ids = λ id. ap (λ (set : BTreeSet ℕ). contains nat_cmp set id) ids ∙ mentioned id;
        gone = λ id. ap (λ (set : BTreeSet ℕ). contains nat_cmp set id) gone ∙ are.gone id ∙ ap is_gone (sym (mentioned_again id event later said));
        last = last ∙ are.last ∙ ap reverse (sym (says true (is_deletion event.action) said refl));
      }

  -- It is the last mention of its record, and deletes this.
  pub deleted : (after : Mentions) → contains nat_cmp old.ids event.subject.id ≡ false → is_deletion event.action ≡ true → after.ids ≡ now
      → ((id : ℕ) → contains nat_cmp after.gone id ≡ cond (is_at (nat_cmp event.subject.id) id) true (contains nat_cmp old.gone id)) → after.last.items ≡ old.last.items
      → AreOf (event ∷ later) after
  deleted after new deletes ids gone last =
      let unsaid : is_mentioned event.subject.id later ≡ false = sym (are.ids event.subject.id) ∙ new in
      record {
        ids = λ id. ap (λ (set : BTreeSet ℕ). contains nat_cmp set id) ids ∙ mentioned id;
        gone = λ id.
            gone id ∙ ap₂ (λ (here off : Bool). cond here true off) (at_eqb event.subject.id id) (are.gone id)
            ∙ sym (mentioned_first id event later true deletes unsaid);
        last = last ∙ are.last ∙ ap reverse (sym (says false true unsaid deletes));
      }

  -- It is the last mention of its record, and says what is to be held of this.
  pub given : (after : Mentions) → contains nat_cmp old.ids event.subject.id ≡ false → is_deletion event.action ≡ false → after.ids ≡ now → after.gone ≡ old.gone
      → after.last.items ≡ old.last.items ++ event.subject ∷ [] → AreOf (event ∷ later) after
  given after new stays ids gone last =
      let unsaid : is_mentioned event.subject.id later ≡ false = sym (are.ids event.subject.id) ∙ new in
      record {
        ids = λ id. ap (λ (set : BTreeSet ℕ). contains nat_cmp set id) ids ∙ mentioned id;
        gone = λ id.
            ap (λ (set : BTreeSet ℕ). contains nat_cmp set id) gone ∙ are.gone id ∙ not_gone_yet id event.subject.id later unsaid
            ∙ sym (mentioned_first id event later false stays unsaid);
        last =
            last ∙ ap (λ (rs : List Record). rs ++ event.subject ∷ []) are.last ∙ sym (reverse_onto (last_mentions later) event.subject [])
            ∙ ap reverse (sym (says false false unsaid stays));
      }
