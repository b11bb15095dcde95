-- Where the subscriptions stand that are left, while one after another is fulfilled or ended.
use Rattle.std.proofs.Common.{◌≡◌, ℕ, zero, suc, ◌+◌, ◌-◌, ◌<◌, ◌≤◌, Bool, true, false, cond, List, [], ◌∷◌, length, take, drop, get_or, inl, inr, refl, sym, ap, ap₂, ◌∙◌, arith}
use Rattle.std.specs.Prelude.{Some, None, ◌==◌, not, slice_get}
use Rattle.std.proofs.lemmas.Bool.{cond-false, cond-true, eq-eqb, eqb-false, eqb-true, false_from_ne_true, ne_eqb, or_parts}
use Rattle.std.proofs.lemmas.List.{drop_more, get_or-take, length-drop, length-map}
use Rattle.std.proofs.lemmas.Option.{slice_get-get_or}
use Rattle.swima_model.specs.declared.report.Kind.TheVariants.{Ids}
use Rattle.swima_model.specs.declared.report.Point.{Point}
use Rattle.swima_subs.specs.declared.waiting.Waiting.{Waiting}
use Rattle.swima_subs.specs.Subscriptions.{AreDifferent, ended, fulfilled_to, has_id, is_held, reported}
use Rattle.collector_session.specs.Renewing.{GoesOn}

-- ---- subscriptions of other IDs

module _ (id : ℕ) where
  untouched : (point : Point) (subs : List Waiting) → is_held id subs ≡ false → reported subs id point ≡ subs
  untouched point [] none = refl
  untouched point (held ∷ later) none =
      let parts = or_parts (has_id id held) (is_held id later) none in
      ap₂ (λ (h : Waiting) (l : List Waiting). h ∷ l) (cond-false (has_id id held) (record held { place = Some point }) held parts.0) (untouched point later parts.1)

  unended : (subs : List Waiting) → is_held id subs ≡ false → ended subs id ≡ subs
  unended [] none = refl
  unended (held ∷ later) none =
      let parts = or_parts (has_id id held) (is_held id later) none in
      cond-true (not (has_id id held)) (held ∷ ended later id) (ended later id) (ap (λ (b : Bool). not b) parts.0) ∙ ap (λ (l : List Waiting). held ∷ l) (unended later parts.1)

-- One of them is not the one that is held at a place.
other : (id : ℕ) (subs : List Waiting) (k : ℕ) (held : Waiting) → slice_get subs k ≡ Some held → is_held id subs ≡ false → has_id id held ≡ false
other id [] k held at none = absurd cc
other id (first ∷ later) zero held at none =
    let same : first ≡ held = cc in
    ap (λ (h : Waiting). has_id id h) (sym same) ∙ (or_parts (has_id id first) (is_held id later) none).0
other id (first ∷ later) (suc k) held at none = other id later k held at (or_parts (has_id id first) (is_held id later) none).1

-- The one that is held has its ID.
its_own : (held : Waiting) → has_id held.request.id held ≡ true
its_own held = eq-eqb held.request.id held.request.id refl

turned_round : (one two : ℕ) → (one == two) ≡ false → (two == one) ≡ false
turned_round one two is = false_from_ne_true (two == one) (λ same. eqb-false one two is (sym (eqb-true two one same)))

-- ---- after one at a place

module _ (held : Waiting) where
  reported_past : (point : Point) (subs : List Waiting) (k : ℕ) → AreDifferent subs → slice_get subs k ≡ Some held → drop (suc k) (reported subs held.request.id point) ≡ drop (suc k) subs
  reported_past point [] k different at = absurd cc
  reported_past point (first ∷ later) zero different at =
      let same : first ≡ held = cc in
      untouched held.request.id point later (ap (λ (h : Waiting). is_held h.request.id later) (sym same) ∙ different.0)
  reported_past point (first ∷ later) (suc k) different at = reported_past point later k different.1 at

  -- What stood at the place is another one.
  kept : (first : Waiting) (later : List Waiting) (k : ℕ) → is_held first.request.id later ≡ false → slice_get later k ≡ Some held → ended (first ∷ later) held.request.id ≡ first ∷ ended later held.request.id
  kept first later k none at =
      cond-true (not (has_id held.request.id first)) (first ∷ ended later held.request.id) (ended later held.request.id)
      (ap (λ (b : Bool). not b) (turned_round held.request.id first.request.id (other first.request.id later k held at none)))

  gone : (first : Waiting) (later : List Waiting) → first ≡ held → is_held first.request.id later ≡ false → ended (first ∷ later) held.request.id ≡ later
  gone first later same none =
      cond-false (not (has_id held.request.id first)) (first ∷ ended later held.request.id) (ended later held.request.id)
      (ap (λ (b : Bool). not b) (ap (λ (h : Waiting). has_id held.request.id h) same ∙ its_own held))
      ∙ unended held.request.id later (ap (λ (h : Waiting). is_held h.request.id later) (sym same) ∙ none)

  ended_past : (subs : List Waiting) (k : ℕ) → AreDifferent subs → slice_get subs k ≡ Some held → drop k (ended subs held.request.id) ≡ drop (suc k) subs
  ended_past [] k different at = absurd cc
  ended_past (first ∷ later) zero different at = let same : first ≡ held = cc in gone first later same different.0
  ended_past (first ∷ later) (suc k) different at = ap (λ (l : List Waiting). drop (suc k) l) (kept first later k different.0 at) ∙ ended_past later k different.1 at

  ended_count : (subs : List Waiting) (k : ℕ) → AreDifferent subs → slice_get subs k ≡ Some held → suc (length (ended subs held.request.id)) ≡ length subs
  ended_count [] k different at = absurd cc
  ended_count (first ∷ later) zero different at = let same : first ≡ held = cc in ap (λ (l : List Waiting). suc (length l)) (gone first later same different.0)
  ended_count (first ∷ later) (suc k) different at =
      ap (λ (l : List Waiting). suc (length l)) (kept first later k different.0 at) ∙ ap (λ (n : ℕ). suc n) (ended_count later k different.1 at)

  -- Where the next one stands, those after it are left as they were.
  pub goes_past : (before after : List Waiting) (k : ℕ) → AreDifferent before → slice_get before k ≡ Some held → GoesOn held.request.id before after
      → drop (cond (length before == length after) (k + 1) k) after ≡ drop (k + 1) before
  goes_past before after k different at (inl is) =
      ap (λ (n : ℕ). drop n after) (cond-true (length before == length after) (k + 1) k (eq-eqb (length before) (length after) (ap (λ (l : List Waiting). length l) (sym is)))) ∙ ap (λ (l : List Waiting). drop (k + 1) l) is
  goes_past before after k different at (inr (inl is)) =
      let count : length after ≡ length before = ap (λ (l : List Waiting). length l) is.1 ∙ length-map before (fulfilled_to held.request.id is.0) in
      let next : k + 1 ≡ suc k = omega arith in
      ap (λ (n : ℕ). drop n after) (cond-true (length before == length after) (k + 1) k (eq-eqb (length before) (length after) (sym count)) ∙ next)
      ∙ ap (λ (l : List Waiting). drop (suc k) l) is.1
      ∙ reported_past is.0 before k different at
      ∙ ap (λ (n : ℕ). drop n before) (sym next)
  goes_past before after k different at (inr (inr is)) =
      let count : suc (length after) ≡ length before = ap (λ (l : List Waiting). suc (length l)) is ∙ ended_count before k different at in
      let next : k + 1 ≡ suc k = omega arith in
      ap (λ (n : ℕ). drop n after) (cond-false (length before == length after) (k + 1) k (ne_eqb (length before) (length after) (λ same. omega (arith, same, count))))
      ∙ ap (λ (l : List Waiting). drop k l) is
      ∙ ended_past before k different at
      ∙ ap (λ (n : ℕ). drop n before) (sym next)

-- ---- the one that is next

abbrev first_of : Waiting → List Waiting → Waiting
first_of d [] = d
first_of d (held ∷ later) = held

-- It is the next of those that there were.
pub next_stands : (first now : List Waiting) (i k count : ℕ) (d : Waiting) → drop k now ≡ drop i first → i < count → count ≤ length first
    → (k < length now) × (slice_get now k ≡ Some (get_or (take count first) i d))
next_stands first now i k count d left less within =
    let lengths : length now - k ≡ length first - i = sym (length-drop k now) ∙ ap (λ (l : List Waiting). length l) left ∙ length-drop i first in
    let there : k < length now = omega (arith, lengths, less, within) in
    let same : get_or now k d ≡ get_or first i d =
    ap (λ (l : List Waiting). first_of d l) (sym (drop_more now k d there) ∙ left ∙ drop_more first i d (omega (arith, less, within))) in
    (there, slice_get-get_or now k d there ∙ ap (λ (h : Waiting). Some h) (same ∙ sym (get_or-take count first i d less)))

none_left : (n : ℕ) → drop {A = Waiting} n [] ≡ []
none_left zero = refl
none_left (suc n) = refl

drop_one : (xs : List Waiting) (n : ℕ) → drop (n + 1) xs ≡ drop 1 (drop n xs)
drop_one xs zero = refl
drop_one [] (suc n) = none_left (suc n + 1)
drop_one (x ∷ xs) (suc n) = let next : suc n + 1 ≡ suc (n + 1) = omega arith in ap (λ (m : ℕ). drop m (x ∷ xs)) next ∙ drop_one xs n

-- So those that are left after it are as they were.
pub next_left : (first before after : List Waiting) (i k next one two : ℕ) → drop k before ≡ drop i first → drop (cond (length before == length after) (k + 1) k) after ≡ drop (k + 1) before
    → one ≡ length before → two ≡ length after → next ≡ cond (one == two) (k + 1) k → drop next after ≡ drop (i + 1) first
next_left first before after i k next one two left past one-is two-is next-is =
    ap (λ (n : ℕ). drop n after) (next-is ∙ ap₂ (λ (x y : ℕ). cond (x == y) (k + 1) k) one-is two-is) ∙ past ∙ drop_more_same before first k i left
  where
    drop_more_same : (xs ys : List Waiting) (m n : ℕ) → drop m xs ≡ drop n ys → drop (m + 1) xs ≡ drop (n + 1) ys
    drop_more_same xs ys m n same = drop_one xs m ∙ ap (λ (l : List Waiting). drop 1 l) same ∙ sym (drop_one ys n)

-- Some subscription.
abbrev pub any_waiting : Waiting
any_waiting = record { request = record { clear = false; subscribe = false; kind = Ids; id = 0; earliest = 0; targets = [] }; place = None }
