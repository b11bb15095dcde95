-- Subscriptions stay few, and their IDs different, whatever is done to them.
use Rattle.std.proofs.Common.{◌≡◌, ℕ, ◌<◌, ◌≤◌, ◌||◌, Bool, true, false, cond, List, [], ◌∷◌, ◌++◌, length, refl, sym, ap, ap₂, ◌∙◌, arith, ◌+◌, append-nil, drop, get_or, length-append, length-take, set, take}
use Rattle.std.specs.Prelude.{filter, not, Some, ◌==◌, nat_le}
use Rattle.std.proofs.lemmas.Bool.{eqb-true, eqb-false, false_from_ne_true, leb-false, or_from, or_parts}
use Rattle.std.proofs.lemmas.List.{drop_all, length-drop, length-map, take_all}
use Rattle.std.proofs.lemmas.List.Edits.{map_over_more}
use Rattle.std.proofs.lemmas.List.Folds.{list_any-append}
use Rattle.swima_model.specs.declared.report.Point.{Point}
use Rattle.swima_request.specs.declared.request.Request.{Request}
use Rattle.swima_subs.specs.declared.sub_answer.SubAnswer.{SubAnswer}
use Rattle.swima_subs.specs.declared.sub_answer.SubAnswer.TheVariants.{Taken, Reused, Denied}
use Rattle.swima_subs.specs.declared.waiting.Waiting.{Waiting}
use Rattle.swima_subs.specs.Meaning.{SubsStay}
use Rattle.swima_subs.specs.Subscriptions.{AreDifferent, AreSubs, MOST_SUBSCRIPTIONS, applied, cleared, ended, established, fulfilled_to, has_id, is_held, new_waiting, reported}

-- ---- one more

same_way : (one other : ℕ) → (one == other) ≡ false → (other == one) ≡ false
same_way one other is = false_from_ne_true (other == one) (λ same. eqb-false one other is (sym (eqb-true other one same)))

held_push : (id : ℕ) (subs : List Waiting) (new : Waiting) → is_held id subs ≡ false → has_id id new ≡ false → is_held id (subs ++ new ∷ []) ≡ false
held_push id subs new none other = list_any-append (has_id id) subs (new ∷ []) ∙ or_from (is_held id subs) (has_id id new || false) none (or_from (has_id id new) false other refl)

pub different_push : (subs : List Waiting) (new : Waiting) → AreDifferent subs → is_held new.request.id subs ≡ false → AreDifferent (subs ++ new ∷ [])
different_push [] new different none = (refl, tt)
different_push (held ∷ later) new different none =
    let parts = or_parts (has_id new.request.id held) (is_held new.request.id later) none in
    (held_push held.request.id later new different.0 (same_way held.request.id new.request.id parts.0), different_push later new different.1 parts.1)

pub subs_push : (subs : List Waiting) (new : Waiting) → AreSubs subs → is_held new.request.id subs ≡ false → length subs < MOST_SUBSCRIPTIONS → AreSubs (subs ++ new ∷ [])
subs_push subs new are none less = record {
  few = omega (arith, less, length-append subs (new ∷ []));
  different = different_push subs new are.different none;
}

pub none_are : AreSubs []
none_are = record { few = omega arith; different = tt }

-- ---- reports

same_request : (id : ℕ) (point : Point) (held : Waiting) → (fulfilled_to id point held).request ≡ held.request
same_request id point held = by_test (has_id id held)
  where
    by_test : (b : Bool) → (cond b (record held { place = Some point }) held).request ≡ held.request
    by_test true = refl
    by_test false = refl

pub held_reported : (one id : ℕ) (point : Point) (subs : List Waiting) → is_held one (reported subs id point) ≡ is_held one subs
held_reported one id point [] = refl
held_reported one id point (held ∷ later) =
    ap₂ (λ (a b : Bool). a || b) (ap (λ (r : Request). r.id == one) (same_request id point held)) (held_reported one id point later)

pub different_reported : (id : ℕ) (point : Point) (subs : List Waiting) → AreDifferent subs → AreDifferent (reported subs id point)
different_reported id point [] different = tt
different_reported id point (held ∷ later) different = (
  ap (λ (r : Request). is_held r.id (reported later id point)) (same_request id point held) ∙ held_reported held.request.id id point later ∙ different.0,
  different_reported id point later different.1,
)

pub subs_reported : (id : ℕ) (point : Point) (subs : List Waiting) → AreSubs subs → AreSubs (reported subs id point)
subs_reported id point subs are = record {
  few = omega (arith, are.few, length-map subs (fulfilled_to id point));
  different = different_reported id point subs are.different;
}

-- One after another.
pub fulfil_more : (id : ℕ) (point : Point) (xs ys : List Waiting) (i : ℕ) (held next : Waiting) → i < length ys → ys ≡ reported (take i xs) id point ++ drop i xs → held ≡ get_or ys i held
    → next ≡ fulfilled_to id point held → set ys i next ≡ reported (take (i + 1) xs) id point ++ drop (i + 1) xs
fulfil_more id point xs ys i held next less so at is =
    let lengths : length ys ≡ length (reported (take i xs) id point ++ drop i xs) = ap (λ (l : List Waiting). length l) so in
    let within : i < length xs = omega (arith, less, lengths, length-append (reported (take i xs) id point) (drop i xs), length-map (take i xs) (fulfilled_to id point), length-take i xs, length-drop i xs) in
    ap (λ (w : Waiting). set ys i w) is ∙ map_over_more (fulfilled_to id point) xs ys i held within so at

pub fulfil_all : (id : ℕ) (point : Point) (xs ys : List Waiting) (i : ℕ) → length ys ≤ i → ys ≡ reported (take i xs) id point ++ drop i xs → ys ≡ reported xs id point
fulfil_all id point xs ys i all so =
    let lengths : length ys ≡ length (reported (take i xs) id point ++ drop i xs) = ap (λ (l : List Waiting). length l) so in
    let within : length xs ≤ i = omega (arith, all, lengths, length-append (reported (take i xs) id point) (drop i xs), length-map (take i xs) (fulfilled_to id point), length-take i xs, length-drop i xs) in
    so
    ∙ ap₂ (λ (l r : List Waiting). reported l id point ++ r) (take_all i xs within) (drop_all i xs within)
    ∙ append-nil (reported xs id point)

-- What was written in place of all of them.
pub written_back : (id : ℕ) (point : Point) (xs old lent ys : List Waiting) (len i : ℕ) → old ≡ xs → lent ≡ old → length lent ≡ len → length ys ≤ i → ys ≡ reported (take i xs) id point ++ drop i xs
    → take len (ys ++ drop (length ys) old) ≡ reported xs id point
written_back id point xs old lent ys len i is lent-is count all so =
    let whole : ys ≡ reported xs id point = fulfil_all id point xs ys i all so in
    let lengths : length ys ≡ length old = ap (λ (l : List Waiting). length l) whole ∙ length-map xs (fulfilled_to id point) ∙ ap (λ (l : List Waiting). length l) (sym is) in
    let within : length old ≤ length ys = omega (arith, lengths) in
    let most : length ys ≤ len = omega (arith, lengths, count, ap (λ (l : List Waiting). length l) lent-is) in
    ap (λ (l : List Waiting). take len (ys ++ l)) (drop_all (length ys) old within)
    ∙ ap (λ (l : List Waiting). take len l) (append-nil ys)
    ∙ take_all len ys most
    ∙ whole

-- ---- ends

module _ (test : Waiting → Bool) where
  held_filtered : (one : ℕ) (subs : List Waiting) → is_held one subs ≡ false → is_held one (filter test subs) ≡ false
  held_filtered one [] none = refl
  held_filtered one (held ∷ later) none =
      let parts = or_parts (has_id one held) (is_held one later) none in
      by_test (test held) parts.0 (held_filtered one later parts.1)
    where
      by_test : (b : Bool) → has_id one held ≡ false → is_held one (filter test later) ≡ false → is_held one (cond b (held ∷ filter test later) (filter test later)) ≡ false
      by_test true other none = or_from (has_id one held) (is_held one (filter test later)) other none
      by_test false other none = none

  different_filtered : (subs : List Waiting) → AreDifferent subs → AreDifferent (filter test subs)
  different_filtered [] different = tt
  different_filtered (held ∷ later) different = by_test (test held) (held_filtered held.request.id later different.0) (different_filtered later different.1)
    where
      by_test : (b : Bool) → is_held held.request.id (filter test later) ≡ false → AreDifferent (filter test later) → AreDifferent (cond b (held ∷ filter test later) (filter test later))
      by_test true none different = (none, different)
      by_test false none different = different

  fewer_filtered : (subs : List Waiting) → length (filter test subs) ≤ length subs
  fewer_filtered [] = omega arith
  fewer_filtered (held ∷ later) = by_test (test held) (fewer_filtered later)
    where
      by_test : (b : Bool) → length (filter test later) ≤ length later → length (cond b (held ∷ filter test later) (filter test later)) ≤ length (held ∷ later)
      by_test true fewer = omega (arith, fewer)
      by_test false fewer = omega (arith, fewer)

pub subs_ended : (id : ℕ) (subs : List Waiting) → AreSubs subs → AreSubs (ended subs id)
subs_ended id subs are = record {
  few = omega (arith, are.few, fewer_filtered (λ (held : Waiting). not (has_id id held)) subs);
  different = different_filtered (λ (held : Waiting). not (has_id id held)) subs are.different;
}

-- ---- requests

cleared_are : (subs : List Waiting) (request : Request) → AreSubs subs → AreSubs (cleared subs request)
cleared_are subs request are = by_flag request.clear
  where
    by_flag : (b : Bool) → AreSubs (cond b [] subs)
    by_flag true = none_are
    by_flag false = are

established_are : (subs : List Waiting) (request : Request) → AreSubs subs → AreSubs (established subs request).1
established_are subs request are = by_tests (is_held request.id subs) (nat_le MOST_SUBSCRIPTIONS (length subs)) refl refl
  where
    by_tests : (held full : Bool) → is_held request.id subs ≡ held → nat_le MOST_SUBSCRIPTIONS (length subs) ≡ full
        → AreSubs (cond {A = SubAnswer × List Waiting} held (Reused request.id, subs) (cond full (Denied MOST_SUBSCRIPTIONS, subs) (Taken, subs ++ new_waiting request ∷ []))).1
    by_tests true full held-so full-so = are
    by_tests false true held-so full-so = are
    by_tests false false held-so full-so = subs_push subs (new_waiting request) are held-so (leb-false MOST_SUBSCRIPTIONS (length subs) full-so)

applied_are : (subs : List Waiting) (request : Request) → AreSubs subs → AreSubs (applied subs request).1
applied_are subs request are = by_flag request.subscribe
  where
    by_flag : (b : Bool) → AreSubs (cond {A = SubAnswer × List Waiting} b (established (cleared subs request) request) (Taken, cleared subs request)).1
    by_flag true = established_are (cleared subs request) request (cleared_are subs request are)
    by_flag false = cleared_are subs request are

pub subs_stay : SubsStay
subs_stay subs are = record {
  applied_so = λ request. applied_are subs request are;
  reported_so = λ id point. subs_reported id point subs are;
  ended_so = λ id. subs_ended id subs are;
}
