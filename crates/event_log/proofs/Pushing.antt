-- Events that are numbered one by one, and the log with one more.
use Rattle.std.proofs.Common.{◌≡◌, inl, inr, ℕ, zero, suc, ◌+◌, ◌-◌, ◌<◌, ◌≤◌, ◌^◌, leb, ltb, cond, List, [], ◌∷◌, ◌++◌, length, drop, Option, None, refl, sym, ap, ◌∙◌, subst, arith}
use Rattle.std.specs.Prelude.{max, slice_get}
use Rattle.std.proofs.lemmas.Bool.{cases_lt, cond-true, cond-false, lt-ltb, le-ltb, le-leb, lt-leb}
use Rattle.std.proofs.lemmas.List.{length-append, length-drop, drop-append-le}
use Rattle.swima_model.specs.declared.event.Event.{Event}
use Rattle.swima_model.specs.History.{AreNumberedFrom}
use Rattle.event_log.specs.Log.{IsLog, log_of, events_from, kept_from, pushed}

-- ---- numbered events

pub numbered_push : (n : ℕ) (xs : List Event) (e : Event) → AreNumberedFrom n xs → e.eid ≡ n + length xs → AreNumberedFrom n (xs ++ e ∷ [])
numbered_push n [] e h is = (omega (arith, is), tt)
numbered_push n (x ∷ xs) e h is = (h.0, numbered_push (n + 1) xs e h.1 (omega (arith, is)))

pub numbered_drop : (n k : ℕ) (xs : List Event) → AreNumberedFrom n xs → AreNumberedFrom (n + k) (drop k xs)
numbered_drop n zero xs h = let e : n ≡ n + 0 = omega arith in subst (λ (m : ℕ). AreNumberedFrom m xs) e h
numbered_drop n (suc k) [] h = tt
numbered_drop n (suc k) (x ∷ xs) h =
    let e : (n + 1) + k ≡ n + suc k = omega arith in
    subst (λ (m : ℕ). AreNumberedFrom m (drop k xs)) e (numbered_drop (n + 1) k xs h.1)

drop_none : (k : ℕ) → [] ≡ drop {A = Event} k []
drop_none zero = refl
drop_none (suc k) = refl

-- Those from an event identifier on are those after that many.
pub from_is_drop : (first n : ℕ) (xs : List Event) → AreNumberedFrom n xs → events_from first xs ≡ drop (first - n) xs
from_is_drop first n [] h = drop_none (first - n)
from_is_drop first n (x ∷ xs) h = elim (cases_lt n first) [
  | inl below ↦
      let k : first - n ≡ suc (first - (n + 1)) = omega (arith, below) in
      cond-false (leb first x.eid) (x ∷ events_from first xs) (events_from first xs) (lt-leb first x.eid (omega (arith, h.0, below)))
      ∙ from_is_drop first (n + 1) xs h.1
      ∙ ap (λ (m : ℕ). drop m (x ∷ xs)) (sym k)
  | inr from ↦
      let k : first - n ≡ 0 = omega (arith, from) in
      let later : first - (n + 1) ≡ 0 = omega (arith, from) in
      cond-true (leb first x.eid) (x ∷ events_from first xs) (events_from first xs) (le-leb first x.eid (omega (arith, h.0, from)))
      ∙ ap (λ (l : List Event). x ∷ l) (from_is_drop first (n + 1) xs h.1 ∙ ap (λ (m : ℕ). drop m xs) later)
      ∙ ap (λ (m : ℕ). drop m (x ∷ xs)) (sym k)
]

-- ---- the log with one more

-- What a ring of that many events keeps of some and one more.
pub kept_last : (cap : ℕ) (xs : List Event) (e : Event) → 1 ≤ cap
    → drop (length (xs ++ e ∷ []) - cap) (xs ++ e ∷ []) ≡ drop (length xs + 1 - cap) xs ++ e ∷ []
kept_last cap xs e some =
    let count : length (xs ++ e ∷ []) - cap ≡ length xs + 1 - cap = omega (arith, length-append xs (e ∷ [])) in
    ap (λ (n : ℕ). drop n (xs ++ e ∷ [])) count ∙ drop-append-le (length xs + 1 - cap) xs (e ∷ []) (omega (arith, some))

-- Where it is full, the oldest of all is the first that was there.
first_of : (xs : List Event) (e : Event) → 1 ≤ length xs → slice_get (xs ++ e ∷ []) 0 ≡ slice_get xs 0
first_of [] e some = absurd (omega (arith, some))
first_of (x ∷ xs) e some = refl

pub first_out : (cap : ℕ) (xs : List Event) (e : Event) → 1 ≤ cap
    → cond (ltb (length xs) cap) None (slice_get (xs ++ e ∷ []) 0) ≡ cond (ltb (length xs) cap) None (slice_get xs 0)
first_out cap xs e some = elim (cases_lt (length xs) cap) [
  | inl room ↦
      cond-true (ltb (length xs) cap) None (slice_get (xs ++ e ∷ []) 0) (lt-ltb (length xs) cap room)
      ∙ sym (cond-true (ltb (length xs) cap) None (slice_get xs 0) (lt-ltb (length xs) cap room))
  | inr full ↦ ap (λ (o : Option Event). cond (ltb (length xs) cap) None o) (first_of xs e (omega (arith, some, full)))
]

-- What the log holds then is what the clause says, and is a log.
module _ (cap last : ℕ) (xs ys : List Event) (e : Event) (log : IsLog (log_of cap last xs)) (next : e.eid ≡ last + 1)
    (left : ys ≡ drop (length xs + 1 - cap) xs) where
  left_length : length ys ≡ length xs - (length xs + 1 - cap)
  left_length = ap length left ∙ length-drop (length xs + 1 - cap) xs

  now_length : length (ys ++ e ∷ []) ≡ length ys + 1
  now_length = length-append ys (e ∷ [])

  numbered : AreNumberedFrom (last + 1 - length xs + (length xs + 1 - cap)) ys
  numbered = subst (λ (zs : List Event). AreNumberedFrom (last + 1 - length xs + (length xs + 1 - cap)) zs) (sym left) (numbered_drop (last + 1 - length xs) (length xs + 1 - cap) xs log.numbered)

  begins : last + 1 - length xs + (length xs + 1 - cap) ≡ e.eid + 1 - length (ys ++ e ∷ [])
  begins = omega (arith, next, now_length, left_length, log.caps.0, log.few, log.count, log.begins)

  kept : events_from (e.eid + 1 - cap) (xs ++ e ∷ []) ≡ ys ++ e ∷ []
  kept =
      let k : e.eid + 1 - cap - (last + 1 - length xs) ≡ length xs + 1 - cap = omega (arith, next, log.caps.0, log.few, log.count, log.begins) in
      from_is_drop (e.eid + 1 - cap) (last + 1 - length xs) (xs ++ e ∷ []) (numbered_push (last + 1 - length xs) xs e log.numbered (omega (arith, next, log.count)))
      ∙ ap (λ (m : ℕ). drop m (xs ++ e ∷ [])) k
      ∙ drop-append-le (length xs + 1 - cap) xs (e ∷ []) (omega (arith, log.caps.0))
      ∙ ap (λ (l : List Event). l ++ e ∷ []) (sym left)

  pub push_is : log_of cap e.eid (ys ++ e ∷ []) ≡ pushed (log_of cap last xs) e
  push_is =
      let first : e.eid + 1 - length (ys ++ e ∷ []) ≡ max (last + 1 - length xs) (e.eid + 1 - cap) = omega (arith, next, now_length, left_length, log.caps.0, log.few, log.count, log.begins) in
      ap (λ (n : ℕ). record { cap = cap; first = n; last = e.eid; events = ys ++ e ∷ [] }) first
      ∙ ap (λ (l : List Event). record { cap = cap; first = max (last + 1 - length xs) (e.eid + 1 - cap); last = e.eid; events = l }) (sym kept)

  pub push_log : e.eid < 2 ^ 32 → IsLog (log_of cap e.eid (ys ++ e ∷ []))
  push_log fits = record {
    caps = log.caps;
    begins = omega (arith, begins, log.begins);
    count = omega (arith, next, now_length, left_length, log.caps.0, log.few, log.count, log.begins);
    numbered = subst (λ (n : ℕ). AreNumberedFrom n (ys ++ e ∷ [])) begins (numbered_push _ ys e numbered (omega (arith, next, left_length, log.caps.0, log.few, log.count, log.begins)));
    few = omega (arith, now_length, left_length, log.caps.0, log.few);
    room = (omega (arith, now_length, fits), fits);
  }

-- ---- the log without what is below an event identifier

pub trim_is : (cap last first : ℕ) (xs ys : List Event) → IsLog (log_of cap last xs) → first ≤ last + 1 → ys ≡ drop (first - (last + 1 - length xs)) xs
    → log_of cap last ys ≡ kept_from first (log_of cap last xs)
trim_is cap last first xs ys log within is =
    let count : length ys ≡ length xs - (first - (last + 1 - length xs)) = ap length is ∙ length-drop (first - (last + 1 - length xs)) xs in
    let from : last + 1 - length ys ≡ max (last + 1 - length xs) first = omega (arith, count, within, log.count, log.begins) in
    let kept : ys ≡ events_from first xs = is ∙ sym (from_is_drop first (last + 1 - length xs) xs log.numbered) in
    ap (λ (n : ℕ). record { cap = cap; first = n; last = last; events = ys }) from
    ∙ ap (λ (l : List Event). record { cap = cap; first = max (last + 1 - length xs) first; last = last; events = l }) kept

pub trim_log : (cap last first : ℕ) (xs ys : List Event) → IsLog (log_of cap last xs) → first ≤ last + 1 → first < 2 ^ 32 → ys ≡ drop (first - (last + 1 - length xs)) xs
    → IsLog (log_of cap last ys)
trim_log cap last first xs ys log within fits is =
    let count : length ys ≡ length xs - (first - (last + 1 - length xs)) = ap length is ∙ length-drop (first - (last + 1 - length xs)) xs in
    let from : last + 1 - length xs + (first - (last + 1 - length xs)) ≡ last + 1 - length ys = omega (arith, count, within, log.count, log.begins) in
    record {
      caps = log.caps;
      begins = omega (arith, from, log.begins);
      count = omega (arith, count, within, log.count, log.begins);
      numbered = subst (λ (n : ℕ). AreNumberedFrom n ys) from (subst (λ (zs : List Event). AreNumberedFrom (last + 1 - length xs + (first - (last + 1 - length xs))) zs) (sym is) (numbered_drop (last + 1 - length xs) (first - (last + 1 - length xs)) xs log.numbered));
      few = omega (arith, count, log.few);
      room = (omega (arith, from, fits, log.room.0), log.room.1);
    }
