-- The test for a stamp, and the words that say what one is.
use Rattle.std.proofs.Common.{◌≡◌, ℕ, ◌+◌, ◌*◌, ◌/◌, ◌%◌, ◌<◌, ◌≤◌, ◌⊎◌, inl, inr, Bool, true, ◌&&◌, ◌||◌, List, [], ◌∷◌, refl, sym, ap, subst, ◌∙◌, arith, ℤ, pos, negsuc, ◌*ℤ◌, ◌≤ℤ◌, ◌<ℤ◌, ◌^◌, to_z, of_z}
use Rattle.std.specs.Int.{w128}
use Rattle.std.specs.Prelude.{◌↔◌, IsTrue}
use Rattle.std.specs.Bool.{one_answer}
use Rattle.std.specs.Str.{bytes_eq}
use Rattle.std.proofs.lemmas.Bool.{ltb-true, lt-ltb, leb-true, le-leb, and_parts, and_from, or_cases, or_left, or_right, cases_lt}
use Rattle.std.proofs.lemmas.Slice.Eq.{bytes_eq-Decides}
use Rattle.jiff_core.specs.Calendar.{IsCivilDate}
use Rattle.jiff_core.specs.Date.{epoch_day}
use Rattle.jiff_core.specs.DateTime.{civil_nanos}
use Rattle.jiff_core.specs.declared.civil.datetime.DateTime.{DateTime}
use Rattle.jiff_core.proofs.SignedLemmas.{back_small, signed_arith}
use Rattle.jiff_core.proofs.CalendarLemmas.{days_in_month_bounds, day_count-lt_year, day_count-epoch, days_from_civil-day_count}
use Rattle.jiff_core.proofs.DateTimeLemmas.{civil_nanos-parts}
use Rattle.wire_base.specs.declared.values.moment.Moment.{Moment}
use Rattle.wire_base.specs.Stamp.{IsMoment, IsStamp, StampTestIsForm, UNKNOWN_TIME, Shows, digits, is_moment, is_stamp, moment_at, moment_text}

-- ---- moments

-- A moment that passes the test is one.
real_from_test : (m : Moment) → is_moment m ≡ true → IsMoment m
real_from_test m e =
    let p = and_parts _ _ e in
    let q = and_parts _ _ p.0 in
    let r = and_parts _ _ q.0 in
    let s = and_parts _ _ r.0 in
    let t = and_parts _ _ s.0 in
    let u = and_parts _ _ t.0 in
    let v = and_parts _ _ u.0 in
    let year : m.year ≤ 9999 = leb-true _ _ v.0 in
    record {
      date = (omega (arith, signed_arith), (leb-true _ _ v.1, leb-true _ _ u.1), (leb-true _ _ t.1, leb-true _ _ s.1));
      hour = ltb-true _ _ r.1;
      minute = ltb-true _ _ q.1;
      second = leb-true _ _ p.1;
    }

-- A moment passes the test.
test_from_real : (m : Moment) → IsMoment m → is_moment m ≡ true
test_from_real m h =
    let year : m.year ≤ 9999 = omega (arith, signed_arith, h.date.0) in
    and_from _ _ (and_from _ _ (and_from _ _ (and_from _ _ (and_from _ _ (and_from _ _ (and_from _ _ (le-leb _ _ year) (le-leb _ _ h.date.1.0)) (le-leb _ _ h.date.1.1))
    (le-leb _ _ h.date.2.0)) (le-leb _ _ h.date.2.1)) (lt-ltb _ _ h.hour)) (lt-ltb _ _ h.minute)) (le-leb _ _ h.second)

-- The moment of these parts.
abbrev parts : ℕ → ℕ → ℕ → ℕ → ℕ → ℕ → Moment
parts year month day hour minute second = record { year = year; month = month; day = day; hour = hour; minute = minute; second = second }

-- Moments with the same parts are the same.
same_moment : (a b : Moment) → a.year ≡ b.year → a.month ≡ b.month → a.day ≡ b.day → a.hour ≡ b.hour → a.minute ≡ b.minute → a.second ≡ b.second → a ≡ b
same_moment a b y mo d h mi s =
    let e : parts a.year a.month a.day a.hour a.minute a.second ≡ parts b.year b.month b.day b.hour b.minute b.second = cc (y, mo, d, h, mi, s) in
    e

-- The moment that the text of a moment names is that moment.
moment_at-text : (m : Moment) → m.year ≤ 9999 → m.month < 100 → m.day < 100 → m.hour < 100 → m.minute < 100 → m.second < 100 → moment_at (moment_text m) ≡ m
unfolding digits
moment_at-text m y mo d h mi s =
    let year : (moment_at (moment_text m)).year ≡ m.year = omega arith in
    let month : (moment_at (moment_text m)).month ≡ m.month = omega arith in
    let day : (moment_at (moment_text m)).day ≡ m.day = omega arith in
    let hour : (moment_at (moment_text m)).hour ≡ m.hour = omega arith in
    let minute : (moment_at (moment_text m)).minute ≡ m.minute = omega arith in
    let second : (moment_at (moment_text m)).second ≡ m.second = omega arith in
    same_moment (moment_at (moment_text m)) m year month day hour minute second

-- No month is longer than 31 days.
day_below : (m : Moment) → IsMoment m → m.day < 100
day_below m h = omega (arith, h.date.2.1, (days_in_month_bounds (pos m.year) m.month).0)

-- The same of a moment that is one.
moment_at-real : (m : Moment) → IsMoment m → moment_at (moment_text m) ≡ m
moment_at-real m h =
    let year : m.year ≤ 9999 = omega (arith, signed_arith, h.date.0) in
    let month : m.month < 100 = omega (arith, h.date.1.1) in
    moment_at-text m year month (day_below m h) (omega (arith, h.hour)) (omega (arith, h.minute)) (omega (arith, h.second))

-- ---- the test

-- The text is that of the moment that it names.
abbrev is_of_moment : List ℕ → Bool
is_of_moment text = is_moment (moment_at text) && bytes_eq (moment_text (moment_at text)) text

-- A text that passes the test is a stamp.
stamp_from_test : (text : List ℕ) → is_stamp text ≡ true → IsStamp text
unfolding is_stamp
stamp_from_test text e = elim (or_cases (is_of_moment text) (bytes_eq text UNKNOWN_TIME) e) [
  | inl of ↦ let p = and_parts (is_moment (moment_at text)) (bytes_eq (moment_text (moment_at text)) text) of in
      inl (moment_at text, real_from_test (moment_at text) p.0, sym ((bytes_eq-Decides (moment_text (moment_at text)) text).0 p.1))
  | inr unknown ↦ inr ((bytes_eq-Decides text UNKNOWN_TIME).0 unknown)
]

-- The text of a moment passes the test.
test_from_moment : (m : Moment) → IsMoment m → is_stamp (moment_text m) ≡ true
unfolding is_stamp
test_from_moment m h =
    let again = moment_at-real m h in
    let real : is_moment (moment_at (moment_text m)) ≡ true = ap (λ (n : Moment). is_moment n) again ∙ test_from_real m h in
    let same : bytes_eq (moment_text (moment_at (moment_text m))) (moment_text m) ≡ true = (bytes_eq-Decides (moment_text (moment_at (moment_text m))) (moment_text m)).1 (ap (λ (n : Moment). moment_text n) again) in
    or_left (is_of_moment (moment_text m)) (bytes_eq (moment_text m) UNKNOWN_TIME) (and_from _ _ real same)

-- A stamp passes the test.
test_from_stamp : (text : List ℕ) → IsStamp text → is_stamp text ≡ true
unfolding is_stamp
test_from_stamp text (inl moment) = ap (λ (t : List ℕ). is_stamp t) moment.2 ∙ test_from_moment moment.0 moment.1
test_from_stamp text (inr unknown) = or_right (is_of_moment text) (bytes_eq text UNKNOWN_TIME) ((bytes_eq-Decides text UNKNOWN_TIME).1 unknown)

-- A text passes the test exactly where it is a stamp.
pub stamp_test_is_form : StampTestIsForm
stamp_test_is_form text = (stamp_from_test text, test_from_stamp text)

-- The test as it is made: of the moment that the text names it is known whether it is one.
pub test_is : (text made : List ℕ) (m : Moment) (real same unknown : Bool) → m ≡ moment_at text → IsTrue real ↔ IsMoment m → made ≡ moment_text m → same ≡ bytes_eq made text → unknown ≡ bytes_eq text UNKNOWN_TIME
    → ((real && same) || unknown) ≡ is_stamp text
unfolding is_stamp
test_is text made m real same unknown named decides text_of compared known =
    let is : real ≡ is_moment m = one_answer real (is_moment m) (decides.0, decides.1) (real_from_test m, test_from_real m) in
    rw (is, compared, text_of, known, named) refl

-- ---- the stamp of a second

-- The nanoseconds that a clock shows, from those of the instant of a second.
pub shown_nanos : (shown given : ℤ) (second secs : ℕ) → second ≡ secs → secs < 2 ^ 32 → given ≡ pos second
    → shown ≡ to_z w128 (of_z w128 (to_z w128 (of_z w128 given) *ℤ pos 1_000_000_000)) → shown ≡ pos (secs * 1_000_000_000)
shown_nanos shown given second secs same small number instant =
    let back : to_z w128 (of_z w128 given) ≡ given = back_small w128 given (rw number (omega (arith, same, small))) in
    let product : given *ℤ pos 1_000_000_000 ≡ pos (secs * 1_000_000_000) = omega (arith, signed_arith, number, same) in
    let whole : to_z w128 (of_z w128 (pos (secs * 1_000_000_000))) ≡ pos (secs * 1_000_000_000) = back_small w128 (pos (secs * 1_000_000_000)) (omega (arith, small)) in
    rw (back, product) at instant ∙ whole

-- A number is below another, or not.
below_or_not : (z : ℤ) (n : ℕ) → (z <ℤ pos n) ⊎ (pos n ≤ℤ z)
below_or_not (pos k) n = elim (cases_lt k n) [ inl lt ↦ inl (omega (arith, signed_arith, lt)) | inr le ↦ inr (omega (arith, signed_arith, le)) ]
below_or_not (negsuc k) n = inl (omega (arith, signed_arith))

-- No clock shows a year before 0 in 1970 or later.
pub year_not_negative : (clock : DateTime) (secs : ℕ) → civil_nanos clock ≡ pos (secs * 1_000_000_000) → pos 0 ≤ℤ clock.date.year
year_not_negative clock secs at =
    elim (below_or_not clock.date.year 1970) [
      | inl early ↦
          let before = day_count-lt_year clock.date.year clock.date.month clock.date.day (pos 1970) 1 1 (clock.date.year_in, clock.date.month_in, clock.date.day_in) (omega arith) early in
          let day : epoch_day clock.date <ℤ pos 0 = omega (arith, signed_arith, before, day_count-epoch, days_from_civil-day_count clock.date.year clock.date.month clock.date.day) in
          absurd (omega (arith, signed_arith, day, at, civil_nanos-parts clock, clock.time.hour_in, clock.time.minute_in, clock.time.second_in, clock.time.subsec_in))
      | inr late ↦ omega (arith, signed_arith, late)
    ]

-- What a clock shows is a moment.
pub shown_is_moment : (clock : DateTime) (m : Moment) → Shows clock m → IsMoment m
shown_is_moment clock m shows = record {
  date = subst (λ (y : ℤ). IsCivilDate y m.month m.day) shows.year (subst (λ (k : ℕ). IsCivilDate clock.date.year k m.day) shows.month (subst (λ (k : ℕ). IsCivilDate clock.date.year clock.date.month k) shows.day (clock.date.year_in, clock.date.month_in, clock.date.day_in)));
  hour = omega (arith, shows.hour, clock.time.hour_in);
  minute = omega (arith, shows.minute, clock.time.minute_in);
  second = omega (arith, shows.second, clock.time.second_in);
}

-- The text of a moment, character by character.
pub text_is : (m : Moment) → (48 + m.year / 1000 % 10) ∷ (48 + m.year / 100 % 10) ∷ (48 + m.year / 10 % 10) ∷ (48 + m.year % 10) ∷ 45
    ∷ (48 + m.month / 10 % 10) ∷ (48 + m.month % 10) ∷ 45 ∷ (48 + m.day / 10 % 10) ∷ (48 + m.day % 10) ∷ 84
    ∷ (48 + m.hour / 10 % 10) ∷ (48 + m.hour % 10) ∷ 58 ∷ (48 + m.minute / 10 % 10) ∷ (48 + m.minute % 10) ∷ 58
    ∷ (48 + m.second / 10 % 10) ∷ (48 + m.second % 10) ∷ 90 ∷ [] ≡ moment_text m
unfolding digits
text_is m =
    let thousands : m.year / 1000 ≡ m.year / 10 / 10 / 10 = omega arith in
    let hundreds : m.year / 100 ≡ m.year / 10 / 10 = omega arith in
    rw (thousands, hundreds) refl
