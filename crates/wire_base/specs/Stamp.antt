-- Stamps: a date and a time of day in UTC as twenty characters, `YYYY-MM-DDThh:mm:ssZ` (RFC 8412,
-- section 5.8). The form is that of RFC 3339, section 5.6, with capital letters and without
-- fractions of a second.
use Rattle.std.specs.Prelude.{◌≡◌, ◌↔◌, ◌⊎◌, ◌+◌, ◌-◌, ◌*◌, ◌/◌, ◌%◌, ◌<◌, ◌≤◌, ◌&&◌, ◌||◌, ℕ, zero, suc, Bool, List, [], ◌∷◌, ◌++◌, Result, Ok, Err, IsTrue, fold, codes, nat_lt, nat_le, pos, slice_range}
use Rattle.std.specs.Str.{bytes_eq}
use Rattle.jiff_core.specs.Calendar.{IsCivilDate, days_in_month}
use Rattle.jiff_core.specs.DateTime.{civil_nanos}
use Rattle.jiff_core.specs.declared.civil.datetime.DateTime.{DateTime}
use Rattle.wire_base.specs.declared.values.stamp.ClockRange.{ClockRange}
use Rattle.wire_base.specs.declared.values.moment.Moment.{Moment}

-- A date of the years 0000 to 9999 that the calendar of `jiff` has, and a time that a clock shows.
-- A leap second has the number 60.
pub record IsMoment (m : Moment) : Type 0 where
  pub date : IsCivilDate (pos m.year) m.month m.day
  pub hour : m.hour < 24
  pub minute : m.minute < 60
  pub second : m.second ≤ 60

-- A number in decimal digits, as many as are asked for.
unfoldable pub digits : ℕ → ℕ → List ℕ
digits zero number = []
digits (suc size) number = digits size (number / 10) ++ (48 + number % 10) ∷ []

-- The text of a moment.
abbrev pub moment_text : Moment → List ℕ
moment_text m =
    digits 4 m.year ++ codes "-" ++ digits 2 m.month ++ codes "-" ++ digits 2 m.day ++ codes "T"
    ++ digits 2 m.hour ++ codes ":" ++ digits 2 m.minute ++ codes ":" ++ digits 2 m.second ++ codes "Z"

-- The stamp of a change whose time is not known.
abbrev pub UNKNOWN_TIME : List ℕ
UNKNOWN_TIME = codes "0000-00-00T00:00:00Z"

-- The text is a stamp: that of a moment, or of a time that is not known.
abbrev pub IsStamp : List ℕ → Type 0
IsStamp text = ((m : Moment) × IsMoment m × (text ≡ moment_text m)) ⊎ (text ≡ UNKNOWN_TIME)

-- ---- the same as a test

-- The calendar has the date, and a clock shows the time.
abbrev pub is_moment : Moment → Bool
is_moment m =
    nat_le m.year 9999 && nat_le 1 m.month && nat_le m.month 12
    && nat_le 1 m.day && nat_le m.day (days_in_month (pos m.year) m.month)
    && nat_lt m.hour 24 && nat_lt m.minute 60 && nat_le m.second 60

-- The number that decimal digits spell.
abbrev pub spelled : List ℕ → ℕ
spelled characters = fold (λ number character. 10 * number + (character - 48)) 0 characters

-- The moment that a text names, if it is that of a moment.
abbrev pub moment_at : List ℕ → Moment
moment_at text = record {
  year = spelled (slice_range text 0 4);
  month = spelled (slice_range text 5 7);
  day = spelled (slice_range text 8 10);
  hour = spelled (slice_range text 11 13);
  minute = spelled (slice_range text 14 16);
  second = spelled (slice_range text 17 19);
}

-- The text is a stamp: that of the moment that it names, or of a time that is not known.
unfoldable pub is_stamp : List ℕ → Bool
is_stamp text = (is_moment (moment_at text) && bytes_eq (moment_text (moment_at text)) text) || bytes_eq text UNKNOWN_TIME

-- The test and the words are the same.
abbrev pub StampTestIsForm : Type 0
StampTestIsForm = (text : List ℕ) → IsTrue (is_stamp text) ↔ IsStamp text

-- ---- the stamp of a second

-- The clock shows the moment.
pub record Shows (clock : DateTime) (m : Moment) : Type 0 where
  pub year : clock.date.year ≡ pos m.year
  pub month : clock.date.month ≡ m.month
  pub day : clock.date.day ≡ m.day
  pub hour : clock.time.hour ≡ m.hour
  pub minute : clock.time.minute ≡ m.minute
  pub second : clock.time.second ≡ m.second

-- A clock in UTC shows the moment that many seconds after 1970-01-01T00:00:00, by the calendar of
-- `jiff`.
abbrev pub IsShownAt : ℕ → Moment → Type 0
IsShownAt secs m = (clock : DateTime) × (civil_nanos clock ≡ pos (secs * 1_000_000_000)) × Shows clock m

-- The last second that has a stamp here: 2^32 - 1.
abbrev pub LAST_SECOND : ℕ
LAST_SECOND = 4294967295

-- What is given as the stamp of a second: the text of what a clock shows then, exactly up to the
-- last second.
abbrev pub IsStampAt : ℕ → Result (List ℕ) ClockRange → Type 0
IsStampAt secs (Ok text) = (secs ≤ LAST_SECOND) × (m : Moment) × IsShownAt secs m × (text ≡ moment_text m)
IsStampAt secs (Err range) = (LAST_SECOND < secs) × (range.secs ≡ secs)
