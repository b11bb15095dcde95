-- What each answer on what stands first means. All lists of octets here have numbers below 256.
use Rattle.std.specs.Prelude.{◌≡◌, ◌≤◌, ◌<◌, ◌↔◌, ℕ, List, [], ◌∷◌, Some, length, take}
use Rattle.wire_base.specs.Layout.{AreOctets}
use Rattle.pa_attrs.specs.declared.attr.Attr.{Attr}
use Rattle.pa_attrs.specs.declared.fault.AttrFault.{AttrFault}
use Rattle.pa_attrs.specs.declared.header.Header.{Header}
use Rattle.pa_attrs.specs.Numbers.{HEADER, MOST_OCTETS, UNSUPPORTED_ATTRIBUTE}
use Rattle.pa_attrs.specs.Header.{header_of}
use Rattle.pa_attrs.specs.Faults.{Row, row, first_shown, header_rows, is_refused}
use Rattle.pa_attrs.specs.Laws.{IsFirst, IsPassed}
use Rattle.swid_cli.specs.declared.mirror.first_attribute.Front.TheVariants as front
use Rattle.swid_cli.specs.Front.{REPORT_TYPES, first_of}

-- The table of faults of a header: the command's own row, and after it those of any stream of
-- attributes.
abbrev pub rows : Header → List Row
rows h = row (is_refused REPORT_TYPES h) UNSUPPORTED_ATTRIBUTE 0 ∷ header_rows MOST_OCTETS h

-- The octets have a header, and this is the first fault of the table that shows in it.
pub record Shows (fault : AttrFault) (octets : List ℕ) : Type 0 where
  pub header : HEADER ≤ length octets
  pub first : first_shown (rows (header_of octets)) ≡ Some fault

-- Neither a fault shows nor a whole attribute stands first.
pub record IsUnfinished (octets : List ℕ) : Type 0 where
  pub no_fault : (fault : AttrFault) → Shows fault octets → ⊥
  pub no_attribute : (attr : Attr) (len : ℕ) → IsFirst attr len octets → ⊥

-- The end comes exactly where nothing is left.
abbrev pub EndIsNothing : Type 0
EndIsNothing = (room : ℕ) (octets : List ℕ) → (first_of room octets ≡ front.End) ↔ (octets ≡ [])

-- All octets that are left may be looked at, and they are `have` octets, at least one, without a
-- fault and without a whole attribute.
pub record IsTorn (room : ℕ) (octets : List ℕ) (have : ℕ) : Type 0 where
  pub count : length octets ≡ have
  pub some : 0 < have
  pub within : have ≤ room
  pub unfinished : IsUnfinished octets

-- The input is torn exactly so.
abbrev pub TornIsUnfinished : Type 0
TornIsUnfinished = (room : ℕ) (octets : List ℕ) (have : ℕ) → AreOctets octets → (first_of room octets ≡ front.Torn have) ↔ IsTorn room octets have

-- More are left than may be looked at, and in those nothing else shows.
pub record IsBeyond (room : ℕ) (octets : List ℕ) : Type 0 where
  pub beyond : room < length octets
  pub unfinished : IsUnfinished (take room octets)

-- The limit shows exactly so.
abbrev pub LimitIsBeyond : Type 0
LimitIsBeyond = (room : ℕ) (octets : List ℕ) → AreOctets octets → (first_of room octets ≡ front.Limit) ↔ IsBeyond room octets

-- A fault is reported exactly where it shows in what may be looked at.
abbrev pub FaultyShows : Type 0
FaultyShows = (room : ℕ) (octets : List ℕ) (fault : AttrFault) → (first_of room octets ≡ front.Faulty fault) ↔ Shows fault (take room octets)

-- An attribute in its form stands first, lies in what may be looked at, and carries a report or may
-- be passed over.
pub record IsTaken (room : ℕ) (octets : List ℕ) (attr : Attr) (len : ℕ) : Type 0 where
  pub first : IsFirst attr len octets
  pub within : len ≤ room
  pub passed : IsPassed REPORT_TYPES attr

-- A whole attribute is found exactly so.
abbrev pub WholeIsAttribute : Type 0
WholeIsAttribute = (room : ℕ) (octets : List ℕ) (attr : Attr) (len : ℕ) → AreOctets octets → (first_of room octets ≡ front.Whole attr len) ↔ IsTaken room octets attr len
