-- The lines of octets, and the items that a source of lines reports.
use Rattle.std.specs.Prelude.{◌≡◌, ◌==◌, ◌+◌, ◌<◌, ◌≤◌, ◌⊎◌, ℕ, List, [], ◌∷◌, ◌++◌, Bool, true, false, Option, Some, Result, Ok, Err, length, take, drop, if◌then◌else◌}
use Rattle.wire_base.specs.Counter.{next}
use Rattle.source_lines.specs.LineItems.{IsItem}
use Rattle.wire_base.specs.Outside.{Moves, NothingLeft}
use Rattle.wire_base.specs.declared.outside.stopped.Stopped.{Stopped}
use Rattle.source_lines.specs.declared.line_buffer.Front.{Front}
use Rattle.source_lines.specs.declared.line_buffer.Front.TheVariants as front
use Rattle.source_lines.specs.declared.line_fault.LineFault.{LineFault}
use Rattle.source_set.specs.declared.told.Told.{Told}
use Rattle.source_set.specs.declared.told.Told.TheVariants as told

-- The most octets of a line, without the line feed that ends it.
abbrev pub MOST_OCTETS : ℕ
MOST_OCTETS = 4194304

-- How many octets stand before the first line feed; all, where there is none.
unfoldable pub before_feed : List ℕ → ℕ
before_feed [] = 0
before_feed (octet ∷ octets) = if octet == 10 then 0 else 1 + before_feed octets

-- Octets begin with a line that is short enough, which is this item; the rest stands after its line
-- feed.
pub record BeginsLine (number : ℕ) (octets : List ℕ) (item : Told) (rest : List ℕ) : Type 0 where
  pub short : before_feed octets ≤ MOST_OCTETS
  pub ended : before_feed octets < length octets
  pub says : IsItem number (take (before_feed octets) octets) item
  pub leaves : rest ≡ drop (before_feed octets + 1) octets

-- Octets begin with more of them than a line may have. That many are a bad line, and what follows
-- begins the next.
pub record BeginsLong (number : ℕ) (octets : List ℕ) (item : Told) (rest : List ℕ) : Type 0 where
  pub long : MOST_OCTETS < before_feed octets
  pub bad : item ≡ told.Bad number
  pub leaves : rest ≡ drop MOST_OCTETS octets

-- No line is whole yet.
pub record IsUnfinished (octets : List ℕ) : Type 0 where
  pub short : length octets ≤ MOST_OCTETS
  pub open_end : before_feed octets ≡ length octets

-- The items that octets are, the first of which is the line of that number.
abbrev pub AreItems : ℕ → List ℕ → List Told → Type 0
AreItems number octets [] = IsUnfinished octets
AreItems number octets (item ∷ items) = (rest : List ℕ)
    × (BeginsLine number octets item rest ⊎ BeginsLong number octets item rest) × AreItems (next number) rest items

-- ---- what was read of an input

-- The octets of lines that were not reported, the number of the first of these lines, why the last
-- bad line is no item, where one came, and how many more octets there is room for.
pub record BufferView : Type 0 where
  pub held : List ℕ
  pub number : ℕ
  pub fault : Option LineFault
  pub room : ℕ

-- All but the room is the same.
pub record SameLines (before after : BufferView) : Type 0 where
  pub held : after.held ≡ before.held
  pub number : after.number ≡ before.number
  pub fault : after.fault ≡ before.fault

-- What octets begin with.
abbrev pub BeginsWith : List ℕ → Front → Type 0
BeginsWith held (front.Line len) = (len ≡ before_feed held) × (len < length held) × (len ≤ MOST_OCTETS)
BeginsWith held front.Long = MOST_OCTETS < before_feed held
BeginsWith held front.More = IsUnfinished held

-- ---- a source of lines

-- A source of lines: its input, the octets that were read of it and not reported, the number of the
-- next line, and why the last bad line is no item, where one came.
pub record LineView (S : Type 0) : Type 0 where
  pub input : S
  pub held : List ℕ
  pub number : ℕ
  pub fault : Option LineFault

-- Where the input exposes what is left, the items are those of the octets that are held and left.
abbrev pub WillReport : {S : Type 0} → (S → Option (List ℕ)) → LineView S → List Told → Type 0
WillReport left source items = (octets : List ℕ) × (left source.input ≡ Some octets) × AreItems source.number (source.held ++ octets) items

-- These octets were read, and are held.
pub record Holds {S : Type 0} (left : S → Option (List ℕ)) (before after : LineView S) (more : List ℕ) : Type 0 where
  pub held : after.held ≡ before.held ++ more
  pub number : after.number ≡ before.number
  pub fault : after.fault ≡ before.fault
  pub moved : Moves (left before.input) (left after.input) more

-- What one call of the input did: it gave some octets, or it has come to its end, or nothing was
-- read.
abbrev pub HasRead : {S : Type 0} → (S → Option (List ℕ)) → LineView S → LineView S → Result Bool Stopped → Type 0
HasRead left before after (Ok true) = (more : List ℕ) × (0 < length more) × Holds left before after more
HasRead left before after (Ok false) = NothingLeft (left before.input) × Holds left before after []
HasRead left before after (Err why) = Holds left before after []

-- Where no item was read, all that would be reported will be.
abbrev pub IfUnread : {S : Type 0} → (S → List Told → Type 0) → S → S → Result Told Stopped → Type 0
IfUnread reports before after (Ok item) = Unit {0}
IfUnread reports before after (Err why) = (items : List Told) → reports before items → reports after items
