-- Values from octets that come in pieces: what joined octets begin with, and what a feed of them
-- answers. A value begins with a header that says how many octets the value has.
use Rattle.std.specs.Prelude.{◌≡◌, ◌<◌, ◌≤◌, ◌+◌, ℕ, List, [], ◌++◌, Option, Some, None, Result, Ok, Err, length, take, nat_lt, if◌then◌else◌}
use Rattle.wire_base.specs.declared.layout.field_refused.Refused.{Refused}
use Rattle.wire_base.specs.declared.layout.field_refused.Refused.TheVariants as refused

-- ---- what octets begin with

-- What joined octets begin with.
--   More              neither of the others yet
--   Bad fault         a fault shows
--   Whole value len   a value is whole, of that many octets; others may follow it
pub data Front (V F : Type 0) : Type 0 where
  More : Front V F
  Bad : F → Front V F
  Whole : V → ℕ → Front V F

-- Values that begin with a header.
--   size     how many octets the header has
--   header   what octets that begin with one say, or the fault of it
--   len      how many octets the value has, by its header
--   value    the value that the octets begin with, by its header, or the fault of it
pub record Headed (H V F : Type 0) : Type 0 where
  pub size : ℕ
  pub header : List ℕ → Result H F
  pub len : H → ℕ
  pub value : H → List ℕ → Result V F

-- A value of that many octets, or its fault.
abbrev pub valued : {V F : Type 0} → ℕ → Result V F → Front V F
valued len (Ok value) = Whole value len
valued len (Err fault) = Bad fault

-- Octets that begin with a header. The value is looked at once all of its octets are there.
abbrev pub after_header : {H V F : Type 0} → Headed H V F → List ℕ → Result H F → Front V F
after_header values octets (Err fault) = Bad fault
after_header values octets (Ok h) = if nat_lt (length octets) (values.len h) then More else valued (values.len h) (values.value h octets)

-- What octets begin with. The header is looked at once all of it is there.
abbrev pub front : {H V F : Type 0} → Headed H V F → List ℕ → Front V F
front values octets = if nat_lt (length octets) values.size then More else after_header values octets (values.header octets)

-- ---- a feed

-- A feed: the octets that it holds, and what it answers for ever, once it does.
pub record Feeding (F : Type 0) : Type 0 where
  pub octets : List ℕ
  pub stopped : Option (Refused F)

-- A feed that holds nothing.
abbrev pub fresh : {F : Type 0} → Feeding F
fresh = record { octets = []; stopped = None }

-- What a feed answers to a piece.
--   Waits              no value is whole yet
--   Gives value used   a value is whole, with that many octets of the piece
--   Stops refused      a fault shows, or memory ran out
pub data Fed (V F : Type 0) : Type 0 where
  Waits : Fed V F
  Gives : V → ℕ → Fed V F
  Stops : Refused F → Fed V F

-- A feed that holds octets answers a piece by what the octets and the piece, joined, begin with.
-- At a fault it stops, and holds the first `kept` of the joined octets from then on. When memory
-- runs out it stops, and holds what it held.
abbrev pub TakesPiece : {V F : Type 0} → (List ℕ → Front V F) → ℕ → List ℕ → List ℕ → Fed V F → Feeding F → Type 0
TakesPiece front kept held piece Waits after = (front (held ++ piece) ≡ More) × (after ≡ record { octets = held ++ piece; stopped = None })
TakesPiece front kept held piece (Gives value used) after = (front (held ++ piece) ≡ Whole value (length held + used)) × (0 < used) × (used ≤ length piece) × (after ≡ fresh)
TakesPiece front kept held piece (Stops (refused.Fault fault)) after = (front (held ++ piece) ≡ Bad fault) × (after ≡ record { octets = take kept (held ++ piece); stopped = Some (refused.Fault fault) })
TakesPiece front kept held piece (Stops refused.Memory) after = after ≡ record { octets = held; stopped = Some refused.Memory }

-- A feed that has stopped answers what it answered before, and stays as it is.
abbrev pub FeedsBy : {V F : Type 0} → (List ℕ → Front V F) → ℕ → Option (Refused F) → Feeding F → List ℕ → Fed V F → Feeding F → Type 0
FeedsBy front kept None before piece answer after = TakesPiece front kept before.octets piece answer after
FeedsBy front kept (Some stopped) before piece answer after = (answer ≡ Stops stopped) × (after ≡ before)

-- What any feed answers.
abbrev pub Feeds : {V F : Type 0} → (List ℕ → Front V F) → ℕ → Feeding F → List ℕ → Fed V F → Feeding F → Type 0
Feeds front kept before piece answer after = FeedsBy front kept before.stopped before piece answer after
