-- What the tables of faults and the layout mean for octets that are handed to a feed.
use Rattle.std.specs.Prelude.{◌≡◌, ◌≤◌, ◌<◌, ◌+◌, ◌-◌, ◌↔◌, ◌⊎◌, ℕ, Bool, IsTrue, List, [], ◌++◌, Some, None, All, length, take, slice_range}
use Rattle.wire_base.specs.FaultTable.{IsLowest, first_shown}
use Rattle.wire_base.specs.Feeding.{More, Bad, Whole}
use Rattle.wire_base.specs.Layout.{AreOctets}
use Rattle.pb_batch.specs.declared.batch.Batch.{Batch}
use Rattle.pb_batch.specs.declared.batch.Message.{Message}
use Rattle.pb_batch.specs.declared.fault.PbFault.{PbFault}
use Rattle.pb_batch.specs.Form.{HEADER_OCTETS, BATCH_MESSAGES, BATCH_OCTETS, body_of, MessageForm, MessagesForm, BatchForm, message_octets, batch_octets}
use Rattle.pb_batch.specs.Faults.{header_rows, message_rows, batch_length}
use Rattle.pb_batch.specs.Front.{front_of}
use Rattle.pb_batch.specs.Written.{IsBatch, written}

-- The octets begin with a batch of the direction, which has `len` of them.
pub record Begins (from_server : Bool) (octets : List ℕ) (b : Batch) (len : ℕ) : Type 0 where
  pub within : len ≤ length octets
  pub direction : b.from_server ≡ from_server
  pub form : BatchForm b (take len octets)

-- A fault shows in what is left of a batch from a place on, of which that many messages may still
-- come: after some messages in their form, in the next one.
pub record MessageFault (left place : ℕ) (rest : List ℕ) (f : PbFault) : Type 0 where
  pub before : List Message
  pub front : List ℕ
  pub more : List ℕ
  pub joined : rest ≡ front ++ more
  pub messages : MessagesForm before front
  pub few : length before ≤ left
  pub some : 0 < length more
  pub row : first_shown (message_rows (left - length before) (place + length front) more) ≡ Some f

-- A fault shows in the header, once that is there.
pub record HeaderFault (from_server : Bool) (octets : List ℕ) (f : PbFault) : Type 0 where
  pub long : HEADER_OCTETS ≤ length octets
  pub row : first_shown (header_rows from_server octets) ≡ Some f

-- A fault shows in a message, once all octets that the header counts are there.
pub record BodyFault (from_server : Bool) (octets : List ℕ) (f : PbFault) : Type 0 where
  pub long : HEADER_OCTETS ≤ length octets
  pub good : first_shown (header_rows from_server octets) ≡ None
  pub there : batch_length octets ≤ length octets
  pub fault : MessageFault BATCH_MESSAGES HEADER_OCTETS (slice_range octets HEADER_OCTETS (batch_length octets)) f

abbrev pub ShowsFault : Bool → List ℕ → PbFault → Type 0
ShowsFault from_server octets f = HeaderFault from_server octets f ⊎ BodyFault from_server octets f

-- ---- what is proved of every octets

-- Octets are found to begin with a batch exactly where one in its form stands first.
abbrev pub WholeIsForm : Type 0
WholeIsForm = (from_server : Bool) (octets : List ℕ) (b : Batch) (len : ℕ) → AreOctets octets → (front_of from_server octets ≡ Whole b len) ↔ Begins from_server octets b len

-- A fault is found exactly where it shows.
abbrev pub BadIsFault : Type 0
BadIsFault = (from_server : Bool) (octets : List ℕ) (f : PbFault) → AreOctets octets → (front_of from_server octets ≡ Bad f) ↔ ShowsFault from_server octets f

-- Octets begin with a batch, or a fault shows in them, or neither: exactly one of the three, and
-- one batch or fault alone.
pub record OneOfThree (from_server : Bool) (octets : List ℕ) : Type 0 where
  pub one_batch : (b c : Batch) (m n : ℕ) → Begins from_server octets b m → Begins from_server octets c n → (b ≡ c) × (m ≡ n)
  pub one_fault : (f g : PbFault) → ShowsFault from_server octets f → ShowsFault from_server octets g → f ≡ g
  pub not_both : (b : Batch) (len : ℕ) (f : PbFault) → Begins from_server octets b len → ShowsFault from_server octets f → ⊥
  pub neither : (front_of from_server octets ≡ More) ↔ (((b : Batch) (len : ℕ) → Begins from_server octets b len → ⊥) × ((f : PbFault) → ShowsFault from_server octets f → ⊥))

abbrev pub AreOneOfThree : Type 0
AreOneOfThree = (from_server : Bool) (octets : List ℕ) → AreOctets octets → OneOfThree from_server octets

-- A batch and a message have as many octets as their lengths say.
pub record LengthsCount : Type 0 where
  pub batch : (b : Batch) (octets : List ℕ) → BatchForm b octets → length octets ≡ batch_octets b
  pub message : (m : Message) (octets : List ℕ) → MessageForm m octets → length octets ≡ message_octets m

-- No batch begins another.
abbrev pub NoneBeginsAnother : Type 0
NoneBeginsAnother = (b c : Batch) (octets more : List ℕ) → BatchForm b octets → BatchForm c (octets ++ more) → (b ≡ c) × (more ≡ [])

-- More octets change neither a batch that was found nor a fault. A batch that they make whole
-- reaches past the octets that were none yet.
pub record FrontStays (from_server : Bool) (octets more : List ℕ) : Type 0 where
  pub whole : (b : Batch) (len : ℕ) → front_of from_server octets ≡ Whole b len → front_of from_server (octets ++ more) ≡ Whole b len
  pub bad : (f : PbFault) → front_of from_server octets ≡ Bad f → front_of from_server (octets ++ more) ≡ Bad f
  pub longer : (b : Batch) (len : ℕ) → front_of from_server octets ≡ More → front_of from_server (octets ++ more) ≡ Whole b len → length octets < len

abbrev pub FrontsStay : Type 0
FrontsStay = (from_server : Bool) (octets more : List ℕ) → FrontStays from_server octets more

-- The fault that counts has the lowest place of all rows that show.
abbrev pub place_of : PbFault → ℕ
place_of f = f.offset

pub record LowestCounts : Type 0 where
  pub header : (from_server : Bool) (octets : List ℕ) (f : PbFault) → first_shown (header_rows from_server octets) ≡ Some f → IsLowest place_of f (header_rows from_server octets)
  pub message : (left place : ℕ) (rest : List ℕ) (f : PbFault) → first_shown (message_rows left place rest) ≡ Some f → IsLowest place_of f (message_rows left place rest)

-- What is written has the form of the batch, and is read as the batch, whatever follows.
abbrev pub WrittenIsRead : Type 0
WrittenIsRead = (b : Batch) (more : List ℕ) → IsBatch b
    → BatchForm b (written b) × (length (written b) ≡ batch_octets b) × (front_of b.from_server (written b ++ more) ≡ Whole b (length (written b)))

-- The body of a message in a batch that can be written has at most the octets of a batch.
abbrev pub BodiesFit : Type 0
BodiesFit = (b : Batch) → IsBatch b → All (λ (m : Message). length (body_of m) ≤ BATCH_OCTETS) b.messages
