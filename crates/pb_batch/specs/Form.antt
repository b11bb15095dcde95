-- The layout of a batch and of its messages (RFC 5793, section 4): which octets are which value.
-- Octets that are reserved may be any, and so may the flags that are not read.
use Rattle.std.specs.Prelude.{◌≡◌, ◌≤◌, ◌<◌, ◌+◌, ◌^◌, ◌%◌, ℕ, Bool, true, IsTrue, List, [], ◌∷◌, ◌++◌, length, sum_by}
use Rattle.wire_base.specs.Layout.{Field, Number, Reserved, Flags, Form}
use Rattle.pb_batch.specs.declared.batch.Batch.{Batch}
use Rattle.pb_batch.specs.declared.batch.Message.{Message}
use Rattle.pb_batch.specs.declared.batch.Message.TheVariants.{Pa, Assessment, Recommendation, Error, Frame}
use Rattle.pb_batch.specs.declared.kind.MessageType.TheVariants as type
use Rattle.pb_batch.specs.Types.{number_of_kind, type_of, is_known}

-- ---- limits

-- The version of PB-TNC.
abbrev pub VERSION : ℕ
VERSION = 2

-- The octets of a batch's header.
abbrev pub HEADER_OCTETS : ℕ
HEADER_OCTETS = 8

-- The octets of a message before its value.
abbrev pub MESSAGE_HEAD_OCTETS : ℕ
MESSAGE_HEAD_OCTETS = 12

-- The most octets of a batch.
abbrev pub BATCH_OCTETS : ℕ
BATCH_OCTETS = 16777216

-- The most messages of a batch.
abbrev pub BATCH_MESSAGES : ℕ
BATCH_MESSAGES = 64

-- The vendor and the type that stand for none.
abbrev pub NO_VENDOR : ℕ
NO_VENDOR = 0xffffff

abbrev pub NO_TYPE : ℕ
NO_TYPE = 0xffffffff

-- The highest bit of an octet: the flags SERVER of a batch, NOSKIP of a message, EXCL of a PB-PA
-- message and FATAL of a PB-Error.
abbrev pub FLAG : ℕ
FLAG = 128

-- ---- messages

-- The vendor of a message, and its type.
abbrev pub vendor_of : Message → ℕ
vendor_of (Pa excl vendor subtype collector validator body) = 0
vendor_of (Assessment result) = 0
vendor_of (Recommendation code) = 0
vendor_of (Error fatal vendor code info) = 0
vendor_of (Frame noskip vendor kind body) = vendor

abbrev pub number_of_type : Message → ℕ
number_of_type (Pa excl vendor subtype collector validator body) = 1
number_of_type (Assessment result) = 2
number_of_type (Recommendation code) = 3
number_of_type (Error fatal vendor code info) = 5
number_of_type (Frame noskip vendor kind body) = kind

-- The fields of a message's value (sections 4.5, 4.6, 4.7 and 4.9).
abbrev pub value_fields : Message → List Field
value_fields (Pa excl vendor subtype collector validator body) =
    Flags ((FLAG, excl) ∷ [])  -- Flags: EXCL
    ∷ Number 3 vendor  -- PA Message Vendor ID
    ∷ Number 4 subtype  -- PA Subtype
    ∷ Number 2 collector  -- Posture Collector Identifier
    ∷ Number 2 validator  -- Posture Validator Identifier
    ∷ []
value_fields (Assessment result) =
    Number 4 result  -- Assessment Result
    ∷ []
value_fields (Recommendation code) =
    Reserved 2  -- Reserved
    ∷ Number 2 code  -- Access Recommendation Code
    ∷ []
value_fields (Error fatal vendor code info) =
    Flags ((FLAG, fatal) ∷ [])  -- Flags: FATAL
    ∷ Number 3 vendor  -- Error Code Vendor ID
    ∷ Number 2 code  -- Error Code
    ∷ Reserved 2  -- Reserved
    ∷ []
value_fields (Frame noskip vendor kind body) = []

-- The octets after the fields.
abbrev pub body_of : Message → List ℕ
body_of (Pa excl vendor subtype collector validator body) = body
body_of (Assessment result) = []
body_of (Recommendation code) = []
body_of (Error fatal vendor code info) = info
body_of (Frame noskip vendor kind body) = body

-- How many octets the fields have, with those of the head.
abbrev pub field_octets : Message → ℕ
field_octets (Pa excl vendor subtype collector validator body) = 24
field_octets (Assessment result) = 16
field_octets (Recommendation code) = 16
field_octets (Error fatal vendor code info) = 20
field_octets (Frame noskip vendor kind body) = 12

-- How many octets a message has.
abbrev pub message_octets : Message → ℕ
message_octets m = field_octets m + length (body_of m)

-- The fields of a message (section 4.2), with these of its flags known.
abbrev pub message_fields : List (ℕ × Bool) → Message → List Field
message_fields flags m =
    Flags flags  -- Flags: NOSKIP
    ∷ Number 3 (vendor_of m)  -- PB-TNC Vendor ID
    ∷ Number 4 (number_of_type m)  -- PB-TNC Message Type
    ∷ Number 4 (message_octets m)  -- PB-TNC Message Length
    ∷ value_fields m

-- NOSKIP is read either way on a message whose value is looked at. Of any other it is kept.
abbrev pub read_flags : Message → List (ℕ × Bool)
read_flags (Pa excl vendor subtype collector validator body) = []
read_flags (Assessment result) = []
read_flags (Recommendation code) = []
read_flags (Error fatal vendor code info) = []
read_flags (Frame noskip vendor kind body) = (FLAG, noskip) ∷ []

-- What the numbers of a message may be. A message whose value is not looked at is of none of the
-- types whose value is, and has NOSKIP only on a type that a receiver has to know.
abbrev pub IsMessage : Message → Type 0
IsMessage (Pa excl vendor subtype collector validator body) = (vendor < NO_VENDOR) × (subtype < NO_TYPE) × (collector < 2 ^ 16) × (validator < 2 ^ 16)
IsMessage (Assessment result) = result ≤ 4
IsMessage (Recommendation code) = (1 ≤ code) × (code ≤ 3)
IsMessage (Error fatal vendor code info) = (vendor < 2 ^ 24) × (code < 2 ^ 16)
IsMessage (Frame noskip vendor kind body) =
    (vendor < NO_VENDOR) × (kind < NO_TYPE) × (type_of vendor kind ≡ type.Other) × (noskip ≡ true → IsTrue (is_known vendor kind))

-- The octets are a message: its fields, and after them its body.
pub record MessageForm (m : Message) (octets : List ℕ) : Type 0 where
  pub valid : IsMessage m
  pub head : List ℕ
  pub joined : octets ≡ head ++ body_of m
  pub fields : Form (message_fields (read_flags m) m) head

-- The octets are messages, one after another.
abbrev pub MessagesForm : List Message → List ℕ → Type 0
MessagesForm [] octets = octets ≡ []
MessagesForm (m ∷ ms) octets = (front : List ℕ) × (rest : List ℕ) × (octets ≡ front ++ rest) × MessageForm m front × MessagesForm ms rest

-- ---- batches

-- How many octets a batch has.
abbrev pub batch_octets : Batch → ℕ
batch_octets b = HEADER_OCTETS + sum_by message_octets b.messages

-- The fields of a batch's header (section 4.1), with this octet for the type.
abbrev pub header_fields : ℕ → Batch → List Field
header_fields type b =
    Number 1 VERSION  -- Version
    ∷ Flags ((FLAG, b.from_server) ∷ [])  -- D, and 7 bits of Reserved
    ∷ Reserved 1  -- 8 bits of Reserved
    ∷ Number 1 type  -- 4 bits of Reserved, and 4 of B-Type
    ∷ Number 4 (batch_octets b)  -- Batch Length
    ∷ []

-- The octets are a batch: its header and its messages, not more of either than there may be.
pub record BatchForm (b : Batch) (octets : List ℕ) : Type 0 where
  pub few : length b.messages ≤ BATCH_MESSAGES
  pub short : batch_octets b ≤ BATCH_OCTETS
  pub type : ℕ
  pub kind : type % 16 ≡ number_of_kind b.kind
  pub header : List ℕ
  pub rest : List ℕ
  pub joined : octets ≡ header ++ rest
  pub fields : Form (header_fields type b) header
  pub messages : MessagesForm b.messages rest
