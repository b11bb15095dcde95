-- What joined octets begin with: a batch, a fault, or neither yet.
use Rattle.std.specs.Prelude.{◌==◌, ◌+◌, ◌%◌, ℕ, zero, suc, Bool, List, [], ◌∷◌, Option, Some, None, Result, Ok, Err, length, drop, unwrap_or, slice_index, slice_range, nat_lt, if◌then◌else◌}
use Rattle.wire_base.specs.FaultTable.{first_shown, unless}
use Rattle.wire_base.specs.Feeding.{Front as FrontOf, Headed, front}
use Rattle.wire_base.specs.Layout.{is_set}
use Rattle.pb_batch.specs.declared.batch.Batch.{Batch}
use Rattle.pb_batch.specs.declared.batch.Message.{Message}
use Rattle.pb_batch.specs.declared.batch.Message.TheVariants.{Pa, Assessment, Recommendation, Error, Frame}
use Rattle.pb_batch.specs.declared.fault.PbFault.{PbFault}
use Rattle.pb_batch.specs.declared.batch_header.Header.{Header}
use Rattle.pb_batch.specs.declared.kind.BatchKind.TheVariants as batch
use Rattle.pb_batch.specs.declared.kind.MessageType.{MessageType}
use Rattle.pb_batch.specs.declared.kind.MessageType.TheVariants as type
use Rattle.pb_batch.specs.declared.message_head.MessageHead.{MessageHead}
use Rattle.pb_batch.specs.Types.{kind_of}
use Rattle.pb_batch.specs.Form.{HEADER_OCTETS, BATCH_MESSAGES, FLAG}
use Rattle.pb_batch.specs.Faults.{number, header_rows, batch_length, noskip_in, vendor_in, kind_in, length_in, type_in, head_rows, value_rows, message_rows}

-- What a header says, and the same by the table of its faults.
abbrev pub header_in : List ℕ → Header
header_in octets = record { kind = unwrap_or (kind_of (slice_index octets 3 % 16)) batch.Close; length = batch_length octets }

abbrev pub header_of : Bool → List ℕ → Result Header PbFault
header_of from_server octets = unless (first_shown (header_rows from_server octets)) (header_in octets)

-- The head of a message, and the same by the table of its faults.
abbrev pub head_in : List ℕ → MessageHead
head_in rest = record { noskip = noskip_in rest; vendor = vendor_in rest; kind = kind_in rest; length = length_in rest }

abbrev pub head_of : ℕ → ℕ → List ℕ → Result MessageHead PbFault
head_of left place rest = unless (first_shown (head_rows left place rest)) (head_in rest)

-- The message of the type that stands first, with the octets that it counts.
abbrev pub message_of_type : MessageType → List ℕ → Message
message_of_type type.Pa rest =
    Pa (is_set (slice_index rest 12) FLAG) (number rest 13 3) (number rest 16 4) (number rest 20 2) (number rest 22 2) (slice_range rest 24 (length_in rest))
message_of_type type.Assessment rest = Assessment (number rest 12 4)
message_of_type type.Recommendation rest = Recommendation (number rest 14 2)
message_of_type type.Error rest = Error (is_set (slice_index rest 12) FLAG) (number rest 13 3) (number rest 16 2) (slice_range rest 20 (length_in rest))
message_of_type type.Other rest = Frame (noskip_in rest) (vendor_in rest) (kind_in rest) (slice_range rest 12 (length_in rest))

abbrev pub message_of : List ℕ → Message
message_of rest = message_of_type (type_in rest) rest

-- The same by the table of its value's faults.
abbrev pub value_of : ℕ → List ℕ → MessageType → Result Message PbFault
value_of place rest type = unless (first_shown (value_rows type place rest)) (message_of_type type rest)

-- A message, unless a fault shows in it, and those after it.
abbrev pub and_others : Message → Result (List Message) PbFault → Result (List Message) PbFault
and_others m (Ok ms) = Ok (m ∷ ms)
and_others m (Err f) = Err f

abbrev pub message_then : Option PbFault → Message → Result (List Message) PbFault → Result (List Message) PbFault
message_then None m others = and_others m others
message_then (Some f) m others = Err f

-- The messages of what is left of a batch from the place on, of which that many may still come; or
-- the first fault.
unfoldable pub messages_of : ℕ → ℕ → List ℕ → Result (List Message) PbFault
messages_of zero place rest = if length rest == 0 then Ok [] else message_then (first_shown (message_rows zero place rest)) (message_of rest) (Ok [])
messages_of (suc left) place rest =
    if length rest == 0 then Ok []
    else message_then (first_shown (message_rows (suc left) place rest)) (message_of rest) (messages_of left (place + length_in rest) (drop (length_in rest) rest))

-- A batch of the direction with its header and messages.
abbrev pub batch_of : Bool → Header → Result (List Message) PbFault → Result Batch PbFault
batch_of from_server header (Ok messages) = Ok (record { from_server = from_server; kind = header.kind; messages = messages })
batch_of from_server header (Err f) = Err f

-- Batches of the direction. The messages are looked at once all octets of the batch are there.
abbrev pub batches : Bool → Headed Header Batch PbFault
batches from_server = record {
  size = HEADER_OCTETS;
  header = header_of from_server;
  len = λ header. header.length;
  value = λ header octets. batch_of from_server header (messages_of BATCH_MESSAGES HEADER_OCTETS (slice_range octets HEADER_OCTETS header.length));
}

-- What joined octets begin with, where batches of this direction are expected.
abbrev pub Front : Type 0
Front = FrontOf Batch PbFault

unfoldable pub front_of : Bool → List ℕ → Front
front_of from_server octets = front (batches from_server) octets

-- The header, where all of it is there.
abbrev pub when_there : Result Header PbFault → Result (Option Header) PbFault
when_there (Ok header) = Ok (Some header)
when_there (Err f) = Err f

abbrev pub header_seen : Bool → List ℕ → Result (Option Header) PbFault
header_seen from_server octets = if nat_lt (length octets) HEADER_OCTETS then Ok None else when_there (header_of from_server octets)
