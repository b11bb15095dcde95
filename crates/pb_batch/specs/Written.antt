-- What is written of a batch: its one written form. Of a layout of fields it is what is written of
-- each, with 0 in all that may be any.
use Rattle.std.specs.Prelude.{◌≡◌, ◌≤◌, ◌==◌, ◌⊎◌, ℕ, Bool, true, false, List, [], ◌∷◌, ◌++◌, length, All, if◌then◌else◌}
use Rattle.std.specs.List.{flat_map}
use Rattle.wire_base.specs.Numbers.{octets_of}
use Rattle.wire_base.specs.Layout.{Number, Flags}
use Rattle.wire_base.specs.Written.{written as written_fields}
use Rattle.pb_batch.specs.declared.batch.Batch.{Batch}
use Rattle.pb_batch.specs.declared.batch.Message.{Message}
use Rattle.pb_batch.specs.declared.batch.Message.TheVariants.{Pa, Assessment, Recommendation, Error, Frame}
use Rattle.pb_batch.specs.declared.fault.PbFault.{PbFault}
use Rattle.pb_batch.specs.declared.kind.BatchKind.TheVariants as batch
use Rattle.pb_batch.specs.declared.message_head.MessageHead.{MessageHead}
use Rattle.pb_batch.specs.Types.{number_of_kind}
use Rattle.pb_batch.specs.Form.{VERSION, BATCH_MESSAGES, BATCH_OCTETS, FLAG, IsMessage, vendor_of, number_of_type, message_octets, message_fields, header_fields, body_of, batch_octets}
use Rattle.pb_batch.specs.Faults.{INVALID_PARAMETER, UNSUPPORTED_MESSAGE, VERSION_NOT_SUPPORTED}

-- NOSKIP is written on a message that a receiver has to know to go on, and not on a recommendation.
abbrev pub written_noskip : Message → Bool
written_noskip (Pa excl vendor subtype collector validator body) = true
written_noskip (Assessment result) = true
written_noskip (Recommendation code) = false
written_noskip (Error fatal vendor code info) = true
written_noskip (Frame noskip vendor kind body) = noskip

-- What is written of a message: its fields, and its body.
unfoldable pub written_message : Message → List ℕ
written_message m = written_fields (message_fields ((FLAG, written_noskip m) ∷ []) m) ++ body_of m

-- The same of its head alone, which has no body.
abbrev pub written_head : MessageHead → List ℕ
written_head head = written_fields (Flags ((FLAG, head.noskip) ∷ []) ∷ Number 3 head.vendor ∷ Number 4 head.kind ∷ Number 4 head.length ∷ [])

abbrev pub head_of_message : Message → MessageHead
head_of_message m = record { noskip = written_noskip m; vendor = vendor_of m; kind = number_of_type m; length = message_octets m }

-- What is written of a header.
abbrev pub written_header : Batch → List ℕ
written_header b = written_fields (header_fields (number_of_kind b.kind) b)

-- What is written of a batch: its header, and its messages one after another.
unfoldable pub written : Batch → List ℕ
written b = written_header b ++ flat_map written_message b.messages

-- The batch is one that can be written.
pub record IsBatch (b : Batch) : Type 0 where
  pub valid : All IsMessage b.messages
  pub few : length b.messages ≤ BATCH_MESSAGES
  pub short : batch_octets b ≤ BATCH_OCTETS

-- ---- the batch that reports a fault

-- The code is one of those that are reported: Unexpected Batch Type, and those of faults (RFC 5793,
-- section 4.9.1).
abbrev pub IsTold : ℕ → Type 0
IsTold code = (code ≡ 0) ⊎ ((code ≡ INVALID_PARAMETER) ⊎ ((code ≡ UNSUPPORTED_MESSAGE) ⊎ (code ≡ VERSION_NOT_SUPPORTED)))

-- What the code is reported with (section 4.9.2): the place of the fault; or the version that is
-- not supported, and the highest and the lowest that are.
abbrev pub error_info : PbFault → List ℕ
error_info f =
    if f.code == 0 then []
    else (if f.code == VERSION_NOT_SUPPORTED then f.version ∷ VERSION ∷ VERSION ∷ 0 ∷ [] else octets_of 4 f.offset)

-- The batch that reports a fault, and ends the session.
abbrev pub fault_batch_of : Bool → PbFault → Batch
fault_batch_of from_server f = record { from_server = from_server; kind = batch.Close; messages = Error true 0 f.code (error_info f) ∷ [] }
