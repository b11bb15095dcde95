-- The fields of headers and messages as they are read, in the order of the figures of RFC 5793,
-- section 4. Which fault shows in what they say is in Faults.antt.
use Rattle.std.specs.Prelude.{◌==◌, ◌&&◌, ◌||◌, ◌%◌, ℕ, Bool, not, List, [], ◌∷◌, Option, Result, is_none, unwrap_or, nat_lt}
use Rattle.wire_base.specs.FaultTable.{Row, first_shown, unless}
use Rattle.wire_base.specs.Layout.{is_set}
use Rattle.wire_base.specs.Reading.{Reader, ◌>>=◌, done, octets, remaining, number, placed, meaning, if_so}
use Rattle.pb_batch.specs.declared.batch.Message.{Message}
use Rattle.pb_batch.specs.declared.batch.Message.TheVariants.{Pa, Assessment, Recommendation, Error, Frame}
use Rattle.pb_batch.specs.declared.batch_header.Header.{Header}
use Rattle.pb_batch.specs.declared.batch_header.HeaderFields.{HeaderFields}
use Rattle.pb_batch.specs.declared.fault.PbFault.{PbFault}
use Rattle.pb_batch.specs.declared.kind.BatchKind.TheVariants as batch
use Rattle.pb_batch.specs.declared.kind.MessageType.{MessageType}
use Rattle.pb_batch.specs.declared.kind.MessageType.TheVariants as type
use Rattle.pb_batch.specs.declared.message_head.HeadFields.{HeadFields}
use Rattle.pb_batch.specs.declared.message_head.MessageHead.{MessageHead}
use Rattle.pb_batch.specs.Faults.{INVALID_PARAMETER, UNSUPPORTED_MESSAGE, VERSION_NOT_SUPPORTED, differ, may_have, row}
use Rattle.pb_batch.specs.Form.{BATCH_OCTETS, FLAG, HEADER_OCTETS, MESSAGE_HEAD_OCTETS, NO_VENDOR, NO_TYPE, VERSION}
use Rattle.pb_batch.specs.Types.{is_known, kind_of, type_of}

-- ---- the header of a batch (section 4.1)

unfoldable pub read_header_fields : Reader HeaderFields
read_header_fields = do
  version ← placed (number 1)
  flags ← placed (number 1)
  reserved ← octets 1
  kind ← placed (number 1)
  count ← placed (number 4)
  done (record { version = version; flags = flags; kind = kind; length = count })

-- The faults of the fields, each at its place: those of `header_rows`.
abbrev pub header_field_rows : Bool → HeaderFields → List (Row PbFault)
header_field_rows from_server f =
    record { shows = not (f.version.value == VERSION); fault = record { code = VERSION_NOT_SUPPORTED; offset = f.version.at; version = f.version.value } }
    ∷ row (differ (is_set f.flags.value FLAG) from_server) INVALID_PARAMETER f.flags.at
    ∷ row (is_none (kind_of (f.kind.value % 16))) INVALID_PARAMETER f.kind.at
    ∷ row (nat_lt f.length.value HEADER_OCTETS || nat_lt BATCH_OCTETS f.length.value) INVALID_PARAMETER f.length.at
    ∷ []

-- What they say, or the first fault in them.
abbrev pub checked_header : Bool → HeaderFields → Result Header PbFault
checked_header from_server f =
    unless (first_shown (header_field_rows from_server f)) (record { kind = unwrap_or (kind_of (f.kind.value % 16)) batch.Close; length = f.length.value })

-- ---- the head of a message (section 4.2)

unfoldable pub read_head_fields : Reader HeadFields
read_head_fields = do
  flags ← placed (number 1)
  vendor ← placed (number 3)
  kind ← placed (number 4)
  count ← placed (number 4)
  done (record { flags = flags; vendor = vendor; kind = kind; length = count })

-- What they say.
abbrev pub head_said : HeadFields → MessageHead
head_said f = record { noskip = is_set f.flags.value FLAG; vendor = f.vendor.value; kind = f.kind.value; length = f.length.value }

-- The faults of the fields, each at its place, where that many octets are left: those of
-- `head_rows`, of which the first two are of a head that is not there.
abbrev pub head_field_rows : ℕ → HeadFields → List (Row PbFault)
head_field_rows left f =
    row (is_set f.flags.value FLAG && not (is_known f.vendor.value f.kind.value)) UNSUPPORTED_MESSAGE f.flags.at
    ∷ row (f.vendor.value == NO_VENDOR) INVALID_PARAMETER f.vendor.at
    ∷ row (f.kind.value == NO_TYPE) INVALID_PARAMETER f.kind.at
    ∷ row (nat_lt left f.length.value || not (may_have (type_of f.vendor.value f.kind.value) f.length.value)) INVALID_PARAMETER f.length.at
    ∷ []

-- What they say, or the first fault in them.
abbrev pub checked_head : ℕ → HeadFields → Result MessageHead PbFault
checked_head left f = unless (first_shown (head_field_rows left f)) (head_said f)

-- ---- values

-- A number that is not a bad one means itself.
abbrev pub unless_so : (ℕ → Bool) → ℕ → Option ℕ
unless_so is_bad value = if_so (λ n. not (is_bad n)) value

abbrev pub is_no_vendor : ℕ → Bool
is_no_vendor vendor = vendor == NO_VENDOR

abbrev pub is_no_type : ℕ → Bool
is_no_type kind = kind == NO_TYPE

-- A PB-PA message (section 4.5).
unfoldable pub read_pa : Reader Message
read_pa = do
  flags ← number 1
  vendor ← meaning (unless_so is_no_vendor) (number 3)
  subtype ← meaning (unless_so is_no_type) (number 4)
  collector ← number 2
  validator ← number 2
  body ← remaining
  done (Pa (is_set flags FLAG) vendor subtype collector validator body)

-- A PB-Assessment-Result (section 4.6): 0 to 4.
unfoldable pub read_assessment : Reader Message
read_assessment = do
  result ← meaning (unless_so (λ n. nat_lt 4 n)) (number 4)
  done (Assessment result)

-- A PB-Access-Recommendation (section 4.7): 1 to 3.
unfoldable pub read_recommendation : Reader Message
read_recommendation = do
  reserved ← octets 2
  code ← meaning (unless_so (λ n. nat_lt n 1 || nat_lt 3 n)) (number 2)
  done (Recommendation code)

-- A PB-Error (section 4.9).
unfoldable pub read_error : Reader Message
read_error = do
  flags ← number 1
  vendor ← number 3
  code ← number 2
  reserved ← octets 2
  info ← remaining
  done (Error (is_set flags FLAG) vendor code info)

-- Any other message, whose value is not looked at.
unfoldable pub read_frame : MessageHead → Reader Message
read_frame head = do
  body ← remaining
  done (Frame head.noskip head.vendor head.kind body)

-- A value, by the type of the message.
abbrev pub read_typed : MessageHead → MessageType → Reader Message
read_typed head type.Pa = read_pa
read_typed head type.Assessment = read_assessment
read_typed head type.Recommendation = read_recommendation
read_typed head type.Error = read_error
read_typed head type.Other = read_frame head

-- A message with this head, which is known.
unfoldable pub read_message : MessageHead → Reader Message
read_message head = do
  known ← octets MESSAGE_HEAD_OCTETS
  read_typed head (type_of head.vendor head.kind)
