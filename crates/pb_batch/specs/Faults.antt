-- The faults of a batch, as tables: a row for each, with the code of RFC 5793, section 4.9.1, and
-- the place. The rows of a table stand in the order of their places, so the first that shows has
-- the lowest place, and is the first of those there.
use Rattle.std.specs.Prelude.{◌==◌, ◌&&◌, ◌||◌, ◌+◌, ◌%◌, ℕ, Bool, not, List, [], ◌∷◌, ◌++◌, is_none, length, slice_index, slice_range, nat_lt, nat_le, if◌then◌else◌}
use Rattle.wire_base.specs.FaultTable.{Row}
use Rattle.wire_base.specs.Numbers.{number_of}
use Rattle.wire_base.specs.Layout.{is_set}
use Rattle.pb_batch.specs.declared.fault.PbFault.{PbFault}
use Rattle.pb_batch.specs.declared.kind.MessageType.{MessageType}
use Rattle.pb_batch.specs.declared.kind.MessageType.TheVariants as type
use Rattle.pb_batch.specs.Types.{kind_of, type_of, is_known}
use Rattle.pb_batch.specs.Form.{VERSION, HEADER_OCTETS, BATCH_OCTETS, NO_VENDOR, NO_TYPE, FLAG}

-- The codes: Invalid Parameter, Unsupported Mandatory Message, Version Not Supported
-- (`number_of_code`).
abbrev pub INVALID_PARAMETER : ℕ
INVALID_PARAMETER = 1

abbrev pub UNSUPPORTED_MESSAGE : ℕ
UNSUPPORTED_MESSAGE = 3

abbrev pub VERSION_NOT_SUPPORTED : ℕ
VERSION_NOT_SUPPORTED = 4

-- The fault of a code at a place.
abbrev pub fault : ℕ → ℕ → PbFault
fault code place = record { code = code; offset = place; version = 0 }

-- A row of a table: whether it shows, the code and the place.
abbrev pub row : Bool → ℕ → ℕ → Row PbFault
row shows code place = record { shows = shows; fault = fault code place }

-- The number of that many octets from a place on.
abbrev pub number : List ℕ → ℕ → ℕ → ℕ
number octets place size = number_of (slice_range octets place (place + size))

-- ---- the header

-- Two truth values differ.
abbrev pub differ : Bool → Bool → Bool
differ a b = if a then not b else b

-- The length in a header.
abbrev pub batch_length : List ℕ → ℕ
batch_length octets = number octets 4 4

-- The faults of a header, which show once its 8 octets are there. The direction is the one that is
-- expected.
abbrev pub header_rows : Bool → List ℕ → List (Row PbFault)
header_rows from_server octets =
    record { shows = not (slice_index octets 0 == VERSION); fault = record { code = VERSION_NOT_SUPPORTED; offset = 0; version = slice_index octets 0 } }
    ∷ row (differ (is_set (slice_index octets 1) FLAG) from_server) INVALID_PARAMETER 1
    ∷ row (is_none (kind_of (slice_index octets 3 % 16))) INVALID_PARAMETER 3
    ∷ row (nat_lt (batch_length octets) HEADER_OCTETS || nat_lt BATCH_OCTETS (batch_length octets)) INVALID_PARAMETER 4
    ∷ []

-- ---- a message

-- What stands in the head of a message.
abbrev pub noskip_in : List ℕ → Bool
noskip_in rest = is_set (slice_index rest 0) FLAG

abbrev pub vendor_in : List ℕ → ℕ
vendor_in rest = number rest 1 3

abbrev pub kind_in : List ℕ → ℕ
kind_in rest = number rest 4 4

abbrev pub length_in : List ℕ → ℕ
length_in rest = number rest 8 4

abbrev pub type_in : List ℕ → MessageType
type_in rest = type_of (vendor_in rest) (kind_in rest)

-- A message of the type may have that many octets.
abbrev pub may_have : MessageType → ℕ → Bool
may_have type.Pa count = nat_le 24 count
may_have type.Assessment count = count == 16
may_have type.Recommendation count = count == 16
may_have type.Error count = nat_le 20 count
may_have type.Other count = nat_le 12 count

-- The faults of the head of a message that begins at the place, where `rest` is left of the batch
-- and that many messages may still come.
abbrev pub head_rows : ℕ → ℕ → List ℕ → List (Row PbFault)
head_rows left place rest =
    row (left == 0) INVALID_PARAMETER place
    ∷ row (nat_lt (length rest) 12) INVALID_PARAMETER place
    ∷ row (noskip_in rest && not (is_known (vendor_in rest) (kind_in rest))) UNSUPPORTED_MESSAGE place
    ∷ row (vendor_in rest == NO_VENDOR) INVALID_PARAMETER (place + 1)
    ∷ row (kind_in rest == NO_TYPE) INVALID_PARAMETER (place + 4)
    ∷ row (nat_lt (length rest) (length_in rest) || not (may_have (type_in rest) (length_in rest))) INVALID_PARAMETER (place + 8)
    ∷ []

-- The faults of the value, by the type.
abbrev pub value_rows : MessageType → ℕ → List ℕ → List (Row PbFault)
value_rows type.Pa place rest =
    row (number rest 13 3 == NO_VENDOR) INVALID_PARAMETER (place + 13)
    ∷ row (number rest 16 4 == NO_TYPE) INVALID_PARAMETER (place + 16)
    ∷ []
value_rows type.Assessment place rest =
    row (nat_lt 4 (number rest 12 4)) INVALID_PARAMETER (place + 12)
    ∷ []
value_rows type.Recommendation place rest =
    row (nat_lt (number rest 14 2) 1 || nat_lt 3 (number rest 14 2)) INVALID_PARAMETER (place + 14)
    ∷ []
value_rows type.Error place rest = []
value_rows type.Other place rest = []

-- All faults of a message, which show once the batch is whole.
abbrev pub message_rows : ℕ → ℕ → List ℕ → List (Row PbFault)
message_rows left place rest = head_rows left place rest ++ value_rows (type_in rest) place rest
