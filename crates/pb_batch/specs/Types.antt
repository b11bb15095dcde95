-- The numbers of batch types (RFC 5793, section 4.1), of message types (section 4.3) and of error
-- codes (section 4.9.1).
use Rattle.std.specs.Prelude.{◌==◌, ◌&&◌, ℕ, Bool, Option, Some, None, nat_lt, if◌then◌else◌}
use Rattle.pb_batch.specs.declared.error_code.PbErrorCode.{PbErrorCode}
use Rattle.pb_batch.specs.declared.error_code.PbErrorCode.TheVariants as code
use Rattle.pb_batch.specs.declared.kind.BatchKind.{BatchKind}
use Rattle.pb_batch.specs.declared.kind.BatchKind.TheVariants as batch
use Rattle.pb_batch.specs.declared.kind.MessageType.{MessageType}
use Rattle.pb_batch.specs.declared.kind.MessageType.TheVariants as message

-- The number of a batch type.
abbrev pub number_of_kind : BatchKind → ℕ
number_of_kind batch.Cdata = 1
number_of_kind batch.Sdata = 2
number_of_kind batch.Outcome = 3
number_of_kind batch.Cretry = 4
number_of_kind batch.Sretry = 5
number_of_kind batch.Close = 6

-- The batch type of a number.
abbrev pub kind_of : ℕ → Option BatchKind
kind_of number =
    if number == 1 then Some batch.Cdata
    else (if number == 2 then Some batch.Sdata
    else (if number == 3 then Some batch.Outcome
    else (if number == 4 then Some batch.Cretry
    else (if number == 5 then Some batch.Sretry
    else (if number == 6 then Some batch.Close
    else None)))))

-- The types of the IETF whose values are looked at.
abbrev pub ietf_type : ℕ → MessageType
ietf_type kind =
    if kind == 1 then message.Pa
    else (if kind == 2 then message.Assessment
    else (if kind == 3 then message.Recommendation
    else (if kind == 5 then message.Error
    else message.Other)))

-- The type of a message, by its vendor and the vendor's number. The IETF is the vendor 0.
abbrev pub type_of : ℕ → ℕ → MessageType
type_of vendor kind =
    if vendor == 0 then ietf_type kind else message.Other

-- The vendor and number of a type that a receiver has to know: those of the IETF from 1 to 7.
abbrev pub is_known : ℕ → ℕ → Bool
is_known vendor kind = (vendor == 0) && (nat_lt 0 kind && nat_lt kind 8)

-- The number of an error code.
abbrev pub number_of_code : PbErrorCode → ℕ
number_of_code code.UnexpectedBatchType = 0
number_of_code code.InvalidParameter = 1
number_of_code code.LocalError = 2
number_of_code code.UnsupportedMandatoryMessage = 3
number_of_code code.VersionNotSupported = 4
