-- What calls gave that may run out of memory.
use Rattle.std.specs.Prelude.{◌≡◌, Result, Ok, Err}
use Rattle.wire_base.specs.declared.layout.field_refused.FieldRefused.{FieldRefused}
use Rattle.wire_base.specs.declared.layout.field_refused.FieldRefused.TheVariants as field
use Rattle.wire_base.specs.declared.layout.field_refused.Refused.{Refused}
use Rattle.wire_base.specs.declared.layout.field_refused.Refused.TheVariants as refused
use Rattle.pb_batch.specs.declared.fault.PbFault.{PbFault}
use Rattle.pb_batch.specs.Faults.{INVALID_PARAMETER, fault}

-- A call gave a value or a fault, unless memory ran out, of which nothing is said.
abbrev pub Gives : {X Y : Type 0} → (X → Y) → Result X (Refused PbFault) → Result Y PbFault → Type 0
Gives view (Ok value) read = read ≡ Ok (view value)
Gives view (Err (refused.Fault f)) read = read ≡ Err f
Gives view (Err refused.Memory) read = Unit {0}

-- Why a message is not read, where its value is not.
abbrev pub refused_of : FieldRefused → Refused PbFault
refused_of (field.Fault place) = refused.Fault (fault INVALID_PARAMETER place)
refused_of field.Memory = refused.Memory
