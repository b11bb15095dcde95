-- The numbers of the kinds of faults: the table of docs/rules/cbor.md.
use Rattle.std.specs.Prelude.{ℕ}
use Rattle.cbor_det.specs.declared.fault.CborFaultKind.{CborFaultKind}
use Rattle.cbor_det.specs.declared.fault.CborFaultKind.TheVariants as kind

abbrev pub fault_number : CborFaultKind → ℕ
fault_number kind.Truncated = 1
fault_number kind.Malformed = 2
fault_number kind.Float = 3
fault_number kind.Simple = 4
fault_number kind.Range = 5
fault_number kind.Depth = 6
fault_number kind.NotUtf8 = 7
fault_number kind.DuplicateKey = 8
fault_number kind.TooLong = 9
