-- The numbers of the kinds of form faults: 'Form faults' in docs/rules/tags.md.
use Rattle.std.specs.Prelude.{ℕ}
use Rattle.coswid_res.specs.declared.fault_kind.FormFaultKind.{FormFaultKind}
use Rattle.coswid_res.specs.declared.fault_kind.FormFaultKind.TheVariants as kind

abbrev pub fault_number : FormFaultKind → ℕ
fault_number kind.MissingKey = 1
fault_number kind.WrongForm = 2
fault_number kind.Both = 3
fault_number kind.Deep = 4
