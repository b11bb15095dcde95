use Rattle.std.proofs.Common.{◌≡◌, ◌++◌}
use Rattle.collector_core.specs.Answering.{wanted_records}
use Rattle.collector_core.specs.Borrowed.{values}
use Rattle.collector_core.specs.Index.{picked}
use Rattle.collector_core.proofs.targets.picked.Given as goal

abbrev pub invariant-loop-id : goal.invariant-loop-id
invariant-loop-id l =
    values l.chosen.items ++ wanted_records l.targets (picked l.id-iterator l.records.records) ≡ wanted_records l.targets (picked l.ids.keys l.records.records)
