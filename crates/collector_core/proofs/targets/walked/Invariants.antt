use Rattle.std.proofs.Common.{◌≡◌, take}
use Rattle.collector_core.specs.Answering.{wanted_records}
use Rattle.collector_core.specs.Borrowed.{values}
use Rattle.collector_core.specs.Places.{present}
use Rattle.collector_core.proofs.targets.walked.Given as goal

abbrev pub invariant-loop-held : goal.invariant-loop-held
invariant-loop-held l = values l.chosen.items ≡ wanted_records l.targets (present (take l.held-index l.held-items))
