use Rattle.std.proofs.Common.{◌≡◌, ◌+◌, take}
use Rattle.collector_core.specs.Chronicle.{identified_from}
use Rattle.collector_core.proofs.records.identified.Given as goal

abbrev pub invariant-loop-content : goal.invariant-loop-content
invariant-loop-content l = l.live ≡ record { next = l.content-index + 1; records = identified_from 1 (take l.content-index l.contents) }
