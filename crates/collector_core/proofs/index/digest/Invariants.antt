use Rattle.std.proofs.Common.{◌≡◌, ◌<◌, take}
use Rattle.std.specs.List.{fold}
use Rattle.collector_core.specs.Index.{add_octet}
use Rattle.collector_core.proofs.index.digest.Given as goal

abbrev pub invariant-loop-octet : goal.invariant-loop-octet
invariant-loop-octet l = record {
  summed : l.sum ≡ fold add_octet 0 (take l.octet-index l.octets);
  small : l.sum < 4294967291;
}
