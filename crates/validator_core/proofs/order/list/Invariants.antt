use Rattle.std.proofs.Common.{◌≡◌, ◌*◌, ◌≤◌, take}
use Rattle.swima_model.specs.InOrder.{ids}
use Rattle.swima_model.specs.Size.{records_octets}
use Rattle.validator_core.specs.Placed.{ids_of}
use Rattle.validator_core.proofs.order.list.Given as goal

abbrev pub invariant-loop-place : goal.invariant-loop-place
invariant-loop-place l = record {
  ids : ids_of l.places.items ≡ ids (take l.place l.records);
  octets : l.octets ≡ records_octets (take l.place l.records);
  within : l.octets ≤ 1179646 * l.place;
}
