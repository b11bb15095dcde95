-- The octets of the ones gone over stand after what stood there.
use Rattle.std.proofs.Common.{◌≡◌, ◌++◌, take}
use Rattle.std.specs.List.{flat_map}
use Rattle.wire_base.specs.Written.{Fit, written}
use Rattle.swima_request.specs.RequestForm.{target_fields}
use Rattle.swima_request.proofs.fields.put_targets.Given as goal

abbrev pub invariant-loop-target : goal.invariant-loop-target
invariant-loop-target l = record {
  appended : l.out ≡ l.fn.out ++ written (flat_map target_fields (take l.target-index l.target-items));
  fits : Fit (flat_map target_fields (take l.target-index l.target-items));
}
