-- The octets of the ones gone over stand after what stood there.
use Rattle.std.proofs.Common.{◌≡◌, ◌++◌, take}
use Rattle.std.specs.List.{flat_map}
use Rattle.wire_base.specs.Written.{Fit, written}
use Rattle.swima_request.specs.RequestForm.{request_fields}
use Rattle.swima_request.proofs.fields.put_requests.Given as goal

abbrev pub invariant-loop-request : goal.invariant-loop-request
invariant-loop-request l = record {
  appended : l.out ≡ l.fn.out ++ written (flat_map request_fields (take l.request-index l.request-items));
  fits : Fit (flat_map request_fields (take l.request-index l.request-items));
}
