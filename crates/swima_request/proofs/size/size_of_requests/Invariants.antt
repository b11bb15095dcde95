use Rattle.std.proofs.Common.{◌≡◌, ◌-◌, ◌^◌, min, take}
use Rattle.std.specs.List.{sum_by}
use Rattle.swima_request.specs.RequestForm.{request_octets}
use Rattle.swima_request.proofs.size.size_of_requests.Given as goal

abbrev pub invariant-loop-request : goal.invariant-loop-request
invariant-loop-request l = l.size ≡ min (sum_by request_octets (take l.request-index l.request-items)) (2 ^ 64 - 1)
