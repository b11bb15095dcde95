-- What was put, and the lines of the endpoints that are left, are the lines of all endpoints.
use Rattle.std.proofs.Common.{◌≡◌, ◌+◌, ◌++◌, drop}
use Rattle.std.specs.List.{zip}
use Rattle.pool_text.specs.Text.{endpoint_text, follow_text, numbered}
use Rattle.pool_text.proofs.follow.follow_text.Given as goal

abbrev pub invariant-loop-place : goal.invariant-loop-place
invariant-loop-place l =
    l.out ++ numbered endpoint_text (l.place + 1) (drop l.place (zip (zip l.ends l.door_failed) l.mirrors)) ≡ follow_text l.ends l.door_failed l.mirrors
