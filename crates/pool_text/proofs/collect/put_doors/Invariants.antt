-- What was put, and the lines of the doors that are left, are the lines of all doors.
use Rattle.std.proofs.Common.{◌≡◌, ◌+◌, ◌++◌, drop}
use Rattle.std.specs.List.{zip}
use Rattle.pool_text.specs.Text.{door_text, numbered}
use Rattle.pool_text.proofs.collect.put_doors.Given as goal

abbrev pub invariant-loop-place : goal.invariant-loop-place
invariant-loop-place l =
    l.out ++ numbered door_text (l.place + 1) (drop l.place (zip l.ends l.door_failed)) ≡ l.fn.out ++ numbered door_text 1 (zip l.ends l.door_failed)
