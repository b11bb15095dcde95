-- What was put, and the lines of the sessions that are left, are the lines of all sessions.
use Rattle.std.proofs.Common.{◌≡◌, ◌+◌, ◌++◌, drop}
use Rattle.pool_text.specs.Text.{numbered, session_line}
use Rattle.pool_text.proofs.door_lines.put_sessions.Given as goal

abbrev pub invariant-loop-place : goal.invariant-loop-place
invariant-loop-place l =
    l.out ++ numbered (session_line l.worker) (l.place + 1) (drop l.place l.ends) ≡ l.fn.out ++ numbered (session_line l.worker) 1 l.ends
