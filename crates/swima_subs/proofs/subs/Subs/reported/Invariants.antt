-- The subscriptions so far are as they are to be, and the others as they were.
use Rattle.std.proofs.Common.{◌≡◌, ◌++◌, drop, take}
use Rattle.swima_subs.specs.Subscriptions.{reported}
use Rattle.swima_subs.proofs.subs.Subs.reported.Given as goal

abbrev pub invariant-loop-held : goal.invariant-loop-held
invariant-loop-held l = l.held-items ≡ reported (take l.held-index l.fn.self) l.id l.point ++ drop l.held-index l.fn.self
