-- The requests so far.
use Rattle.std.proofs.Common.{◌≡◌, take}
use Rattle.swima_subs.specs.Subscriptions.{status}
use Rattle.swima_subs.proofs.subs.Subs.status.Given as goal

abbrev pub invariant-loop-held : goal.invariant-loop-held
invariant-loop-held l = l.requests ≡ status (take l.held-index l.held-items)
