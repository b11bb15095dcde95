-- None has moved so far.
use Rattle.std.proofs.Common.{drop}
use Rattle.collector_session.proofs.Looking.{Unmoved}
use Rattle.collector_session.proofs.look.has_one_moved.Given as goal

abbrev pub invariant-loop-held : goal.invariant-loop-held
invariant-loop-held g l = Unmoved g.D.Desk.stands g.D.Desk.went l.fn.desk l.desk l.held-items (drop l.held-index l.held-items)
