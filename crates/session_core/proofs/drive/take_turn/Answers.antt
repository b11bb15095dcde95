use Rattle.session_core.proofs.Driving.{drives_none}
use Rattle.session_core.proofs.drive.take_turn.Goals as goal

pub returns-in-Failed-clause-drives : goal.returns-in-Failed-clause-drives
returns-in-Failed-clause-drives g c =
    drives_none g.C.SessionCore.ran c.args.core.now c.args.beside.now _ _ _ _ c.in-Failed.ensures.takes.0 c.take.ensures.given (g.met.C.SessionCore.none c.args.core.now c.args.beside.now)
