use Rattle.std.proofs.Common.{◌∙◌}
use Rattle.session_core.proofs.Driving.{drives_then, live_is}
use Rattle.session_core.proofs.drive.round.Goals as goal

pub returns-clause-drives : goal.returns-clause-drives
returns-clause-drives g c =
    drives_then g.C.SessionCore.ran g.C.SessionCore.over g.met.C.SessionCore.then c.args.core.now c.give_waiting.new.core c.take_turn.new.core c.args.beside.now c.args.beside.now c.take_turn.new.beside _ _ _ _ _ _
    (live_is (g.C.SessionCore.over c.give_waiting.new.core) (c.in_ok-give_waiting.ensures.over ∙ c.requires.live)) (c.in_ok-give_waiting.ensures.drives c.args.beside.now) c.take_turn.ensures.drives
