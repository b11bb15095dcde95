use Rattle.std.proofs.Common.{sym, ◌∙◌}
use Rattle.session_core.proofs.Driving.{drives_then, other_is}
use Rattle.session_core.proofs.drive.finish.Goals as goal

pub returns-in_err-give_waiting-clause-drives : goal.returns-in_err-give_waiting-clause-drives
returns-in_err-give_waiting-clause-drives g c start begun beside taken given so-far =
    drives_then g.C.SessionCore.ran g.C.SessionCore.over g.met.C.SessionCore.then start c.args.core.now c.give_waiting.new.core begun beside beside _ _ _ _ _ _
    (other_is c.args.by (g.C.SessionCore.over c.args.core.now) c.requires.over (sym c.is_memory.ensures.memory ∙ c.if-is_memory.false)) so-far (c.in_err-give_waiting.ensures.drives beside)

pub returns-clause-drives : goal.returns-clause-drives
returns-clause-drives g c start begun beside taken given so-far =
    drives_then g.C.SessionCore.ran g.C.SessionCore.over g.met.C.SessionCore.then start c.args.core.now c.give_waiting.new.core begun beside beside _ _ _ _ _ _
    (other_is c.args.by (g.C.SessionCore.over c.args.core.now) c.requires.over (sym c.is_memory.ensures.memory ∙ c.if-is_memory.false)) so-far (c.in_ok-give_waiting.ensures.drives beside)
