-- What was done so far, and then by the next round; and what waits at the end.
use Rattle.std.proofs.Common.{refl, sym, ◌∙◌}
use Rattle.session_core.proofs.Driving.{drives_none, drives_then, goes_on, is_over, live_is}
use Rattle.session_core.proofs.drive.drive.Goals as goal

pub loop-turn-init : goal.loop-turn-init
loop-turn-init g c = record {
  drives = drives_none g.C.SessionCore.ran c.args.core.now c.args.beside.now _ _ _ _ refl refl (g.met.C.SessionCore.none c.args.core.now c.args.beside.now);
  live = c.requires.live;
  calm = refl;
}

pub loop-turn-preserved : goal.loop-turn-preserved
loop-turn-preserved g c = record {
  drives = drives_then g.C.SessionCore.ran g.C.SessionCore.over g.met.C.SessionCore.then c.args.core.now c.loop-turn.core c.round.new.core c.args.beside.now c.loop-turn.beside c.round.new.beside _ _ _ _ _ _
      (live_is (g.C.SessionCore.over c.loop-turn.core) c.loop-turn.invariant.live) c.loop-turn.invariant.drives c.in_ok-turn.ensures.drives;
  live = goes_on (g.C.SessionCore.over c.round.new.core) (sym c.in_default.is ∙ c.in_ok-turn.ensures.turn);
  calm = c.in_ok-turn.ensures.cause.cause ∙ c.loop-turn.invariant.calm;
}

pub returns-in_err-turn-clause-drives : goal.returns-in_err-turn-clause-drives
returns-in_err-turn-clause-drives g c =
    drives_then g.C.SessionCore.ran g.C.SessionCore.over g.met.C.SessionCore.then c.args.core.now c.loop-turn.core c.round.new.core c.args.beside.now c.loop-turn.beside c.round.new.beside _ _ _ _ _ _
    (live_is (g.C.SessionCore.over c.loop-turn.core) c.loop-turn.invariant.live) c.loop-turn.invariant.drives c.in_err-turn.ensures.drives

pub finish-requires : goal.finish-requires
finish-requires g c = record { over = is_over c.in-Over.by (g.C.SessionCore.over c.round.new.core) (sym c.in-Over.is ∙ c.in_ok-turn.ensures.turn) }

pub returns-in-Over-clause-drives : goal.returns-in-Over-clause-drives
returns-in-Over-clause-drives g c =
    c.finish.ensures.drives c.args.core.now c.args.beside.now c.round.new.beside _ _
    (drives_then g.C.SessionCore.ran g.C.SessionCore.over g.met.C.SessionCore.then c.args.core.now c.loop-turn.core c.round.new.core c.args.beside.now c.loop-turn.beside c.round.new.beside _ _ _ _ _ _
    (live_is (g.C.SessionCore.over c.loop-turn.core) c.loop-turn.invariant.live) c.loop-turn.invariant.drives c.in_ok-turn.ensures.drives)
