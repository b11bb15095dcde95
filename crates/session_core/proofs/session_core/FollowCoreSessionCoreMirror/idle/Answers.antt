use Rattle.std.proofs.Common.{[], ◌∷◌, ap, ◌∙◌}
use Rattle.std.specs.Prelude.{is_some}
use Rattle.wire_base.specs.Turns.{Idle}
use Rattle.validator_session.specs.Core.{over_of}
use Rattle.session_core.specs.RanLaws.{follow_turned}
use Rattle.session_core.proofs.Ends.{follow_answer}
use Rattle.session_core.proofs.session_core.FollowCoreSessionCoreMirror.idle.Goals as goal

pub returns-clause-ran : goal.returns-clause-ran
returns-clause-ran c =
    follow_turned c.args.beside.now c.idle.new.mirror c.args.self.now c.idle.new.self (Idle ∷ []) c.idle.ensures.config (c.idle.ensures.turned (ap is_some c.requires.live))

pub returns-clause-turn : goal.returns-clause-turn
returns-clause-turn c = c.idle.ensures.turn ∙ follow_answer (over_of c.idle.new.self)

pub returns-clause-less : goal.returns-clause-less
returns-clause-less c on = c.idle.ensures.less (ap is_some on)
