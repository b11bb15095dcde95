-- All of a piece is used that the limit allows.
use Rattle.std.proofs.Common.{List, [], ℕ, ap, subst, take_all, ◌∙◌}
use Rattle.std.specs.Prelude.{◌-◌, is_some}
use Rattle.wire_base.specs.Turns.{turns_of}
use Rattle.validator_session.specs.Core.{over_of, received_of}
use Rattle.session_core.specs.Ran.{FollowRan}
use Rattle.session_core.specs.RanLaws.{follow_turned}
use Rattle.session_core.proofs.Ends.{follow_answer}
use Rattle.session_core.proofs.session_core.FollowCoreSessionCoreMirror.hear.Goals as goal

pub returns-clause-ran : goal.returns-clause-ran
returns-clause-ran c =
    subst (λ (xs : List ℕ). FollowRan c.args.self.now c.args.beside.now (turns_of xs) [] c.hear.new.self c.hear.new.mirror)
    (take_all (c.args.self.now.end.config.octets - received_of c.args.self.now) c.args.piece.now c.requires.left)
    (follow_turned c.args.beside.now c.hear.new.mirror c.args.self.now c.hear.new.self _ c.hear.ensures.config (c.hear.ensures.turned (ap is_some c.requires.live)))

pub returns-clause-turn : goal.returns-clause-turn
returns-clause-turn c = c.hear.ensures.turn ∙ follow_answer (over_of c.hear.new.self)

pub returns-clause-less : goal.returns-clause-less
returns-clause-less c on = c.hear.ensures.less (ap is_some on) c.requires.some
