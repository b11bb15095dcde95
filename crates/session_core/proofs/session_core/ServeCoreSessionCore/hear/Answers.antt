-- All of a piece is used that the limit allows.
use Rattle.std.proofs.Common.{List, [], ℕ, subst, take_all, ◌∙◌}
use Rattle.std.specs.Prelude.{◌-◌}
use Rattle.wire_base.specs.Turns.{turns_of}
use Rattle.collector_session.specs.Cores.{over}
use Rattle.session_core.specs.Ran.{ServeRan}
use Rattle.session_core.specs.RanLaws.{serve_turned}
use Rattle.session_core.proofs.Ends.{serve_answer}
use Rattle.session_core.proofs.session_core.ServeCoreSessionCore.hear.Goals as goal

pub returns-clause-ran : goal.returns-clause-ran
returns-clause-ran g c =
    subst (λ (xs : List ℕ). ServeRan g.D.Desk.stands g.D.Desk.went c.args.self.now c.args.beside.now (turns_of xs) [] c.hear.new.self c.hear.new.desk)
    (take_all (c.args.self.now.end.config.octets - c.args.self.now.end.standing.record.received) c.args.piece.now c.requires.left)
    (serve_turned g.D.Desk.stands g.D.Desk.went c.args.beside.now c.hear.new.desk c.args.self.now c.hear.new.self _ c.hear.ensures.config (c.hear.ensures.turned c.requires.live))

pub returns-clause-turn : goal.returns-clause-turn
returns-clause-turn g c = c.hear.ensures.turn ∙ serve_answer (over c.hear.new.self)

pub returns-clause-less : goal.returns-clause-less
returns-clause-less g c on = c.hear.ensures.less on c.requires.some
