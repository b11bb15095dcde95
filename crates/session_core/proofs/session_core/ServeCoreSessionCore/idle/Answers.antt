use Rattle.std.proofs.Common.{[], ◌∷◌, ◌∙◌}
use Rattle.wire_base.specs.Turns.{Idle}
use Rattle.collector_session.specs.Cores.{over}
use Rattle.session_core.specs.RanLaws.{serve_turned}
use Rattle.session_core.proofs.Ends.{serve_answer}
use Rattle.session_core.proofs.session_core.ServeCoreSessionCore.idle.Goals as goal

pub returns-clause-ran : goal.returns-clause-ran
returns-clause-ran g c =
    serve_turned g.D.Desk.stands g.D.Desk.went c.args.beside.now c.idle.new.desk c.args.self.now c.idle.new.self (Idle ∷ []) c.idle.ensures.config (c.idle.ensures.turned c.requires.live)

pub returns-clause-turn : goal.returns-clause-turn
returns-clause-turn g c = c.idle.ensures.turn ∙ serve_answer (over c.idle.new.self)
