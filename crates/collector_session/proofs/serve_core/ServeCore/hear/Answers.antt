use Rattle.std.proofs.Common.{rules, ◌≡◌, List, ℕ, length, subst}
use Rattle.wire_base.specs.Turns.{turns_of}
use Rattle.collector_session.specs.Cores.{Turned}
use Rattle.collector_session.proofs.Taking.{empty_turned, used_so}
use Rattle.collector_session.proofs.serve_core.ServeCore.hear.Goals as goal

pub returns-clause-turned : goal.returns-clause-turned
returns-clause-turned g c live =
    subst (λ (xs : List ℕ). Turned g.D.Desk.stands g.D.Desk.went c.args.desk.now c.take.new.desk c.args.self.now (turns_of xs) c.take.new.self)
    (used_so c.args.self.now c.args.piece.now c.allowed-used.result c.allowed-used.ensures.allowed) c.take.ensures.turned

pub returns-then-is_empty-clause-turned : goal.returns-then-is_empty-clause-turned
returns-then-is_empty-clause-turned g c live =
    let none : length c.args.piece.now ≡ 0 = search rules in
    empty_turned g.D.Desk.stands g.D.Desk.went g.met.D.Desk.stays g.met.D.Desk.follows g.met.D.Desk.carries c.args.desk.now c.args.self.now c.args.piece.now none live
