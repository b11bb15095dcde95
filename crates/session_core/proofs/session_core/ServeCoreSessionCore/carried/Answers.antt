use Rattle.std.proofs.Common.{List, [], ◌++◌, take, sym, subst, append-nil}
use Rattle.wire_base.specs.Turns.{Turn}
use Rattle.collector_session.specs.Cores.{Stands, over}
use Rattle.collector_session.proofs.Coring.{stands_by}
use Rattle.session_core.specs.RanLaws.{serve_still}
use Rattle.session_core.proofs.session_core.ServeCoreSessionCore.carried.Goals as goal

pub returns-clause-ran : goal.returns-clause-ran
returns-clause-ran g c desk =
    serve_still g.D.Desk.stands g.D.Desk.went g.met.D.Desk.stays g.met.D.Desk.follows g.met.D.Desk.carries c.args.self.now c.carried.new.self desk [] (take c.args.count c.args.self.now.end.out) c.carried.ensures.config
    (λ chronicle places begun carried s.
    subst (λ (ts : List Turn). Stands chronicle places ts (carried ++ take c.args.count c.args.self.now.end.out) c.carried.new.self) (sym (append-nil begun))
    (c.carried.ensures.stands chronicle places begun carried (stands_by chronicle places begun carried c.args.self.now (over c.args.self.now) s)))
