use Rattle.std.proofs.Common.{List, [], ◌∷◌, ◌++◌, ℕ, sym, subst, append-nil}
use Rattle.wire_base.specs.Turns.{Ended}
use Rattle.collector_session.specs.Cores.{Stands, over}
use Rattle.collector_session.proofs.Coring.{stands_by}
use Rattle.session_core.specs.RanLaws.{serve_still}
use Rattle.session_core.proofs.session_core.ServeCoreSessionCore.link_ended.Goals as goal

pub returns-clause-ran : goal.returns-clause-ran
returns-clause-ran g c desk =
    serve_still g.D.Desk.stands g.D.Desk.went g.met.D.Desk.stays g.met.D.Desk.follows g.met.D.Desk.carries c.args.self.now c.link_ended.new.self desk (Ended ∷ []) [] c.link_ended.ensures.config
    (λ chronicle places begun carried s.
    subst (λ (os : List ℕ). Stands chronicle places (begun ++ Ended ∷ []) os c.link_ended.new.self) (sym (append-nil carried))
    (stands_by chronicle places (begun ++ Ended ∷ []) carried c.link_ended.new.self (over c.link_ended.new.self) (c.link_ended.ensures.stood c.requires.live chronicle places begun carried s)))
