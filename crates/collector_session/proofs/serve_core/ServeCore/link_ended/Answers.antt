use Rattle.std.proofs.Common.{◌≡◌, [], ◌∷◌, ◌∙◌, None, ap, subst}
use Rattle.wire_base.specs.Turns.{Ended}
use Rattle.collector_session.specs.Cores.{Core, Turns, cut_end, over}
use Rattle.collector_session.proofs.Idling.{cut_stood}
use Rattle.collector_session.proofs.Pieces.{ended}
use Rattle.collector_session.proofs.serve_core.ServeCore.link_ended.Goals as goal

pub returns-clause-stood : goal.returns-clause-stood
returns-clause-stood c =
    let before : Core = record { end = c.self.inside.end; feed = c.self.inside.feed; quiet = c.self.inside.quiet } in
    subst (λ (core : Core). over core ≡ None → Turns core (Ended ∷ []) (record before { end = ended before.end c.cut-end.result })) c.self.view_is
    (λ live chronicle places turns carried s. cut_stood chronicle places turns carried before c.cut-end.result live (c.cut-end.ensures.cut ∙ ap cut_end c.have.ensures.have) s)
