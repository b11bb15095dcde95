-- What the rules say to the end of the link was done.
use Rattle.std.proofs.Common.{ℕ, Some, ap, refl, ◌∙◌}
use Rattle.std.specs.Prelude.{◌==◌, if◌then◌else◌}
use Rattle.session_rules.specs.declared.end.SessionEnd.{SessionEnd}
use Rattle.session_rules.specs.declared.end.SessionEnd.TheVariants as end
use Rattle.session_rules.specs.Following.{Stand}
use Rattle.validator_session.specs.declared.inner.Inner.{Inner}
use Rattle.validator_session.specs.Standing.{stand_of}
use Rattle.validator_session.proofs.Turns.{cut_stood}
use Rattle.validator_session.proofs.inner.Inner.link_ended.Goals as goal

pub returns-clause-stood : goal.returns-clause-stood
returns-clause-stood c mirror live =
    let s : Stand = stand_of c.args.self.now.end.standing mirror in
    let next : Inner = record c.args.self.now { end = record c.args.self.now.end { standing = record c.args.self.now.end.standing { over = Some c.cut_end-by.result } } } in
    cut_stood c.args.self.now next mirror live refl refl refl refl refl
    (ap (λ (by : SessionEnd). record s { over = Some by }) (c.cut_end-by.ensures.end ∙ ap (λ (n : ℕ). if n == 0 then end.Ended else end.Torn n) c.have-held.ensures.have))
