-- What the loop did with a core that had just begun is the session.
use Rattle.std.proofs.Common.{sym, subst}
use Rattle.session_rules.specs.declared.end.SessionEnd.TheVariants as end
use Rattle.session_rules.specs.declared.record.SessionRecord.{SessionRecord}
use Rattle.session_core.specs.Followed.{Followed}
use Rattle.session_core.proofs.Ends.{caused}
use Rattle.session_core.proofs.Following.{begun_live, followed_end, followed_fault, followed_own}
use Rattle.session_core.proofs.follow.follow_session.Goals as goal

pub returns-in-Ok-clause-followed : goal.returns-in-Ok-clause-followed
returns-in-Ok-clause-followed g c =
    subst (λ (kept : SessionRecord). Followed c.args.config.now c.args.mirror.now c.drive.new.beside (g.L.Link.taken c.args.link.now) (g.L.Link.taken c.drive.new.link) (g.L.Link.given c.args.link.now) (g.L.Link.given c.drive.new.link) kept c.in-Ok.by)
    (sym c.into_record.ensures.record)
    (followed_end c.args.config.now c.args.mirror.now c.drive.new.beside _ _ _ _ c.new-core.result c.drive.new.core (c.new-core.ensures.stands c.args.mirror.now) c.new-core.ensures.config c.into_record.ensures.noted c.in-Ok.ensures.drives
    c.in-Ok.by c.in-Ok.ensures.over c.in-Ok.ensures.given)

pub returns-in-Err-clause-followed : goal.returns-in-Err-clause-followed
returns-in-Err-clause-followed g c =
    subst (λ (kept : SessionRecord). Followed c.args.config.now c.args.mirror.now c.drive.new.beside (g.L.Link.taken c.args.link.now) (g.L.Link.taken c.drive.new.link) (g.L.Link.given c.args.link.now) (g.L.Link.given c.drive.new.link) kept end.LinkFault)
    (sym c.into_record-in-Err.ensures.record)
    (followed_fault c.args.config.now c.args.mirror.now c.drive.new.beside _ _ _ _ c.new-core.result c.drive.new.core (c.new-core.ensures.stands c.args.mirror.now) c.new-core.ensures.config c.into_record-in-Err.ensures.noted c.in-Err.ensures.drives
    c.in-Err.ensures.memory)

pub returns-in-Ok-clause-cause : goal.returns-in-Ok-clause-cause
returns-in-Ok-clause-cause g c = caused c.in-Ok.by _ _ (followed_own c.args.config.now c.args.mirror.now c.drive.new.beside _ _ _ _ c.new-core.result c.drive.new.core (c.new-core.ensures.stands c.args.mirror.now) c.new-core.ensures.config c.into_record.ensures.noted c.in-Ok.ensures.drives
    c.in-Ok.by c.in-Ok.ensures.over) c.in-Ok.ensures.cause

pub drive-requires : goal.drive-requires
drive-requires g c = record { live = begun_live c.args.config.now c.args.mirror.now c.new-core.result (c.new-core.ensures.stands c.args.mirror.now) }
