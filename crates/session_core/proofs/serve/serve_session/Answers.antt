-- What the loop did with a core that had just begun is the session.
use Rattle.std.proofs.Common.{Some, sym, ap, subst, ◌∙◌}
use Rattle.session_rules.specs.declared.end.SessionEnd.{SessionEnd}
use Rattle.session_rules.specs.declared.end.SessionEnd.TheVariants as end
use Rattle.session_rules.specs.declared.record.SessionRecord.{SessionRecord}
use Rattle.session_core.specs.Served.{Served}
use Rattle.session_core.proofs.Serving.{served_end, served_fault, served_none}
use Rattle.session_core.proofs.serve.serve_session.Goals as goal

pub returns-in-Ok-drive-clause-served : goal.returns-in-Ok-drive-clause-served
returns-in-Ok-drive-clause-served g c =
    subst (λ (kept : SessionRecord).
    Served g.D.Desk.stands g.D.Desk.went c.args.config.now c.args.desk.now c.drive.new.beside (g.L.Link.taken c.args.link.now) (g.L.Link.taken c.drive.new.link) (g.L.Link.given c.args.link.now) (g.L.Link.given c.drive.new.link) kept c.in-Ok-drive.by)
    (sym c.into_record.ensures.record)
    (served_end g.D.Desk.stands g.D.Desk.went c.args.config.now c.args.desk.now c.drive.new.beside _ _ _ _ c.in-Ok.core c.drive.new.core c.in-Ok.ensures.stood c.in-Ok.ensures.config
    (ap (λ (kept : SessionRecord). kept.taken) (sym c.into_record.ensures.record) ∙ c.into_record.ensures.taken) c.in-Ok-drive.ensures.drives
    c.in-Ok-drive.by c.in-Ok-drive.ensures.over (λ link. c.into_record.ensures.own (c.in-Ok-drive.ensures.over ∙ ap (λ (e : SessionEnd). Some e) link)) c.in-Ok-drive.ensures.given)

pub returns-in-Err-clause-served : goal.returns-in-Err-clause-served
returns-in-Err-clause-served g c =
    subst (λ (kept : SessionRecord).
    Served g.D.Desk.stands g.D.Desk.went c.args.config.now c.args.desk.now c.drive.new.beside (g.L.Link.taken c.args.link.now) (g.L.Link.taken c.drive.new.link) (g.L.Link.given c.args.link.now) (g.L.Link.given c.drive.new.link) kept end.LinkFault)
    (sym c.into_record-in-Err.ensures.record)
    (served_fault g.D.Desk.stands g.D.Desk.went c.args.config.now c.args.desk.now c.drive.new.beside _ _ _ _ c.in-Ok.core c.drive.new.core c.in-Ok.ensures.stood c.in-Ok.ensures.config
    (ap (λ (kept : SessionRecord). kept.taken) (sym c.into_record-in-Err.ensures.record) ∙ c.into_record-in-Err.ensures.taken) c.in-Err.ensures.drives c.in-Err.ensures.memory)

pub returns-in_default-clause-served : goal.returns-in_default-clause-served
returns-in_default-clause-served g c =
    served_none g.D.Desk.stands g.D.Desk.went c.args.config.now c.args.desk.now c.args.desk.now (g.L.Link.taken c.args.link.now) (g.L.Link.taken c.args.link.now) (g.L.Link.given c.args.link.now) (g.L.Link.given c.args.link.now)
    c.args.desk.now (g.met.D.Desk.stays c.args.desk.now) c.new-in_default.result c.new-in_default.ensures.made
