use Rattle.std.proofs.Common.{ℕ, ap, sym, subst, refl}
use Rattle.collector_core.specs.Desks as desks
use Rattle.collector_core.specs.Standing.{IsCreation}
use Rattle.source_set.specs.Deeds.{Creates}
use Rattle.source_set.proofs.Working.{refuses, takes_after, works_once, works_refused}
use Rattle.source_set.proofs.doing.create.Goals as goal

pub returns-in-Ok : goal.returns-in-Ok
returns-in-Ok g c =
    let stamp = c.args.stamp.now in
    let content = c.args.content.now in
    let works =
    works_once g.D.Desk.stands g.D.Desk.went stamp g.met.D.Desk.stays g.met.D.Desk.follows g.met.D.Desk.carries
    (desks.Creates stamp content) (desks.creates_not content) c.args.desk.now c.create.new.self c.args.swept.now _ c.in-Ok.id (Creates c.in-Ok.id content) c.in-Ok.ensures.edits
    (λ state made said. ((state.last, subst (λ (n : ℕ). IsCreation state.last n stamp content made) (sym said.0) said.1), refl))
    (ap (λ (n : ℕ). record c.args.swept.now { added = n }) c.saturating_add-swept.ensures) in
    record {
      created = works;
      takes =
          takes_after g.D.Desk.stands g.D.Desk.went stamp g.met.D.Desk.stays g.met.D.Desk.follows g.met.D.Desk.carries g.D.Desk.takes g.met.D.Desk.keeps
          c.args.desk.now c.create.new.self _ _ _ works c.requires.takes;
    }

pub returns-in-Err : goal.returns-in-Err
returns-in-Err g c =
    let stamp = c.args.stamp.now in
    let content = c.args.content.now in
    let works =
    works_refused g.D.Desk.stands g.D.Desk.went stamp g.met.D.Desk.stays g.met.D.Desk.follows g.met.D.Desk.carries
    (desks.Creates stamp content) (desks.creates_not content) c.args.desk.now c.create.new.self c.args.swept.now c.in-Err.refused c.in-Err.ensures.edits in
    record {
      created = (
        works,
        refuses g.D.Desk.stands g.D.Desk.went stamp g.met.D.Desk.stays g.met.D.Desk.follows g.met.D.Desk.carries
            (desks.Creates stamp content) (desks.creates_not content) c.args.desk.now c.create.new.self c.in-Err.refused c.in-Err.ensures.edits,
      );
      takes =
          takes_after g.D.Desk.stands g.D.Desk.went stamp g.met.D.Desk.stays g.met.D.Desk.follows g.met.D.Desk.carries g.D.Desk.takes g.met.D.Desk.keeps
          c.args.desk.now c.create.new.self _ _ _ works c.requires.takes;
    }
