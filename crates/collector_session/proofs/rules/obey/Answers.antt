use Rattle.std.proofs.Common.{◌∙◌, ap, refl, subst, sym}
use Rattle.pb_batch.specs.declared.kind.BatchKind.{BatchKind}
use Rattle.pb_machine.specs.Table.{Position}
use Rattle.pb_machine.proofs.Sending.{may_close}
use Rattle.session_talk.specs.Course.{Gives}
use Rattle.session_rules.specs.Clauses.{Talked, Talks}
use Rattle.session_rules.specs.Questions.{at_places}
use Rattle.session_rules.specs.ServeRules.{closes_if, is_enough, obeys}
use Rattle.session_rules.proofs.Desking.{spoken_talked, talks_none}
use Rattle.collector_session.specs.Standing.{notes_of, stand_of}
use Rattle.collector_session.proofs.Judging.{does_nothing}
use Rattle.collector_session.proofs.Results.{on_ok}
use Rattle.collector_session.proofs.rules.obey.Goals as goal

pub reply-requires-clause-may : goal.reply-requires-clause-may
reply-requires-clause-may g c = c.requires.may.after_data c.in-Sdata.is

pub reply-requires-clause-batch : goal.reply-requires-clause-batch
reply-requires-clause-batch g c = record { valid = c.requires.batch.valid; few = c.requires.batch.few; short = c.requires.batch.short }

pub returns-in-Sdata-clause-talked : goal.returns-in-Sdata-clause-talked
returns-in-Sdata-clause-talked g c =
    subst (λ (kind : BatchKind).
    Talked g.D.Desk.stands g.D.Desk.went c.args.desk.now c.reply.new.desk c.args.out.now c.reply.new.out (notes_of c.args.standing.now.record) (obeys c.args.config.now (stand_of c.args.standing.now) kind c.args.batch.now.messages)
    (stand_of c.reply.new.standing) (notes_of c.reply.new.standing.record) c.reply.result)
    (sym c.in-Sdata.is) c.reply.ensures.talked

pub returns-in-Sretry-clause-talked : goal.returns-in-Sretry-clause-talked
returns-in-Sretry-clause-talked g c =
    subst (λ (kind : BatchKind).
    Talked g.D.Desk.stands g.D.Desk.went c.args.desk.now c.reply-in-Sretry.new.desk c.args.out.now c.reply-in-Sretry.new.out (notes_of c.args.standing.now.record) (obeys c.args.config.now (stand_of c.args.standing.now) kind c.args.batch.now.messages)
    (stand_of c.reply-in-Sretry.new.standing) (notes_of c.reply-in-Sretry.new.standing.record) c.reply-in-Sretry.result)
    (sym c.in-Sretry.is) c.reply-in-Sretry.ensures.talked

pub close_if-requires : goal.close_if-requires
close_if-requires g c = record { may = may_close c.args.standing.now.machine.role c.args.standing.now.machine.state c.requires.may.live }

pub returns-in-Outcome-clause-talked : goal.returns-in-Outcome-clause-talked
returns-in-Outcome-clause-talked g c =
    subst (λ (kind : BatchKind).
    Talked g.D.Desk.stands g.D.Desk.went c.args.desk.now c.args.desk.now c.args.out.now c.close_if.new.out (notes_of c.args.standing.now.record) (obeys c.args.config.now (stand_of c.args.standing.now) kind c.args.batch.now.messages)
    (stand_of c.close_if.new.standing) (notes_of c.close_if.new.standing.record) c.close_if.result)
    (sym c.in-Outcome.is)
    (spoken_talked g.D.Desk.stands g.D.Desk.went g.met.D.Desk.stays g.met.D.Desk.follows g.met.D.Desk.carries c.args.desk.now c.args.out.now c.close_if.new.out (notes_of c.args.standing.now.record)
    (closes_if (stand_of c.args.standing.now) (is_enough c.args.config.now.reports c.args.standing.now.record.reports)) (stand_of c.close_if.new.standing) (notes_of c.close_if.new.standing.record) c.close_if.result c.close_if.ensures.spoken)

pub returns-in-Outcome-clause-live : goal.returns-in-Outcome-clause-live
returns-in-Outcome-clause-live g c = on_ok c.close_if.result (λ still none end. c.requires.may.live (sym (ap (λ (m : Position). m.state) (still none)) ∙ end)) c.close_if.ensures.machine

pub returns-in-Cdata-clause-talked : goal.returns-in-Cdata-clause-talked
returns-in-Cdata-clause-talked g c =
    subst (λ (kind : BatchKind).
    Talks g.D.Desk.stands g.D.Desk.went c.args.desk.now c.args.desk.now c.args.out.now c.args.out.now (λ chronicle places out.
    Gives (at_places chronicle) (obeys c.args.config.now (stand_of c.args.standing.now) kind c.args.batch.now.messages) places out (stand_of c.args.standing.now)))
    (sym c.in-Cdata.is)
    (talks_none g.D.Desk.stands g.D.Desk.went g.met.D.Desk.stays g.met.D.Desk.follows g.met.D.Desk.carries c.args.desk.now c.args.out.now
    (λ chronicle places out. Gives (at_places chronicle) (does_nothing (stand_of c.args.standing.now)) places out (stand_of c.args.standing.now)) (λ chronicle. (refl, refl, refl)))

pub returns-in-Cretry-clause-talked : goal.returns-in-Cretry-clause-talked
returns-in-Cretry-clause-talked g c =
    subst (λ (kind : BatchKind).
    Talks g.D.Desk.stands g.D.Desk.went c.args.desk.now c.args.desk.now c.args.out.now c.args.out.now (λ chronicle places out.
    Gives (at_places chronicle) (obeys c.args.config.now (stand_of c.args.standing.now) kind c.args.batch.now.messages) places out (stand_of c.args.standing.now)))
    (sym c.in-Cretry.is)
    (talks_none g.D.Desk.stands g.D.Desk.went g.met.D.Desk.stays g.met.D.Desk.follows g.met.D.Desk.carries c.args.desk.now c.args.out.now
    (λ chronicle places out. Gives (at_places chronicle) (does_nothing (stand_of c.args.standing.now)) places out (stand_of c.args.standing.now)) (λ chronicle. (refl, refl, refl)))

pub returns-in-Close-clause-talked : goal.returns-in-Close-clause-talked
returns-in-Close-clause-talked g c =
    subst (λ (kind : BatchKind).
    Talks g.D.Desk.stands g.D.Desk.went c.args.desk.now c.args.desk.now c.args.out.now c.args.out.now (λ chronicle places out.
    Gives (at_places chronicle) (obeys c.args.config.now (stand_of c.args.standing.now) kind c.args.batch.now.messages) places out (stand_of c.args.standing.now)))
    (sym c.in-Close.is)
    (talks_none g.D.Desk.stands g.D.Desk.went g.met.D.Desk.stays g.met.D.Desk.follows g.met.D.Desk.carries c.args.desk.now c.args.out.now
    (λ chronicle places out. Gives (at_places chronicle) (does_nothing (stand_of c.args.standing.now)) places out (stand_of c.args.standing.now)) (λ chronicle. (refl, refl, refl)))
