use Rattle.std.proofs.Common.{refl, subst, sym}
use Rattle.session_talk.specs.Course.{Gives}
use Rattle.session_rules.specs.declared.verdict.Verdict.{Verdict}
use Rattle.session_rules.specs.Clauses.{Talked, Talks}
use Rattle.session_rules.specs.Questions.{at_places}
use Rattle.session_rules.specs.ServeRules.{judged, refuses}
use Rattle.session_rules.specs.Serving.{ends}
use Rattle.session_rules.proofs.Desking.{spoken_talked, talks_none}
use Rattle.collector_session.specs.Judging.{MayFollow}
use Rattle.collector_session.specs.Standing.{notes_of, stand_of}
use Rattle.collector_session.proofs.Judging.{does_nothing}
use Rattle.collector_session.proofs.rules.judge.Goals as goal

pub returns-in-PassesOver-clause-talked : goal.returns-in-PassesOver-clause-talked
returns-in-PassesOver-clause-talked g c =
    subst (λ (v : Verdict).
    Talks g.D.Desk.stands g.D.Desk.went c.args.desk.now c.args.desk.now c.args.out.now c.args.out.now (λ chronicle places out. Gives (at_places chronicle) (judged c.args.config.now (stand_of c.args.standing.now) c.args.batch.now v) places out (stand_of c.args.standing.now)))
    (sym c.in-PassesOver.is)
    (talks_none g.D.Desk.stands g.D.Desk.went g.met.D.Desk.stays g.met.D.Desk.follows g.met.D.Desk.carries c.args.desk.now c.args.out.now
    (λ chronicle places out. Gives (at_places chronicle) (does_nothing (stand_of c.args.standing.now)) places out (stand_of c.args.standing.now)) (λ chronicle. (refl, refl, refl)))

pub refuse-requires : goal.refuse-requires
refuse-requires g c =
    let may = subst (λ (v : Verdict). MayFollow c.args.standing.now.machine c.args.batch.now.kind v) c.in-Refuses.is c.requires.may in
    record { may = may.0; told = may.1 }

pub returns-in-Refuses-clause-talked : goal.returns-in-Refuses-clause-talked
returns-in-Refuses-clause-talked g c =
    subst (λ (v : Verdict).
    Talked g.D.Desk.stands g.D.Desk.went c.args.desk.now c.args.desk.now c.args.out.now c.refuse.new.out (notes_of c.args.standing.now.record) (judged c.args.config.now (stand_of c.args.standing.now) c.args.batch.now v)
    (stand_of c.refuse.new.standing) (notes_of c.refuse.new.standing.record) c.refuse.result)
    (sym c.in-Refuses.is)
    (spoken_talked g.D.Desk.stands g.D.Desk.went g.met.D.Desk.stays g.met.D.Desk.follows g.met.D.Desk.carries c.args.desk.now c.args.out.now c.refuse.new.out (notes_of c.args.standing.now.record)
    (refuses (stand_of c.args.standing.now) c.in-Refuses.fault) (stand_of c.refuse.new.standing) (notes_of c.refuse.new.standing.record) c.refuse.result c.refuse.ensures.spoken)

pub returns-in-EndsBy-clause-talked : goal.returns-in-EndsBy-clause-talked
returns-in-EndsBy-clause-talked g c =
    subst (λ (v : Verdict).
    Talks g.D.Desk.stands g.D.Desk.went c.args.desk.now c.args.desk.now c.args.out.now c.args.out.now (λ chronicle places out.
    Gives (at_places chronicle) (judged c.args.config.now (stand_of c.args.standing.now) c.args.batch.now v) places out (ends (stand_of c.args.standing.now) c.in-EndsBy.by)))
    (sym c.in-EndsBy.is)
    (talks_none g.D.Desk.stands g.D.Desk.went g.met.D.Desk.stays g.met.D.Desk.follows g.met.D.Desk.carries c.args.desk.now c.args.out.now
    (λ chronicle places out. Gives (at_places chronicle) (does_nothing (ends (stand_of c.args.standing.now) c.in-EndsBy.by)) places out (ends (stand_of c.args.standing.now) c.in-EndsBy.by)) (λ chronicle. (refl, refl, refl)))

pub obey-requires-clause-may : goal.obey-requires-clause-may
obey-requires-clause-may g c = subst (λ (v : Verdict). MayFollow c.args.standing.now.machine c.args.batch.now.kind v) c.in-GoesOn.is c.requires.may

pub returns-in-GoesOn-clause-talked : goal.returns-in-GoesOn-clause-talked
returns-in-GoesOn-clause-talked g c =
    subst (λ (v : Verdict).
    Talked g.D.Desk.stands g.D.Desk.went c.args.desk.now c.obey.new.desk c.args.out.now c.obey.new.out (notes_of c.args.standing.now.record) (judged c.args.config.now (stand_of c.args.standing.now) c.args.batch.now v)
    (stand_of c.obey.new.standing) (notes_of c.obey.new.standing.record) c.obey.result)
    (sym c.in-GoesOn.is) c.obey.ensures.talked
