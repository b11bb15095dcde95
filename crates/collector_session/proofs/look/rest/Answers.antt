use Rattle.std.proofs.Common.{arith, refl, subst, sym}
use Rattle.session_talk.specs.Course.{Gives}
use Rattle.session_rules.specs.declared.end.SessionEnd.TheVariants as final
use Rattle.session_rules.specs.Clauses.{Talked, Talks}
use Rattle.session_rules.specs.Questions.{at_places}
use Rattle.session_rules.specs.ServeRules.{Serves}
use Rattle.session_rules.specs.Serving.{ends}
use Rattle.session_rules.proofs.Desking.{talks_none}
use Rattle.collector_session.specs.Standing.{notes_of, stand_of}
use Rattle.collector_session.proofs.Looking.{idles_on, idles_out, nothing_done}
use Rattle.collector_session.proofs.look.rest.Goals as goal

pub returns-clause-talked : goal.returns-clause-talked
returns-clause-talked g c =
    subst (λ (talk : Serves).
    Talked g.D.Desk.stands g.D.Desk.went c.args.desk.now c.look.new.desk c.args.out.now c.look.new.out (notes_of c.args.standing.now.record) talk (stand_of c.look.new.standing) (notes_of c.look.new.standing.record) c.look.result)
    (sym (idles_on c.args.config.now (stand_of c.args.standing.now) c.args.turns (omega (arith, c.if-config-turns.false)))) c.look.ensures.talked

pub returns-then-config-turns-clause-talked : goal.returns-then-config-turns-clause-talked
returns-then-config-turns-clause-talked g c =
    subst (λ (talk : Serves).
    Talks g.D.Desk.stands g.D.Desk.went c.args.desk.now c.args.desk.now c.args.out.now c.args.out.now (λ chronicle places out.
    Gives (at_places chronicle) talk places out (ends (stand_of c.args.standing.now) (final.IdleOut c.args.turns))))
    (sym (idles_out c.args.config.now (stand_of c.args.standing.now) c.args.turns c.if-config-turns.true))
    (talks_none g.D.Desk.stands g.D.Desk.went g.met.D.Desk.stays g.met.D.Desk.follows g.met.D.Desk.carries c.args.desk.now c.args.out.now
    (λ chronicle places out. Gives (at_places chronicle) (nothing_done (ends (stand_of c.args.standing.now) (final.IdleOut c.args.turns))) places out (ends (stand_of c.args.standing.now) (final.IdleOut c.args.turns))) (λ chronicle. (refl, refl, refl)))
