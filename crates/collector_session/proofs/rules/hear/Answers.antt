use Rattle.std.proofs.Common.{refl, subst}
use Rattle.session_rules.specs.Clauses.{Talked}
use Rattle.session_rules.specs.ServeRules.{Serves}
use Rattle.collector_session.specs.Standing.{notes_of, stand_of}
use Rattle.collector_session.proofs.Judging.{judged_so, may_do, still_client}
use Rattle.collector_session.proofs.rules.hear.Goals as goal

pub judge-requires-clause-client : goal.judge-requires-clause-client
judge-requires-clause-client g c =
    still_client c.args.standing.now.machine c.receive-heard.new.self c.args.batch.now c.receive-heard.result c.verdict_of-verdict.result c.receive-heard.ensures.heard c.verdict_of-verdict.ensures.verdict c.requires.client

pub judge-requires-clause-may : goal.judge-requires-clause-may
judge-requires-clause-may g c =
    may_do c.args.standing.now.machine c.receive-heard.new.self c.args.batch.now c.receive-heard.result c.verdict_of-verdict.result c.receive-heard.ensures.heard c.verdict_of-verdict.ensures.verdict c.requires.client c.requires.live

pub returns-clause-talked : goal.returns-clause-talked
returns-clause-talked g c =
    subst (λ (talk : Serves).
    Talked g.D.Desk.stands g.D.Desk.went c.args.desk.now c.judge.new.desk c.args.out.now c.judge.new.out (notes_of c.args.standing.now.record) talk (stand_of c.judge.new.standing) (notes_of c.judge.new.standing.record) c.judge.result)
    (judged_so c.args.standing.now.machine c.receive-heard.new.self c.args.batch.now c.receive-heard.result c.verdict_of-verdict.result c.receive-heard.ensures.heard c.verdict_of-verdict.ensures.verdict c.args.config.now (stand_of c.args.standing.now) refl)
    c.judge.ensures.talked
