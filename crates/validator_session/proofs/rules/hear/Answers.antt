use Rattle.std.proofs.Common.{subst}
use Rattle.session_rules.specs.FollowRules.{Follows}
use Rattle.validator_session.specs.Drafting.{Goes}
use Rattle.validator_session.specs.Standing.{stand_of}
use Rattle.validator_session.proofs.Ready.{hears_judged, may_follow, role_stays}
use Rattle.validator_session.proofs.rules.hear.Goals as goal

pub follow-requires-clause-role : goal.follow-requires-clause-role
follow-requires-clause-role c = role_stays c.args.standing.now.machine c.receive-heard.new.self c.receive-heard.result c.args.batch.now.kind c.requires.ready.role c.receive-heard.ensures.heard

pub follow-requires-clause-follows : goal.follow-requires-clause-follows
follow-requires-clause-follows c =
    may_follow c.args.standing.now.machine c.receive-heard.new.self c.receive-heard.result c.args.batch.now c.verdict_of-verdict.result c.requires.ready.role c.requires.ready.live c.receive-heard.ensures.heard c.verdict_of-verdict.ensures.verdict

pub returns-clause-goes : goal.returns-clause-goes
returns-clause-goes c =
    subst (λ (talk : Follows). Goes c.args.standing.now c.args.mirror.now c.args.out.now talk c.follow.new.standing c.follow.new.mirror c.follow.new.out c.follow.result)
    (hears_judged c.args.config.now (stand_of c.args.standing.now c.args.mirror.now) c.args.batch.now c.receive-heard.result c.receive-heard.new.self c.verdict_of-verdict.result c.receive-heard.ensures.heard c.verdict_of-verdict.ensures.verdict)
    c.follow.ensures.goes
