use Rattle.collector_session.proofs.Looking.{retry_lives}
use Rattle.collector_session.proofs.Results.{on_ok}
use Rattle.collector_session.proofs.look.retry.Goals as goal

pub returns-clause-live : goal.returns-clause-live
returns-clause-live c = on_ok c.write.result (λ sent. rw sent (retry_lives c.args.standing.now.machine c.requires.client c.requires.may)) c.write.ensures.sent
