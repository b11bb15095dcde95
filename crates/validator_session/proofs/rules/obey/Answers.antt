use Rattle.pb_batch.proofs.Bodies.{bodies_fit}
use Rattle.validator_session.proofs.rules.obey.Goals as goal

pub answer_data-requires-clause-bodies : goal.answer_data-requires-clause-bodies
answer_data-requires-clause-bodies c = bodies_fit c.args.batch.now c.requires.batch

pub answer_retry-requires-clause-bodies : goal.answer_retry-requires-clause-bodies
answer_retry-requires-clause-bodies c = bodies_fit c.args.batch.now c.requires.batch
