use Rattle.validator_session.proofs.Falling.{idle_less}
use Rattle.validator_session.proofs.inner.Inner.idle.Goals as goal

pub returns-clause-less : goal.returns-clause-less
returns-clause-less c on = idle_less c.args.self.now c.rest.new.self c.rest.ensures.config c.rest.ensures.received c.rest.ensures.quiet (c.rest.ensures.core.live on).calm
