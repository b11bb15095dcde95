use Rattle.std.proofs.Common.{sym}
use Rattle.validator_session.proofs.follow_core.FollowCore.idle.Goals as goal

pub returns-clause-turned : goal.returns-clause-turned
returns-clause-turned c = rw (sym c.self.view_is) c.idle.ensures.turned

pub returns-clause-less : goal.returns-clause-less
returns-clause-less c = rw (sym c.self.view_is) c.idle.ensures.less
