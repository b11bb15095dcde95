use Rattle.std.proofs.Common.{sym}
use Rattle.validator_session.proofs.follow_core.FollowCore.carried.Goals as goal

pub returns-clause-stands : goal.returns-clause-stands
returns-clause-stands c = rw (sym c.self.view_is) c.carried.ensures.stands

pub returns-clause-falls : goal.returns-clause-falls
returns-clause-falls c = rw (sym c.self.view_is) c.carried.ensures.falls
