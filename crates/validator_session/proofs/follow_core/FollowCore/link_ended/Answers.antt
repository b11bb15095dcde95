use Rattle.std.proofs.Common.{sym}
use Rattle.validator_session.proofs.follow_core.FollowCore.link_ended.Goals as goal

pub returns-clause-stood : goal.returns-clause-stood
returns-clause-stood c = rw (sym c.self.view_is) c.link_ended.ensures.stood

pub returns-clause-rests : goal.returns-clause-rests
returns-clause-rests c = rw (sym c.self.view_is) c.link_ended.ensures.rests
