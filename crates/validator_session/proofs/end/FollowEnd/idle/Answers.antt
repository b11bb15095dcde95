use Rattle.std.proofs.Common.{inl, inr, refl}
use Rattle.validator_session.proofs.end.FollowEnd.idle.Goals as goal

pub returns-in-Ok-clause-idled : goal.returns-in-Ok-clause-idled
returns-in-Ok-clause-idled c = inl c.in-Ok.ensures.goes

pub returns-in-Err-clause-idled : goal.returns-in-Err-clause-idled
returns-in-Err-clause-idled c = inr (refl, c.in-Err.ensures.goes)
