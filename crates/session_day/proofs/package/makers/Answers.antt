-- There is one.
use Rattle.session_day.proofs.Packed.{one_maker}
use Rattle.session_day.proofs.package.makers.Goals as goal

pub returns : goal.returns
returns c = record { makers = one_maker _ _ c.in_ok-maker.field-0 c.new-makers.ensures.empty c.in_ok-push.ensures.appended c.in_ok-maker.ensures.maker }
