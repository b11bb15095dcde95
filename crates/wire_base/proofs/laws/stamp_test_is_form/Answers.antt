use Rattle.wire_base.proofs.StampLaws.{stamp_test_is_form}
use Rattle.wire_base.proofs.laws.stamp_test_is_form.Goals as goal

pub returns : goal.returns
returns c = record { law = stamp_test_is_form }
