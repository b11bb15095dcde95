use Rattle.pa_attrs.proofs.AttrLaws.{none_is_front}
use Rattle.pa_attrs.proofs.laws.none_is_front.Goals as goal

pub returns : goal.returns
returns c = record { law = none_is_front }
