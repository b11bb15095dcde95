use Rattle.pa_attrs.proofs.AttrLaws.{front_stays}
use Rattle.pa_attrs.proofs.laws.front_stays.Goals as goal

pub returns : goal.returns
returns c = record { law = front_stays }
