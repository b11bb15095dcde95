use Rattle.pa_attrs.proofs.AttrLaws.{whole_is_attribute}
use Rattle.pa_attrs.proofs.laws.whole_is_attribute.Goals as goal

pub returns : goal.returns
returns c = record { law = whole_is_attribute }
