use Rattle.swid_cli.proofs.FirstLaws.{whole_is_attribute}
use Rattle.swid_cli.proofs.laws.whole_is_attribute.Goals as goal

pub returns : goal.returns
returns c = record { law = whole_is_attribute }
