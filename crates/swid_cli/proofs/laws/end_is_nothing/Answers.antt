use Rattle.swid_cli.proofs.FirstLaws.{end_is_nothing}
use Rattle.swid_cli.proofs.laws.end_is_nothing.Goals as goal

pub returns : goal.returns
returns c = record { law = end_is_nothing }
