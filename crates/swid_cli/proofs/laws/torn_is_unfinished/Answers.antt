use Rattle.swid_cli.proofs.FirstLaws.{torn_is_unfinished}
use Rattle.swid_cli.proofs.laws.torn_is_unfinished.Goals as goal

pub returns : goal.returns
returns c = record { law = torn_is_unfinished }
