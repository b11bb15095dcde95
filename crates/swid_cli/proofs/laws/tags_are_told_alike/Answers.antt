use Rattle.swid_cli.proofs.OneText.{told_alike}
use Rattle.swid_cli.proofs.laws.tags_are_told_alike.Goals as goal

pub returns : goal.returns
returns c = record { law = told_alike }
