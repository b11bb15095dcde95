use Rattle.swid_cli.proofs.FirstLaws.{limit_is_beyond}
use Rattle.swid_cli.proofs.laws.limit_is_beyond.Goals as goal

pub returns : goal.returns
returns c = record { law = limit_is_beyond }
