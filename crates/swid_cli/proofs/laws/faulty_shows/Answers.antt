use Rattle.swid_cli.proofs.FirstLaws.{faulty_shows}
use Rattle.swid_cli.proofs.laws.faulty_shows.Goals as goal

pub returns : goal.returns
returns c = record { law = faulty_shows }
