use Rattle.session_rules.proofs.Wanted.{requests_are_wanted}
use Rattle.session_rules.proofs.laws.requests_are_wanted.Goals as goal

pub returns : goal.returns
returns c = record { law = requests_are_wanted }
