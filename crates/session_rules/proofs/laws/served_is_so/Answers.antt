use Rattle.session_rules.proofs.Meaning.{served_is_so}
use Rattle.session_rules.proofs.laws.served_is_so.Goals as goal

pub returns : goal.returns
returns c = record { law = served_is_so }
