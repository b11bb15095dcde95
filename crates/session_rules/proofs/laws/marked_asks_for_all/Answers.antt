use Rattle.session_rules.proofs.Meaning.{marked_asks_for_all}
use Rattle.session_rules.proofs.laws.marked_asks_for_all.Goals as goal

pub returns : goal.returns
returns c = record { law = marked_asks_for_all }
