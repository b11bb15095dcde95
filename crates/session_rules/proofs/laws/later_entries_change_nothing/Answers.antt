use Rattle.session_rules.proofs.Meaning.{later_entries_change_nothing}
use Rattle.session_rules.proofs.laws.later_entries_change_nothing.Goals as goal

pub returns : goal.returns
returns c = record { law = later_entries_change_nothing }
