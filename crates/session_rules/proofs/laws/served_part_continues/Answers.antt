use Rattle.session_rules.proofs.Meaning.{served_part_continues}
use Rattle.session_rules.proofs.laws.served_part_continues.Goals as goal

pub returns : goal.returns
returns c = record { law = served_part_continues }
