use Rattle.session_rules.proofs.Meaning.{followed_part_continues}
use Rattle.session_rules.proofs.laws.followed_part_continues.Goals as goal

pub returns : goal.returns
returns c = record { law = followed_part_continues }
