use Rattle.book_lock.proofs.Owners.{sole_has_seen_all}
use Rattle.book_lock.proofs.laws.sole_has_seen_all.Goals as goal

pub returns : goal.returns
returns c = record { law = sole_has_seen_all }
