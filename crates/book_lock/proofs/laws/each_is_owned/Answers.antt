use Rattle.book_lock.proofs.Owners.{each_is_owned}
use Rattle.book_lock.proofs.laws.each_is_owned.Goals as goal

pub returns : goal.returns
returns c = record { law = each_is_owned }
