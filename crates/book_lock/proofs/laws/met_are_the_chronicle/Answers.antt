use Rattle.book_lock.proofs.Owners.{met_are_the_chronicle}
use Rattle.book_lock.proofs.laws.met_are_the_chronicle.Goals as goal

pub returns : goal.returns
returns c = record { law = met_are_the_chronicle }
