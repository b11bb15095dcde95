use Rattle.book_lock.proofs.Places.{own_places_rise}
use Rattle.book_lock.proofs.laws.own_places_rise.Goals as goal

pub returns : goal.returns
returns c = record { law = own_places_rise }
