use Rattle.book_lock.proofs.Parting.{opens_at}
use Rattle.book_lock.proofs.shelf.Shelf.over.Goals as goal

pub new-requires : goal.new-requires
new-requires c = opens_at _ _ c.requires.slot
