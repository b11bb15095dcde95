use Rattle.collector_core.specs.Edits.{book_entry}
use Rattle.book_lock.proofs.shelf.Shelf.change.Given as goal

abbrev pub ghosts-commit : goal.ghosts-commit
ghosts-commit g a = record { entry = book_entry a._edit a._before.now.value }
