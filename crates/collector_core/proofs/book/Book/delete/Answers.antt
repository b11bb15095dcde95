use Rattle.collector_core.proofs.Standings.{delete_enters}
use Rattle.collector_core.proofs.book.Book.delete.Goals as goal

pub returns-clause-stands : goal.returns-clause-stands
returns-clause-stands c chronicle stands =
    delete_enters _ c.args.self.now _ chronicle c.args.stamp.now c.args.id _ stands c.try_delete.ensures.log c.requires.stamp c.try_delete.ensures.content c.try_delete.ensures.fits c.try_delete.ensures.done
