use Rattle.collector_core.proofs.Standings.{create_enters}
use Rattle.collector_core.proofs.book.Book.create.Goals as goal

pub returns-clause-stands : goal.returns-clause-stands
returns-clause-stands c chronicle stands =
    create_enters _ c.args.self.now _ chronicle c.args.stamp.now c.args.content.now _ stands c.try_create.ensures.log c.requires.stamp c.try_create.ensures.content c.try_create.ensures.fresh c.try_create.ensures.next
    c.try_create.ensures.fits c.try_create.ensures.done
