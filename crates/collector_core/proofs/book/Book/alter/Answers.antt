use Rattle.collector_core.proofs.Standings.{alter_enters}
use Rattle.collector_core.proofs.book.Book.alter.Goals as goal

pub returns-clause-stands : goal.returns-clause-stands
returns-clause-stands c chronicle stands =
    alter_enters _ c.args.self.now _ chronicle c.args.stamp.now c.args.id c.args.content.now _ stands c.try_alter.ensures.log c.requires.stamp c.try_alter.ensures.content c.try_alter.ensures.fits c.try_alter.ensures.done
