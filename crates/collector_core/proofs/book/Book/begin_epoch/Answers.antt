use Rattle.std.proofs.Common.{rules}
use Rattle.collector_core.proofs.Standings.{epoch_enters}
use Rattle.collector_core.proofs.book.Book.begin_epoch.Goals as goal

pub returns-clause-stands : goal.returns-clause-stands
returns-clause-stands c chronicle stands = epoch_enters _ c.args.self.now _ chronicle c.args.epoch _ stands (search rules) c.try_begin_epoch.ensures.done
