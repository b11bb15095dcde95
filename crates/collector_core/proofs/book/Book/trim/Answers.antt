use Rattle.collector_core.proofs.Standings.{trim_enters}
use Rattle.collector_core.proofs.book.Book.trim.Goals as goal

pub returns-clause-stands : goal.returns-clause-stands
returns-clause-stands c chronicle stands = trim_enters _ c.args.self.now _ chronicle c.args.first _ stands c.try_trim.ensures.done
