use Rattle.collector_core.proofs.BookDesk.{book_reads}
use Rattle.collector_core.proofs.desk.BookDesk.answer.Goals as goal

pub returns : goal.returns
returns c = record { reads = book_reads c.args.self.now _ c.answer.ensures.some c.answer.ensures.stands }
