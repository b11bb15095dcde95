use Rattle.collector_core.proofs.book.Book.try_delete.Goals as goal

pub returns-clause-done : goal.returns-clause-done
returns-clause-done c = (c.in_ok-octets.ensures.allowed, c.remove.ensures.removed)

pub returns-clause-content : goal.returns-clause-content
returns-clause-content c held found = c.remove.ensures.content held found
