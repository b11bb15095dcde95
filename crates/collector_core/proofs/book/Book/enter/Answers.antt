use Rattle.collector_core.proofs.Editing.{changes_retold, enters_retold}
use Rattle.collector_core.proofs.book.Book.enter.Goals as goal

pub returns-in-Alter-clause-done : goal.returns-in-Alter-clause-done
returns-in-Alter-clause-done c = rw (c.in-Alter.is, c.tell.ensures.told) (changes_retold _ _ c.in-Alter.id c.args.self.now c.alter.result c.alter.new.self c.alter.ensures.done)

pub returns-in-Alter-clause-stands : goal.returns-in-Alter-clause-stands
returns-in-Alter-clause-stands c chronicle stands = rw (c.in-Alter.is, c.tell.ensures.told) (enters_retold _ _ c.in-Alter.id chronicle c.alter.result c.alter.new.self (c.alter.ensures.stands chronicle stands))
