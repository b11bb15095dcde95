use Rattle.collector_core.specs.Desks.{Deletes, deletes_not}
use Rattle.collector_core.specs.Standing.{IsDeletion}
use Rattle.collector_core.proofs.BookDesk.{book_edits, from_exact, one_deletion, told_nothing}
use Rattle.collector_core.proofs.desk.BookDesk.delete.Goals as goal

pub returns-clause-edits : goal.returns-clause-edits
returns-clause-edits c =
    book_edits (Unit {0}) (Deletes c.args.stamp.now c.args.id) (λ state. IsDeletion state.last state.records c.args.stamp.now c.args.id) (deletes_not c.args.id) c.args.self.now c.delete.new.self
    (one_deletion c.args.stamp.now c.args.id) c.delete.result c.delete.ensures.some (told_nothing _ c.delete.result) (from_exact _ _ _ _ _ c.delete.ensures.done) c.delete.ensures.stands
