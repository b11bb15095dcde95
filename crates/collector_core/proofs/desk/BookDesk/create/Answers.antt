use Rattle.std.proofs.Common.{◌∙◌, ℕ, sym}
use Rattle.collector_core.specs.Desks.{Creates, creates_not}
use Rattle.collector_core.specs.BookDesk.{book_state}
use Rattle.collector_core.specs.Standing.{IsCreation}
use Rattle.collector_core.proofs.BookDesk.{book_edits, told_id}
use Rattle.collector_core.proofs.desk.BookDesk.create.Goals as goal

pub returns : goal.returns
returns c = record {
  edits = book_edits ℕ (Creates c.args.stamp.now c.args.content.now) (λ state. IsCreation state.last state.next c.args.stamp.now c.args.content.now) (creates_not c.args.content.now) c.args.self.now c.create.new.self
      (λ state x y one two. one ∙ sym two) c.create.result c.create.ensures.some (told_id c.args.stamp.now c.args.content.now (book_state c.args.self.now) c.create.result c.create.ensures.id) c.create.ensures.done c.create.ensures.stands;
}
