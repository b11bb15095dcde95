use Rattle.std.proofs.Common.{◌∙◌, sym}
use Rattle.collector_core.specs.Desks.{Alters, alters_not}
use Rattle.collector_core.specs.Standing.{IsAlteration}
use Rattle.collector_core.proofs.BookDesk.{book_edits, told_nothing}
use Rattle.collector_core.proofs.desk.BookDesk.alter.Goals as goal

pub returns : goal.returns
returns c = record {
  edits = book_edits (Unit {0}) (Alters c.args.stamp.now c.args.id c.args.content.now) (λ state. IsAlteration state.last c.args.stamp.now c.args.id c.args.content.now) (alters_not c.args.id c.args.content.now) c.args.self.now
      c.alter.new.self (λ state x y one two. one ∙ sym two) c.alter.result c.alter.ensures.some (told_nothing _ c.alter.result) c.alter.ensures.done c.alter.ensures.stands;
}
