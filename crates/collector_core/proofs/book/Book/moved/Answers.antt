use Rattle.std.proofs.Common.{◌∙◌}
use Rattle.collector_core.proofs.BookAnswers.{moved_is}
use Rattle.collector_core.proofs.book.Book.moved.Goals as goal

pub returns-clause-stands : goal.returns-clause-stands
returns-clause-stands c chronicle stands = c.has_moved.ensures.moved ∙ moved_is c.args.self.now chronicle c.args.after c.args.targets.now stands
