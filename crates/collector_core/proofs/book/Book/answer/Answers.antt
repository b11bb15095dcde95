use Rattle.collector_core.proofs.BookAnswers.{answered, answered_at}
use Rattle.collector_core.proofs.book.Book.answer.Goals as goal

pub returns-in-Ok-clause-answer : goal.returns-in-Ok-clause-answer
returns-in-Ok-clause-answer c = answered _ _ c.in-Ok.ensures.answer

pub returns-in-Ok-clause-stands : goal.returns-in-Ok-clause-stands
returns-in-Ok-clause-stands c chronicle stands = answered_at c.args.self.now chronicle c.args.request.now c.args.max _ stands (answered _ _ c.in-Ok.ensures.answer)
