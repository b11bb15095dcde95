use Rattle.book_lock.proofs.Calls.{reached_book}
use Rattle.book_lock.proofs.steps.reach.Goals as goal

pub returns-clause-reached : goal.returns-clause-reached
returns-clause-reached g c = reached_book _ _ _ _ _ _ _ c.draw-ticket.ensures.drawn c.await_turn.ensures.reached c.take.ensures.taken
