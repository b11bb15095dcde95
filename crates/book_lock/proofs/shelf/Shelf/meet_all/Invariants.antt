use Rattle.std.proofs.Common.{length}
use Rattle.book_lock.proofs.Together.{MetSo}
use Rattle.book_lock.proofs.shelf.Shelf.meet_all.Given as goal

abbrev pub invariant-loop-other : goal.invariant-loop-other
invariant-loop-other l = MetSo l.self l.fn.pass l.fn.others.items l.others.items l.pass

abbrev pub decreases-loop-other : goal.decreases-loop-other
decreases-loop-other l = length l.others.items
