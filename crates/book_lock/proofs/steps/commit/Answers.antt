use Rattle.std.proofs.Common.{rules}
use Rattle.book_lock.proofs.AtTurn.{commits}
use Rattle.book_lock.proofs.steps.commit.Goals as goal

pub fetch_add-requires : goal.fetch_add-requires
fetch_add-requires g c = (search rules, search rules, commits _ _ _ _ _ c.requires.holds c.requires.live c.requires.may c.requires.legal)
