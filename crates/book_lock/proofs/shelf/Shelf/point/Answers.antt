use Rattle.std.proofs.Common.{◌∙◌}
use Rattle.book_lock.proofs.Calls.{is_at, may_reach}
use Rattle.book_lock.proofs.Taking.{read_gives, read_leaves, read_returns}
use Rattle.book_lock.proofs.shelf.Shelf.point.Goals as goal

pub reach-book-requires : goal.reach-book-requires
reach-book-requires g c = may_reach _ _ _ _ _ c.pass.view_is c.self.view_is c.requires.here c.self.invariant c.pass.invariant.0

pub give-requires : goal.give-requires
give-requires g c = read_gives _ _ _ _ c.pass.invariant.0 c.reach-book.ensures.reached _ _ c.reach-book.ensures.here.0
    (is_at _ _ _ c.pass.inside.seat.me.0 _ c.pass.view_is c.self.view_is c.requires.here c.self.invariant)

pub invariant_of-pass : goal.invariant_of-pass
invariant_of-pass g c = read_leaves _ _ _ _ c.pass.invariant.0 c.reach-book.ensures.reached _ _ (c.give.ensures.here.0 ∙ c.reach-book.ensures.here.0) c.give.ensures.rests _ c.pass.invariant.1

pub returns : goal.returns
returns g c = read_returns _ _ _ _ c.pass.invariant.0 c.reach-book.ensures.reached _ _ (c.give.ensures.here.0 ∙ c.reach-book.ensures.here.0) c.give.ensures.rests
    _ c.pass.view_is _ c.requires.here _ c.point-point.ensures.stands
