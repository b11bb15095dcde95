use Rattle.book_lock.proofs.Calls.{may_reach}
use Rattle.book_lock.proofs.Taking.{closes_same, closes_sound, closes_with}
use Rattle.book_lock.proofs.shelf.Shelf.close.Goals as goal

pub reach-book-requires : goal.reach-book-requires
reach-book-requires g c = may_reach _ _ _ _ _ c.pass.view_is c.self.view_is c.requires.here c.self.invariant c.pass.invariant.0

pub returns : goal.returns
returns g c =
    let has = c.reach-book.ensures.reached in record {
      closes = closes_with _ _ _ _ c.pass.invariant.0 has _ c.reach-book.ensures.here.0 _ c.pass.view_is;
      sole = closes_same _ _ _ _ c.pass.invariant.0 has _ c.reach-book.ensures.here.0 _ c.pass.view_is;
      sound = closes_sound _ _ _ _ c.pass.invariant.0 has _ c.reach-book.ensures.here.0;
    }
