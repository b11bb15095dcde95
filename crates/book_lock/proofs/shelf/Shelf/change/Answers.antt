use Rattle.std.proofs.Common.{arith, sym, ap, ◌∙◌}
use Rattle.book_lock.specs.Passes.{PassView}
use Rattle.book_lock.proofs.Calls.{is_at, may_reach}
use Rattle.book_lock.proofs.Taking.{commit_legal, committed_live, committed_stage, committed_taken, done_adds, done_edits, done_may, done_point, done_rests, done_sound, give_stands, has_taken, holds_it, read_leaves, read_may, read_refused, read_same, read_sound, refused_stands, still_live, still_may}
use Rattle.book_lock.proofs.shelf.Shelf.change.Goals as goal

pub reach-book-requires : goal.reach-book-requires
reach-book-requires g c = may_reach _ _ _ _ _ c.pass.view_is c.self.view_is c.requires.here c.self.invariant c.pass.invariant.0

pub commit-requires : goal.commit-requires
commit-requires g c =
    let at = is_at _ _ _ c.pass.inside.seat.me.0 _ c.pass.view_is c.self.view_is c.requires.here c.self.invariant in
    let has = c.reach-book.ensures.reached in record {
      here = (c.reach-book.ensures.here.0 ∙ at.0, at.1, at.2);
      holds = holds_it _ _ _ _ c.pass.invariant.0 has;
      live = still_live _ _ _ _ c.pass.invariant.0 has;
      may = still_may _ _ _ _ c.pass.invariant.0 has ∙ (ap (λ (p : PassView). p.may_change) c.pass.view_is ∙ c.requires.may);
      legal = commit_legal _ _ _ _ c.pass.invariant.0 has _ _ c.in-Ok.changed c.in-Ok.ensures.stands _ c.of-before.ensures;
    }

pub give-requires : goal.give-requires
give-requires g c =
    let at = is_at _ _ _ c.pass.inside.seat.me.0 _ c.pass.view_is c.self.view_is c.requires.here c.self.invariant in
    let has = c.reach-book.ensures.reached in
    let stage = committed_stage _ _ _ _ c.pass.invariant.0 has _ _ c.in-Ok.changed c.in-Ok.ensures.stands _ c.of-before.ensures _ c.commit.ensures.committed in record {
      here = (c.commit.ensures.here.0 ∙ (c.reach-book.ensures.here.0 ∙ at.0), at.1, at.2);
      holds = omega (arith, stage);
      live = committed_live _ _ _ _ c.pass.invariant.0 has _ _ c.in-Ok.changed c.in-Ok.ensures.stands _ c.of-before.ensures _ c.commit.ensures.committed;
      taken = committed_taken _ _ _ _ c.pass.invariant.0 has _ _ c.in-Ok.changed c.in-Ok.ensures.stands _ c.of-before.ensures _ c.commit.ensures.committed;
      stands = give_stands _ _ _ _ c.pass.invariant.0 has _ _ c.in-Ok.changed c.in-Ok.ensures.stands _ c.of-before.ensures _ c.commit.ensures.committed;
    }

pub invariant_of-pass : goal.invariant_of-pass
invariant_of-pass g c =
    let has = c.reach-book.ensures.reached in
    let same = c.give.ensures.here.0 ∙ (c.commit.ensures.here.0 ∙ c.reach-book.ensures.here.0) in
    let may = ap (λ (p : PassView). p.may_change) c.pass.view_is ∙ c.requires.may in (
      done_rests _ _ _ _ c.pass.invariant.0 has _ _ c.in-Ok.changed c.in-Ok.ensures.stands _ c.of-before.ensures _ c.commit.ensures.committed _ _ same c.give.ensures.rests may,
      c.pass.invariant.1 ∙ sym (done_may _ _ _ _ c.pass.invariant.0 has _ _ c.in-Ok.changed c.in-Ok.ensures.stands _ c.of-before.ensures _ c.commit.ensures.committed _ _ same c.give.ensures.rests),
    )

pub returns-in-Ok : goal.returns-in-Ok
returns-in-Ok g c =
    let has = c.reach-book.ensures.reached in
    let same = c.give.ensures.here.0 ∙ (c.commit.ensures.here.0 ∙ c.reach-book.ensures.here.0) in
    let may = ap (λ (p : PassView). p.may_change) c.pass.view_is ∙ c.requires.may in record {
      edits = done_edits _ _ _ _ c.pass.invariant.0 has _ _ c.in-Ok.changed c.in-Ok.ensures.stands _ c.of-before.ensures _ c.commit.ensures.committed _ _ same c.give.ensures.rests _ c.pass.view_is c.in-Ok.ensures.told.1;
      exact = λ none is. absurd cc;
      point = done_point _ _ _ _ c.pass.invariant.0 has _ _ c.in-Ok.changed c.in-Ok.ensures.stands _ c.of-before.ensures _ c.commit.ensures.committed _ _ same c.give.ensures.rests c.in-Ok.ensures.told.0;
      sole = done_adds _ _ _ _ c.pass.invariant.0 has _ _ c.in-Ok.changed c.in-Ok.ensures.stands _ c.of-before.ensures _ c.commit.ensures.committed _ _ same c.give.ensures.rests _ c.pass.view_is;
      here = same ∙ (ap (λ (p : PassView). p.shelf) c.pass.view_is ∙ c.requires.here);
      may = done_may _ _ _ _ c.pass.invariant.0 has _ _ c.in-Ok.changed c.in-Ok.ensures.stands _ c.of-before.ensures _ c.commit.ensures.committed _ _ same c.give.ensures.rests ∙ ap (λ (p : PassView). p.may_change) c.pass.view_is;
      sound = done_sound _ _ _ _ c.pass.invariant.0 has _ _ c.in-Ok.changed c.in-Ok.ensures.stands _ c.of-before.ensures _ c.commit.ensures.committed _ _ same c.give.ensures.rests may;
    }

pub give-requires-in-Err : goal.give-requires-in-Err
give-requires-in-Err g c =
    let at = is_at _ _ _ c.pass.inside.seat.me.0 _ c.pass.view_is c.self.view_is c.requires.here c.self.invariant in
    let has = c.reach-book.ensures.reached in
    let stage = holds_it _ _ _ _ c.pass.invariant.0 has in record {
      here = (c.reach-book.ensures.here.0 ∙ at.0, at.1, at.2);
      holds = omega (arith, stage);
      live = still_live _ _ _ _ c.pass.invariant.0 has;
      taken = has_taken _ _ _ _ c.pass.invariant.0 has;
      stands = refused_stands _ _ _ _ c.pass.invariant.0 has _ _ _ c.in-Err.ensures.stands;
    }

pub invariant_of-pass-in-Err : goal.invariant_of-pass-in-Err
invariant_of-pass-in-Err g c =
    let has = c.reach-book.ensures.reached in
    let same = c.give-in-Err.ensures.here.0 ∙ c.reach-book.ensures.here.0 in
    read_leaves _ _ _ _ c.pass.invariant.0 has _ _ same c.give-in-Err.ensures.rests _ c.pass.invariant.1

pub returns : goal.returns
returns g c =
    let has = c.reach-book.ensures.reached in
    let same = c.give-in-Err.ensures.here.0 ∙ c.reach-book.ensures.here.0 in record {
      edits = read_refused _ _ _ _ c.pass.invariant.0 has _ _ same c.give-in-Err.ensures.rests _ c.pass.view_is _ _ _ c.in-Err.ensures.stands;
      exact = λ none is. c.in-Err.ensures.exact none is;
      point = λ chronicle stands. tt;
      sole = read_same _ _ _ _ c.pass.invariant.0 has _ _ same c.give-in-Err.ensures.rests _ c.pass.view_is;
      here = same ∙ (ap (λ (p : PassView). p.shelf) c.pass.view_is ∙ c.requires.here);
      may = read_may _ _ _ _ c.pass.invariant.0 has _ _ same c.give-in-Err.ensures.rests ∙ ap (λ (p : PassView). p.may_change) c.pass.view_is;
      sound = read_sound _ _ _ _ c.pass.invariant.0 has _ _ same c.give-in-Err.ensures.rests;
    }
