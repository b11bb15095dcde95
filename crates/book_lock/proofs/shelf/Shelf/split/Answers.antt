use Rattle.std.proofs.Common.{Bool, sym, ap, ◌∙◌}
use Rattle.book_lock.specs.Passes.{PassView, split_from}
use Rattle.book_lock.proofs.Meetings.{sole_no_more, sole_still}
use Rattle.book_lock.proofs.shelf.Shelf.split.Goals as goal

pub returns-then-changes : goal.returns-then-changes
returns-then-changes c =
    let made = c.split_changer.ensures.made ∙ ap (λ (b : Bool). split_from c.args.pass.now b) (sym c.if-changes.true) in record {
      kept = sole_no_more _ _ _ c.if-changes.true c.split_changer.ensures.kept;
      made = made;
      here = ap (λ (p : PassView). p.shelf) c.split_changer.ensures.kept ∙ c.requires.here;
      made_here = ap (λ (p : PassView). p.shelf) made ∙ c.requires.here;
      may = ap (λ (p : PassView). p.may_change) c.split_changer.ensures.kept;
      made_may = ap (λ (p : PassView). p.may_change) made;
      sound = c.split_changer.ensures.sound;
      made_sound = c.split_changer.ensures.made_sound;
    }

pub returns : goal.returns
returns c =
    let made = c.split_reader.ensures.made ∙ ap (λ (b : Bool). split_from c.args.pass.now b) (sym c.if-changes.false) in record {
      kept = sole_still _ _ _ c.if-changes.false c.split_reader.ensures.kept;
      made = made;
      here = ap (λ (p : PassView). p.shelf) c.split_reader.ensures.kept ∙ c.requires.here;
      made_here = ap (λ (p : PassView). p.shelf) made ∙ c.requires.here;
      may = ap (λ (p : PassView). p.may_change) c.split_reader.ensures.kept;
      made_may = ap (λ (p : PassView). p.may_change) made;
      sound = c.split_reader.ensures.sound;
      made_sound = c.split_reader.ensures.made_sound;
    }
