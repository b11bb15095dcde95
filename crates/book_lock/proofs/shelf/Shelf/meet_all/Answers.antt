use Rattle.std.proofs.Common.{rules, ◌++◌, Option, ap, ◌∙◌, subst}
use Rattle.std.specs.Option.{option_to_list}
use Rattle.book_lock.specs.Passes.{PassView}
use Rattle.book_lock.specs.Together.{AreOf}
use Rattle.book_lock.proofs.Together.{are_of_last, met_first, met_last, met_next, readers_last}
use Rattle.book_lock.proofs.shelf.Shelf.meet_all.Goals as goal

pub loop-other-init : goal.loop-other-init
loop-other-init c = met_first _ _ _ c.requires.here c.may_change-changes.ensures.sound c.requires.others_here

pub meet-requires : goal.meet-requires
meet-requires c =
    let last = c.pop.ensures.items ∙ ap (λ (o : Option PassView). c.pop.new.self.items ++ option_to_list o) c.in-Some.is in record {
      here = c.loop-other.invariant.here;
      other_here = are_of_last _ _ _ (subst (AreOf c.args.self.now) last c.loop-other.invariant.are_of);
    }

pub loop-other-preserved : goal.loop-other-preserved
loop-other-preserved c =
    let last = c.pop.ensures.items ∙ ap (λ (o : Option PassView). c.pop.new.self.items ++ option_to_list o) c.in-Some.is in
    met_next _ _ _ _ _ _ _ _ c.loop-other.invariant last c.meet.ensures.joined c.meet.ensures.agree c.meet.ensures.here c.meet.ensures.sound c.meet.ensures.sole c.meet.ensures.reader

pub returns : goal.returns
returns c =
    let so = c.loop-other.invariant in
    let all = met_last _ _ _ _ _ so (search rules) in record {
      met = all;
      sole = so.sole;
      readers = readers_last _ _ _ _ _ so (search rules);
      here = so.here;
      may = all.may_change;
      start = so.start;
      sound = so.sound;
    }
