-- A swap keeps the records.
use Rattle.std.proofs.Common.{◌∙◌, sym, subst}
use Rattle.std.specs.List.Sorted.{IsPermutation}
use Rattle.std.proofs.lemmas.List.Sorted.{IsPermutation-trans}
use Rattle.validator_core.proofs.order.move_each.Goals as goal
use Rattle.validator_core.proofs.order.move_each.Goals.{then-from-items, else-from-items}

pub loop-to-preserved : goal.loop-to-preserved
loop-to-preserved c =
    let at_first = c.args.items.now in
    let before = c.loop-to.items in
    record {
      same = elim c.if-from-items.branch [
        | then-from-items w ↦ subst (IsPermutation at_first) (sym w.items-is) (IsPermutation-trans at_first before w.swap.new.self c.loop-to.invariant.same w.swap.ensures.permutation)
        | else-from-items w ↦ subst (IsPermutation at_first) (sym w.items-is) c.loop-to.invariant.same
      ];
      places = c.if-from-items.auto.places ∙ c.loop-to.invariant.places;
    }
