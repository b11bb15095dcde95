-- The first pair that is not below the number ends what is put.
use Rattle.std.proofs.Common.{◌≤◌, length, pos, sym, ap, ◌∙◌, arith}
use Rattle.cbor_det.specs.declared.item.Pair.{Pair}
use Rattle.cbor_det.specs.Adding.{is_above}
use Rattle.cbor_det.specs.Term.{integer}
use Rattle.cbor_det.proofs.Adds.{key_of}
use Rattle.cbor_det.proofs.Laid.{below_put, after_left, below_first, after_first, below_ends, after_ends, none_below, none_left, one_there}
use Rattle.cbor_det.proofs.item.Pairs.put_below.Goals as goal

pub returns-then-not-is_below-clause-appended : goal.returns-then-not-is_below-clause-appended
returns-then-not-is_below-clause-appended c =
    let xs = c.as_slice-pairs.result.now in
    let none = below_ends xs c.loop-next.next c.index-pairs-next.result c.loop-next-test.true c.index-pairs-next.is c.args.number (sym c.is_below.ensures.below ∙ c.if-not-is_below.true) in
    below_put c.args.self.now xs c.as_slice-pairs.ensures.items c.args.place c.args.number c.loop-next.next c.args.out.now c.loop-next.out none c.loop-next.invariant.put

pub returns-then-not-is_below-clause-next : goal.returns-then-not-is_below-clause-next
returns-then-not-is_below-clause-next c =
    let xs = c.as_slice-pairs.result.now in
    let same = after_ends xs c.loop-next.next c.index-pairs-next.result c.loop-next-test.true c.index-pairs-next.is c.args.number (sym c.is_below.ensures.below ∙ c.if-not-is_below.true) in
    after_left c.args.self.now xs c.as_slice-pairs.ensures.items c.args.place c.args.number c.loop-next.next same c.loop-next.invariant.left

pub loop-next-preserved : goal.loop-next-preserved
loop-next-preserved c =
    let xs = c.as_slice-pairs.result.now in
    let is = sym c.is_below.ensures.below ∙ c.if-not-is_below.false in
    let one = one_there xs c.loop-next.next c.index-pairs-next.result c.index-pairs-next-in-loop-next.result c.loop-next-test.true c.index-pairs-next.is c.index-pairs-next-in-loop-next.is in
    record {
      put = below_first xs c.loop-next.next c.index-pairs-next-in-loop-next.result c.loop-next-test.true c.index-pairs-next-in-loop-next.is c.args.number
          (ap (λ (x : Pair). is_above (integer (pos c.args.number)) (key_of x)) (sym one) ∙ is) c.loop-next.out c.put_pair.new.out c.in_ok-put_pair.ensures.appended
          ∙ c.loop-next.invariant.put;
      left = after_first xs c.loop-next.next c.index-pairs-next.result c.loop-next-test.true c.index-pairs-next.is c.args.number is ∙ c.loop-next.invariant.left;
    }

pub returns-clause-appended : goal.returns-clause-appended
returns-clause-appended c =
    let xs = c.as_slice-pairs.result.now in
    let ends : length xs ≤ c.loop-next.next = omega (arith, c.loop-next-test.false) in
    below_put c.args.self.now xs c.as_slice-pairs.ensures.items c.args.place c.args.number c.loop-next.next c.args.out.now c.loop-next.out (none_below c.args.number c.loop-next.next xs ends)
    c.loop-next.invariant.put

pub returns-clause-next : goal.returns-clause-next
returns-clause-next c =
    let xs = c.as_slice-pairs.result.now in
    let ends : length xs ≤ c.loop-next.next = omega (arith, c.loop-next-test.false) in
    none_left c.args.self.now xs c.as_slice-pairs.ensures.items c.args.place c.args.number c.loop-next.next ends c.loop-next.invariant.left
