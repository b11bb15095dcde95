-- Each comparison halves the pairs among which the key may stand.
use Rattle.std.proofs.Common.{◌≡◌, ◌+◌, ◌-◌, ◌/◌, ℕ, drop, sym, ◌∙◌, subst, arith}
use Rattle.cbor_det.specs.Spelling.{IsBelow}
use Rattle.cbor_det.specs.View.{view, listed}
use Rattle.cbor_det.proofs.Adds.{held_there, above_there, is_place}
use Rattle.cbor_det.proofs.pairs.place_of.Goals as goal

pub returns-in-Equal : goal.returns-in-Equal
returns-in-Equal c = record {
  found = held_there (view c.args.key.now.item) c.args.pairs.now (c.loop-low.low + (c.loop-low.high - c.loop-low.low) / 2) c.index-pairs-middle.result
      (omega (arith, c.loop-low-test.true, c.loop-low.invariant.within)) c.index-pairs-middle.is (sym c.in_ok-compare.ensures.order ∙ c.in-Equal.is);
}

pub loop-low-preserved : goal.loop-low-preserved
loop-low-preserved c = record {
  order = omega (arith, c.loop-low-test.true);
  within = c.loop-low.invariant.within;
  front = above_there (view c.args.key.now.item) c.args.pairs.now (c.loop-low.low + (c.loop-low.high - c.loop-low.low) / 2) c.index-pairs-middle.result
      (omega (arith, c.loop-low-test.true, c.loop-low.invariant.within)) c.index-pairs-middle.is (sym c.in_ok-compare.ensures.order ∙ c.in-Greater.is) c.requires.rises;
  back = c.loop-low.invariant.back;
}

pub returns : goal.returns
returns c =
    let e : c.loop-low.high ≡ c.loop-low.low = omega (arith, c.loop-low-test.false, c.loop-low.invariant.order) in
    let P : ℕ → Type 0 = λ n. IsBelow (view c.args.key.now.item) (listed (drop n c.args.pairs.now)) in
    record {
      found = is_place (view c.args.key.now.item) c.args.pairs.now c.loop-low.low (omega (arith, e, c.loop-low.invariant.within)) c.requires.rises
          c.loop-low.invariant.front (subst P e c.loop-low.invariant.back);
    }
