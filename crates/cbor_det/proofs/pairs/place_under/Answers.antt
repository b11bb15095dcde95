-- The key is here, or nowhere.
use Rattle.std.proofs.Common.{sym, ◌∙◌, arith}
use Rattle.cbor_det.proofs.Takes.{place_there, place_nowhere}
use Rattle.cbor_det.proofs.pairs.place_under.Goals as goal

pub returns-then-is_under : goal.returns-then-is_under
returns-then-is_under c = record {
  found = place_there c.args.key c.args.pairs.now c.loop-place.place c.index-pairs-place.result c.loop-place-test.true c.index-pairs-place.is
      (sym c.is_under.ensures.under ∙ c.if-is_under.true) c.loop-place.invariant;
}

pub returns : goal.returns
returns c = record { found = place_nowhere c.args.key c.args.pairs.now c.loop-place.place (omega (arith, c.loop-place-test.false)) c.loop-place.invariant }
