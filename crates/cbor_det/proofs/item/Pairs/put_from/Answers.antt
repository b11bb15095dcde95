-- All pairs from the place on were put.
use Rattle.std.proofs.Common.{arith}
use Rattle.cbor_det.proofs.Laid.{all_put}
use Rattle.cbor_det.proofs.item.Pairs.put_from.Goals as goal

pub returns : goal.returns
returns c = record {
  appended = all_put c.args.self.now c.as_slice-pairs.result.now c.as_slice-pairs.ensures.items c.args.place c.loop-next.next c.args.out.now c.loop-next.out
      (omega (arith, c.loop-next-test.false)) c.loop-next.invariant;
}
