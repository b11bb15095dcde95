-- The head counts these pairs and the others.
use Rattle.cbor_det.proofs.Laid.{head_with}
use Rattle.cbor_det.proofs.item.Pairs.put_head_with.Goals as goal

pub returns : goal.returns
returns c = record { appended = head_with c.args.self.now c.as_slice.result.now c.args.more c.put_head.result c.args.out.now c.put_head.new.out c.as_slice.ensures.items c.put_head.ensures.appended }
