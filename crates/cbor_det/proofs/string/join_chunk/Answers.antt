-- The last frame is the innermost.
use Rattle.cbor_det.proofs.Strings.{joined_last}
use Rattle.cbor_det.proofs.string.join_chunk.Goals as goal

pub returns-in-Some : goal.returns-in-Some
returns-in-Some c = record {
  joined = joined_last c.join.result c.args.stack.now.items c.args.stack.now.len c.in-Some.frame.now c.join.new.frame c.args.octets.now c.args.stack.now.ok.0 c.in-Some.ensures.item.3.0 c.in-Some.ensures.item.1 c.join.ensures.joined;
}
