-- A chunk by itself, and after the others.
use Rattle.cbor_det.specs.Standing.{place}
use Rattle.cbor_det.proofs.Strings.{bad, chunk_put}
use Rattle.cbor_det.proofs.string.chunk_ended.Goals as goal

pub returns-then-not-is_part-clause-ended : goal.returns-then-not-is_part-clause-ended
returns-then-not-is_part-clause-ended c =
    bad (place c.args.stack.now.items) c.args.at c.args.kind c.args.octets _ _ c.is_part.ensures.part c.as_slice.ensures.items c.if-not-is_part.true

pub returns-clause-ended : goal.returns-clause-ended
returns-clause-ended c =
    chunk_put (place c.args.stack.now.items) _ c.args.at c.args.kind _ _ c.args.octets _ c.requires.chunk c.in_ok-join_chunk.ensures.joined c.as_slice-2.ensures.items c.is_part.ensures.part
    c.as_slice.ensures.items c.if-not-is_part.false
