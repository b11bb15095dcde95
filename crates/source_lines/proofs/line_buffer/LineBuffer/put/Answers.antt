use Rattle.source_lines.proofs.Fronts.{put_more}
use Rattle.source_lines.proofs.line_buffer.LineBuffer.put.Goals as goal

pub invariant_of-self : goal.invariant_of-self
invariant_of-self c =
    let buffer = c.self.inside in
    let kept = c.self.invariant in
    put_more buffer.octets.items c.args.piece.now c.extend_from_slice.new.self.items buffer.place buffer.searched (rw c.unwrap.ensures at c.extend_from_slice.ensures.items) kept.0 kept.1 kept.2 kept.3
