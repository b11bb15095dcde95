use Rattle.std.proofs.Common.{◌∙◌, ℕ, List, ap, drop, subst, take}
use Rattle.source_lines.specs.LineFaults.{HasFault}
use Rattle.source_lines.specs.Lines.{BufferView}
use Rattle.source_lines.proofs.NoItem.{is_bad}
use Rattle.source_lines.proofs.line_buffer.LineBuffer.take_line.Goals as goal

pub returns-in-Err-Fault-clause-item : goal.returns-in-Err-Fault-clause-item
returns-in-Err-Fault-clause-item c =
    let held = c.split_at.ensures.back ∙ ap (λ (octets : List ℕ). drop c.self.inside.place octets) c.as_slice.ensures.value ∙ ap (λ (view : BufferView). view.held) c.self.view_is in
    let line = c.split_at-2.ensures.front ∙ ap (λ (octets : List ℕ). take c.args.len octets) held in
    is_bad c.args.self.now.number (take c.args.len c.args.self.now.held) c.in-Err-Fault.fault c.give_up.result
    (subst (λ (octets : List ℕ). HasFault octets c.in-Err-Fault.fault) line (rw c.in-Err-Fault.field-0-is at c.in-Err-Fault.ensures.item))
    c.give_up.ensures.item
