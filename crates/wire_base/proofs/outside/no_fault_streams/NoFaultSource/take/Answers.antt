use Rattle.std.proofs.Common.{List, ℕ, ◌≡◌, ◌∙◌, ap, sym, take, drop, length, arith, length-take}
use Rattle.wire_base.proofs.Octets.{moved}
use Rattle.wire_base.proofs.outside.no_fault_streams.NoFaultSource.take.Goals as goal

pub returns-clause-moved : goal.returns-clause-moved
returns-clause-moved c =
    let count = c.min-count.result in
    let rest = c.split_at.ensures.back ∙ ap (λ (octets : List ℕ). drop c.self.inside.place octets) c.as_slice.ensures.items in
    let len : length c.copy_from_slice.new.self ≡ count = omega (arith, c.copy_from_slice.ensures.len, length-take count c.args.buf.now, c.min-count.ensures) in
    sym c.self.view_is ∙ moved c.self.inside.octets c.copy_from_slice.new.self _ c.self.inside.place count (c.copy_from_slice.ensures.after ∙ ap (λ (octets : List ℕ). take count octets) rest) len
