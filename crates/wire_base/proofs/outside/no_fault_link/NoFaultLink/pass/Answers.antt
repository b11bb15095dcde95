-- The octets that were copied are taken, and no longer left.
use Rattle.std.proofs.Common.{◌∙◌, ◌++◌, List, ap, sym, arith, drop, refl, take, Some}
use Rattle.std.proofs.lemmas.Option.{slice_get_read}
use Rattle.wire_base.proofs.Copied.{left_less, some_ahead, taken_more}
use Rattle.wire_base.specs.InMemory.{TurnsInMemory}
use Rattle.wire_base.specs.Turns.{Turn, turns_of}
use Rattle.wire_base.specs.declared.outside.no_fault_link.LinkTurn.{LinkTurn}
use Rattle.wire_base.proofs.outside.no_fault_link.NoFaultLink.pass.Goals as goal

pub returns-in-Some-Octet-clause-moved : goal.returns-in-Some-Octet-clause-moved
returns-in-Some-Octet-clause-moved c =
    let count = c.copy_octets-count.result in
    let left = c.split_at.ensures.back ∙ ap (λ (turns : List LinkTurn). drop c.self.inside.place turns) c.as_slice.ensures.items in
    let some = some_ahead _ _ (slice_get_read c.split_at.result.1.now _ 0 _ refl c.in-Some-Octet.ensures.item.3.0 c.in-Some-Octet.ensures.item.1 ∙ ap (λ (turn : LinkTurn). Some turn) c.in-Some-Octet.field-0-is) in (
      omega (arith, c.copy_octets-count.ensures.count, some, c.requires, c.self.invariant.1),
      omega (arith, c.copy_octets-count.ensures.count, c.copy_octets-count.ensures.len),
      (
        ap (λ (turns : List Turn). Some turns) (taken_more c.self.inside.turns _ c.self.inside.place count _ left c.copy_octets-count.ensures.copied ∙ ap (λ (held : TurnsInMemory). held.taken ++ turns_of (take count c.copy_octets-count.new.buf)) c.self.view_is),
        ap (λ (turns : List Turn). Some turns) (sym (ap (λ (held : TurnsInMemory). held.left) c.self.view_is) ∙ left_less c.self.inside.turns _ c.self.inside.place count _ left c.copy_octets-count.ensures.copied),
      ),
    )
