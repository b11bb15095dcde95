-- Each turn copies one octet more, and stops at a mark.
use Rattle.std.proofs.Common.{◌∙◌, ap, arith, length-set, refl, Some}
use Rattle.std.proofs.lemmas.Option.{slice_get_read}
use Rattle.wire_base.proofs.Copied.{ahead_idle, ahead_more, copied_more}
use Rattle.wire_base.specs.declared.outside.no_fault_link.LinkTurn.{LinkTurn}
use Rattle.wire_base.proofs.outside.no_fault_link.copy_octets.Goals as goal

pub returns-in-Some-Idle-clause-count : goal.returns-in-Some-Idle-clause-count
returns-in-Some-Idle-clause-count c =
    let stops = ahead_idle c.args.turns.now c.loop-count.count (slice_get_read c.args.turns.now _ c.loop-count.count _ refl c.in-Some-Idle.ensures.lookup.3.0 c.in-Some-Idle.ensures.lookup.1 ∙ ap (λ (turn : LinkTurn). Some turn) c.in-Some-Idle.field-0-is) c.loop-count.invariant.ahead in
    omega (arith, stops, c.min-room.ensures, c.loop-count-test.true)

pub loop-count-preserved : goal.loop-count-preserved
loop-count-preserved c =
    let at = slice_get_read c.args.turns.now _ c.loop-count.count _ refl c.in-Some-Octet.ensures.lookup.3.0 c.in-Some-Octet.ensures.lookup.1 ∙ ap (λ (turn : LinkTurn). Some turn) c.in-Some-Octet.field-0-is in
    record {
      copied = copied_more c.loop-count.buf c.args.turns.now c.loop-count.count _ (omega (arith, c.min-room.ensures, c.loop-count-test.true, c.loop-count.invariant.len)) at c.loop-count.invariant.copied;
      ahead = ahead_more c.args.turns.now c.loop-count.count _ at c.loop-count.invariant.ahead;
      within = omega (arith, c.loop-count-test.true);
      len = length-set c.loop-count.buf c.loop-count.count _ ∙ c.loop-count.invariant.len;
    }
