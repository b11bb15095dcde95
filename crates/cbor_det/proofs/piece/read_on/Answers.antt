-- What the run over the prefix of the piece says of the joined octets.
use Rattle.std.proofs.Common.{arith, refl}
use Rattle.cbor_det.specs.View.{view}
use Rattle.cbor_det.proofs.Fed.{done_at, fault_at, limit_at, more_at}
use Rattle.cbor_det.proofs.piece.read_on.Goals as goal

pub returns-in-Whole-clause-came : goal.returns-in-Whole-clause-came
returns-in-Whole-clause-came c = λ before stands.
    done_at c.args.limits c.args.stack.now.items c.args.phase c.args.taken c.args.piece.now c.up_to-front.result.now (λ i. omega (arith, c.type_inv.piece i)) c.up_to-front.ensures.front before stands
    (view c.in-Whole.item) c.in_ok-stepped.used (rw c.in-Whole.is at c.in_ok-stepped.ensures.some) c.in_ok-stepped.ensures.within (rw c.in-Whole.is at c.in_ok-stepped.ensures.ran)

pub returns-in-Fault-clause-came : goal.returns-in-Fault-clause-came
returns-in-Fault-clause-came c = λ before stands.
    fault_at c.args.limits c.args.stack.now.items c.args.phase c.args.taken c.args.piece.now c.up_to-front.result.now (λ i. omega (arith, c.type_inv.piece i)) c.up_to-front.ensures.front before stands
    c.in-Fault.fault.kind c.in-Fault.fault.at _ (rw c.in-Fault.is at c.in_ok-stepped.ensures.ran)

pub returns-then-taken-limits-clause-came : goal.returns-then-taken-limits-clause-came
returns-then-taken-limits-clause-came c = λ before stands.
    limit_at c.args.limits c.args.stack.now.items c.args.phase c.args.taken c.args.piece.now c.up_to-front.result.now (λ i. omega (arith, c.type_inv.piece i)) c.up_to-front.ensures.front before stands
    c.run_piece.new.stack.items c.in-Goes.phase _ _ refl (rw c.in-Goes.is at c.in_ok-stepped.ensures.ran) c.if-taken-limits.true

pub returns-else-taken-limits-clause-came : goal.returns-else-taken-limits-clause-came
returns-else-taken-limits-clause-came c = λ before stands.
    more_at c.args.limits c.args.stack.now.items c.args.phase c.args.taken c.args.piece.now c.up_to-front.result.now (λ i. omega (arith, c.type_inv.piece i)) c.up_to-front.ensures.front before stands
    c.run_piece.new.stack.items c.in-Goes.phase _ _ refl (rw c.in-Goes.is at c.in_ok-stepped.ensures.ran) c.if-taken-limits.false
