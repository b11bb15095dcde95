-- What the run over the prefix says of the octets.
use Rattle.std.proofs.Common.{inl, arith}
use Rattle.cbor_det.specs.Standing.{place}
use Rattle.cbor_det.proofs.Fed.{phase_goes}
use Rattle.cbor_det.proofs.Refusals.{found_at, fault_at, open_at}
use Rattle.cbor_det.proofs.read.read_front.Goals as goal

pub returns-in-Whole-clause-found : goal.returns-in-Whole-clause-found
returns-in-Whole-clause-found c =
    found_at c.args.limits c.args.bytes.now c.new-stack.result.items c.up_to-front.result.now (λ i. omega (arith, c.type_inv.bytes i)) c.new-stack.ensures.items c.up_to-front.ensures.front
    _ c.in_ok-stepped.used c.in_ok-stepped.ensures.within (rw c.in-Whole.is at c.in_ok-stepped.ensures.ran)

pub returns-in-Fault-clause-refused : goal.returns-in-Fault-clause-refused
returns-in-Fault-clause-refused c =
    inl (fault_at c.args.limits c.args.bytes.now c.new-stack.result.items c.up_to-front.result.now (λ i. omega (arith, c.type_inv.bytes i)) c.new-stack.ensures.items c.up_to-front.ensures.front
    c.in-Fault.fault.kind c.in-Fault.fault.at _ (rw c.in-Fault.is at c.in_ok-stepped.ensures.ran))

pub returns-clause-refused : goal.returns-clause-refused
returns-clause-refused c =
    open_at c.args.limits c.args.bytes.now c.new-stack.result.items c.up_to-front.result.now (λ i. omega (arith, c.type_inv.bytes i)) c.new-stack.ensures.items c.up_to-front.ensures.front
    _ _ c.unfinished.result (phase_goes (place c.run_piece.new.stack.items) c.in-Goes.field-0) (rw c.in-Goes.is at c.in_ok-stepped.ensures.ran) c.unfinished.ensures.fault
