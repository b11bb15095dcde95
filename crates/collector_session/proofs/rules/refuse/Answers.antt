use Rattle.collector_session.proofs.Writing.{fault_lost, fault_so}
use Rattle.collector_session.proofs.rules.refuse.Goals as goal

pub returns-in_err-write_fault-clause-spoken : goal.returns-in_err-write_fault-clause-spoken
returns-in_err-write_fault-clause-spoken c =
    fault_lost c.args.standing.now c.args.fault c.args.out.now c.write_fault.new.out c.from_residual.result c.from_residual.ensures.0 c.in_err-write_fault.ensures.unchanged

pub returns-clause-spoken : goal.returns-clause-spoken
returns-clause-spoken c = fault_so c.args.standing.now c.args.fault c.send.new.self c.args.out.now c.write_fault.new.out c.send.ensures.sent c.in_ok-write_fault.ensures.written
