-- What is said of the answer says it exactly.
use Rattle.cbor_det.proofs.Refusals.{gives_item, gives_fault, gives_cut}
use Rattle.cbor_det.proofs.read.read_item.Goals as goal

pub returns-clause-only : goal.returns-clause-only
returns-clause-only c = gives_item c.args.limits c.args.bytes.now c.read_front.result c.read_front.ensures.found c.read_front.ensures.refused

pub returns-clause-fault : goal.returns-clause-fault
returns-clause-fault c = gives_fault c.args.limits c.args.bytes.now c.read_front.result c.read_front.ensures.found c.read_front.ensures.refused

pub returns-clause-cut : goal.returns-clause-cut
returns-clause-cut c = gives_cut c.args.limits c.args.bytes.now c.read_front.result c.read_front.ensures.found c.read_front.ensures.refused
