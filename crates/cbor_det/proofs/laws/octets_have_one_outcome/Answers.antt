-- The machine comes to one of them.
use Rattle.cbor_det.proofs.Outcome.{item_unique, fault_unique, item_no_fault}
use Rattle.cbor_det.proofs.Outcomes.{some_outcome}
use Rattle.cbor_det.proofs.laws.octets_have_one_outcome.Goals as goal

pub returns : goal.returns
returns c = record { item = item_unique; fault = fault_unique; both = item_no_fault; some = some_outcome }
