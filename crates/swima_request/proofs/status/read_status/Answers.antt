use Rattle.std.proofs.Common.{◌≡◌, length, sym, arith}
use Rattle.std.proofs.lemmas.Result.{IfOk-weaker}
use Rattle.wire_base.proofs.FormOrFault.{form_of_call, only_of_call, fault_of_call}
use Rattle.swima_request.specs.StatusForm.{StatusForm, read_status, status_octets}
use Rattle.swima_request.proofs.StatusLaws.{fault_is_first, reading_is_form}
use Rattle.swima_request.proofs.StatusWriting.{form_is_counted}
use Rattle.swima_request.proofs.status.read_status.Goals as goal

pub returns-clause-found : goal.returns-clause-found
returns-clause-found c = form_of_call read_status c.args.base c.args.value.now reading_is_form (λ i. omega (arith, c.type_inv.value i)) c.status.result (rw c.new.ensures.rest at c.status.ensures.status)

pub returns-clause-only : goal.returns-clause-only
returns-clause-only c = only_of_call read_status c.args.base c.args.value.now reading_is_form (λ i. omega (arith, c.type_inv.value i)) c.status.result (rw c.new.ensures.rest at c.status.ensures.status)

pub returns-clause-fault : goal.returns-clause-fault
returns-clause-fault c = fault_of_call read_status c.args.base c.args.value.now fault_is_first (λ i. omega (arith, c.type_inv.value i)) c.status.result (rw c.new.ensures.rest at c.status.ensures.status)

-- What was read meets what writing asks for.
pub returns-clause-size : goal.returns-clause-size
returns-clause-size c = IfOk-weaker c.status.result (λ rs. StatusForm rs c.args.value.now) (λ rs. status_octets rs ≡ length c.args.value.now) (λ rs form. sym (form_is_counted rs c.args.value.now form)) (returns-clause-found c)
