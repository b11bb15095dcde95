use Rattle.std.proofs.Common.{◌≡◌, ◌<◌, ◌^◌, length, sym, arith}
use Rattle.std.proofs.lemmas.Result.{IfOk-weaker}
use Rattle.wire_base.proofs.FormOrFault.{form_of_call, only_of_call, fault_of_call}
use Rattle.swima_request.specs.RequestForm.{RequestForm, read_request, request_octets}
use Rattle.swima_request.proofs.RequestLaws.{reading_is_form}
use Rattle.swima_request.proofs.FaultLaws.{fault_is_first}
use Rattle.swima_request.proofs.Writing.{count_within, form_is_counted}
use Rattle.swima_request.proofs.read.read_request.Goals as goal

pub returns-clause-found : goal.returns-clause-found
returns-clause-found c = form_of_call read_request c.args.base c.args.value.now reading_is_form (λ i. omega (arith, c.type_inv.value i)) c.request.result (rw c.new.ensures.rest at c.request.ensures.request)

pub returns-clause-only : goal.returns-clause-only
returns-clause-only c = only_of_call read_request c.args.base c.args.value.now reading_is_form (λ i. omega (arith, c.type_inv.value i)) c.request.result (rw c.new.ensures.rest at c.request.ensures.request)

pub returns-clause-fault : goal.returns-clause-fault
returns-clause-fault c = fault_of_call read_request c.args.base c.args.value.now fault_is_first (λ i. omega (arith, c.type_inv.value i)) c.request.result (rw c.new.ensures.rest at c.request.ensures.request)

-- What was read meets what writing asks for.
pub returns-clause-count : goal.returns-clause-count
returns-clause-count c = IfOk-weaker c.request.result (λ r. RequestForm r c.args.value.now) (λ r. length r.targets < 2 ^ 24) (λ r form. count_within r c.args.value.now form) (returns-clause-found c)

pub returns-clause-size : goal.returns-clause-size
returns-clause-size c = IfOk-weaker c.request.result (λ r. RequestForm r c.args.value.now) (λ r. request_octets r ≡ length c.args.value.now) (λ r form. sym (form_is_counted r c.args.value.now form)) (returns-clause-found c)
