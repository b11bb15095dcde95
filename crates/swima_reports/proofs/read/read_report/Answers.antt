use Rattle.std.proofs.Common.{arith}
use Rattle.wire_base.proofs.FormOrFault.{form_of_call, only_of_call, fault_of_call}
use Rattle.swima_reports.specs.ReportReading.{read_report}
use Rattle.swima_reports.proofs.ReportLaws.{reading_is_form}
use Rattle.swima_reports.proofs.FaultLaws.{fault_is_first}
use Rattle.swima_reports.proofs.read.read_report.Goals as goal

pub returns-clause-found : goal.returns-clause-found
returns-clause-found c = form_of_call (read_report c.args.attr_type) c.args.base c.args.value.now (reading_is_form c.args.attr_type c.requires.kind) (λ i. omega (arith, c.type_inv.value i)) c.by_type.result (rw c.new.ensures.rest at c.by_type.ensures.report)

pub returns-clause-only : goal.returns-clause-only
returns-clause-only c = only_of_call (read_report c.args.attr_type) c.args.base c.args.value.now (reading_is_form c.args.attr_type c.requires.kind) (λ i. omega (arith, c.type_inv.value i)) c.by_type.result (rw c.new.ensures.rest at c.by_type.ensures.report)

pub returns-clause-fault : goal.returns-clause-fault
returns-clause-fault c = fault_of_call (read_report c.args.attr_type) c.args.base c.args.value.now (fault_is_first c.args.attr_type c.requires.kind) (λ i. omega (arith, c.type_inv.value i)) c.by_type.result (rw c.new.ensures.rest at c.by_type.ensures.report)
