use Rattle.std.proofs.Common.{◌∙◌, sym}
use Rattle.collector_core.proofs.Borrowed.{sum_of_values}
use Rattle.collector_core.proofs.report_content.size_of_lent.Goals as goal

pub returns-clause-size : goal.returns-clause-size
returns-clause-size g c = c.size_of_all.ensures.size ∙ sym (sum_of_values (g.T.ReportEntry.entry_size c.args.kind) c.args.entries.now)
