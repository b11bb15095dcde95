use Rattle.swid_cli.proofs.Values.{goes}
use Rattle.swid_cli.proofs.mirror.step.take_report.Goals as goal

pub returns-in_ok-line-in-Ok-clause-step : goal.returns-in_ok-line-in-Ok-clause-step
returns-in_ok-line-in-Ok-clause-step c = λ octets.
    goes _ octets _ _ _ c.in-Ok.report c.take_owned.result c.in_ok-line-in-Ok.line (rw c.as_slice.ensures.items at c.in-Ok.ensures.exact) c.take_owned.ensures.judged c.in_ok-line-in-Ok.ensures.answered (rw c.count.ensures.count at (rw c.point.ensures.point at c.in_ok-line-in-Ok.ensures.line))
