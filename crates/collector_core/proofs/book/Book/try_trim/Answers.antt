use Rattle.std.proofs.Common.{ap, arith}
use Rattle.event_log.specs.Log.{Log}
use Rattle.collector_core.proofs.Keeping.{some_trimmed}
use Rattle.collector_core.proofs.book.Book.try_trim.Goals as goal

pub invariant_of-self : goal.invariant_of-self
invariant_of-self c = (
  c.self.invariant.0,
  some_trimmed (record { epoch = c.self.inside.epoch; next = c.self.inside.records.next; records = c.self.inside.records.records; log = c.self.inside.log }) _ c.args.first c.self.invariant.1 (omega (arith, c.if-first-last.false, c.last-last.ensures.last))
      (ap (λ (log : Log). record { epoch = c.self.inside.epoch; next = c.self.inside.records.next; records = c.self.inside.records.records; log = log }) c.trim.ensures.trimmed),
)
