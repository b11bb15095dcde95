use Rattle.std.proofs.Common.{rules, ap, arith}
use Rattle.event_log.specs.Log.{Log}
use Rattle.collector_core.proofs.Keeping.{some_begun}
use Rattle.collector_core.proofs.book.Book.try_begin_epoch.Goals as goal

pub invariant_of-self : goal.invariant_of-self
invariant_of-self c = (
  c.self.invariant.0,
  some_begun (record { epoch = c.self.inside.epoch; next = c.self.inside.records.next; records = c.self.inside.records.records; log = c.self.inside.log }) _ c.args.epoch c.self.invariant.1 (omega (arith, c.if-epoch-self.false)) (search rules)
      (ap (λ (log : Log). record { epoch = c.args.epoch; next = c.self.inside.records.next; records = c.self.inside.records.records; log = log }) c.clear.ensures.cleared),
)
