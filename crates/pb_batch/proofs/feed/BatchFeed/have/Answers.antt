use Rattle.std.proofs.Common.{arith}
use Rattle.pb_batch.proofs.Fronts.{more_short}
use Rattle.pb_batch.proofs.feed.BatchFeed.have.Goals as goal

pub returns-clause-within : goal.returns-clause-within
returns-clause-within c = omega (arith, c.len.ensures.len, more_short c.self.inside.from_server c.self.inside.held c.self.invariant)
