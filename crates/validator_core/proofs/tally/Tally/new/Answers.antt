-- Before any event what is live are the records themselves.
use Rattle.std.proofs.Common.{refl, rules}
use Rattle.validator_core.proofs.Tallying.{begins}
use Rattle.validator_core.proofs.tally.Tally.new.Goals as goal

pub returns-clause-begins : goal.returns-clause-begins
returns-clause-begins c = begins c.args.records.now _ c.requires.weighed.rising refl (λ id. search rules) refl c.requires.weighed.counted
