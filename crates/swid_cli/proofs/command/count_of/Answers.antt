use Rattle.std.proofs.Common.{arith}
use Rattle.swid_cli.proofs.Counting.{no_count}
use Rattle.swid_cli.proofs.command.count_of.Goals as goal

pub returns-in_default : goal.returns-in_default
returns-in_default c = record { count = no_count c.args.word.now c.in-Some.count (rw c.as_bytes.ensures.value at c.in-Some.ensures.number) (λ is. omega (arith, c.if-count-le-MOST_PACKAGES.false, is.1)) }

pub returns-in_default-2 : goal.returns-in_default-2
returns-in_default-2 c = record { count = no_count c.args.word.now c.in-Some.count (rw c.as_bytes.ensures.value at c.in-Some.ensures.number) (λ is. omega (arith, c.if-count-ge-FEWEST_PACKAGES.false, is.0)) }
