-- A number below 10 is written as its digit.
use Rattle.std.proofs.lemmas.Fmt.{decimal_digit}
use Rattle.command_text.proofs.mirror_lines.put_number.Goals as goal

pub returns-then-number-lt10 : goal.returns-then-number-lt10
returns-then-number-lt10 c = record { appended = rw (decimal_digit c.args.number c.if-number-lt10.true) c.push.ensures.appended }
