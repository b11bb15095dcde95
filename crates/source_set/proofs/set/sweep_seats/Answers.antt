use Rattle.std.proofs.Common.{inl}
use Rattle.source_set.specs.Sweeping.{row}
use Rattle.source_set.proofs.set.sweep_seats.Goals as goal

pub returns-in-Ok-clause-swept : goal.returns-in-Ok-clause-swept
returns-in-Ok-clause-swept g c = inl (row c.do_kept.new.seats.items c.do_kept.new.desk c.do_kept.new.swept, c.in-Ok.ensures.done, c.ask_all.ensures.asked)
