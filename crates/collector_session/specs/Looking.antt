-- In which state a collector looks at its subscriptions.
use Rattle.std.specs.Prelude.{Bool, true, false}
use Rattle.pb_machine.specs.declared.machine.State.{State}
use Rattle.pb_machine.specs.declared.machine.State.TheVariants.{Decided}

abbrev pub is_decided : State → Bool
is_decided Decided = true
is_decided other = false
