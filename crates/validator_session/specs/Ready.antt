-- When a validator can go on.
use Rattle.std.specs.Prelude.{◌≡◌, ◌≢◌, ◌<◌, ℕ}
use Rattle.pb_batch.specs.Written.{IsTold}
use Rattle.pb_machine.specs.declared.machine.Role.TheVariants.{Server}
use Rattle.pb_machine.specs.declared.machine.State.TheVariants.{End, ServerWorking}
use Rattle.pb_machine.specs.Table.{Position}
use Rattle.session_rules.specs.declared.verdict.Verdict.{Verdict}
use Rattle.session_rules.specs.declared.verdict.Verdict.TheVariants.{PassesOver, Refuses, EndsBy, GoesOn}
use Rattle.validator_session.specs.declared.standing.Standing.{Standing}

-- The machine is that of a server and not at its end, and not all rounds have ended.
pub record CanGoOn (standing : Standing) (rounds : ℕ) : Type 0 where
  pub role : standing.machine.role ≡ Server
  pub live : standing.machine.state ≢ End
  pub rounds_left : standing.rounds < rounds

-- The machine after a batch, by what becomes of the batch.
abbrev pub MayFollow : Verdict → Position → Type 0
MayFollow PassesOver machine = machine.state ≢ End
MayFollow (Refuses fault) machine = (machine.state ≢ End) × IsTold fault.code
MayFollow (EndsBy by) machine = Unit {0}
MayFollow GoesOn machine = machine.state ≡ ServerWorking
