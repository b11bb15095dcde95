-- What a collector may do after a batch, by what becomes of it.
use Rattle.std.specs.Prelude.{◌≡◌, ◌≢◌, IsTrue}
use Rattle.pb_batch.specs.Written.{IsTold}
use Rattle.pb_batch.specs.declared.kind.BatchKind.{BatchKind}
use Rattle.pb_batch.specs.declared.kind.BatchKind.TheVariants as kinds
use Rattle.pb_machine.specs.Table.{Position, may_send}
use Rattle.pb_machine.specs.declared.machine.State.TheVariants.{End}
use Rattle.session_rules.specs.declared.end.SessionEnd.TheVariants as end
use Rattle.session_rules.specs.declared.verdict.Verdict.{Verdict}
use Rattle.session_rules.specs.declared.verdict.Verdict.TheVariants.{PassesOver, Refuses, EndsBy, GoesOn}

-- The machine is not at its end, and may send what answers a batch of the kind.
pub record MayAnswer (machine : Position) (kind : BatchKind) : Type 0 where
  pub live : machine.state ≢ End
  pub after_data : kind ≡ kinds.Sdata → IsTrue (may_send machine kinds.Cdata)
  pub after_retry : kind ≡ kinds.Sretry → IsTrue (may_send machine kinds.Cdata)

-- It may send what the verdict on a batch of the kind asks for. No batch ends a session as a fault
-- of the link does.
abbrev pub MayFollow : Position → BatchKind → Verdict → Type 0
MayFollow machine kind PassesOver = machine.state ≢ End
MayFollow machine kind (Refuses fault) = IsTrue (may_send machine kinds.Close) × IsTold fault.code
MayFollow machine kind (EndsBy by) = by ≢ end.LinkFault
MayFollow machine kind GoesOn = MayAnswer machine kind
