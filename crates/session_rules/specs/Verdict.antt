-- What an end does with a batch before it looks into it: the batch goes to the state machine first
-- (RFC 5793, section 3.2), and then its errors are looked at (section 4.9).
use Rattle.std.specs.Prelude.{◌||◌, Bool, true, false, List, [], ◌∷◌, Option, Some, None, if◌then◌else◌}
use Rattle.pb_batch.specs.declared.batch.Batch.{Batch}
use Rattle.pb_batch.specs.declared.batch.Message.{Message}
use Rattle.pb_batch.specs.declared.batch.Message.TheVariants.{Error}
use Rattle.pb_batch.specs.declared.fault.PbFault.{PbFault}
use Rattle.pb_batch.specs.declared.kind.BatchKind.{BatchKind}
use Rattle.pb_batch.specs.declared.kind.BatchKind.TheVariants as kinds
use Rattle.pb_machine.specs.declared.machine.Heard.{Heard}
use Rattle.pb_machine.specs.declared.machine.Heard.TheVariants as heard
use Rattle.session_rules.specs.declared.end.SessionEnd.{SessionEnd}
use Rattle.session_rules.specs.declared.end.SessionEnd.TheVariants as end
use Rattle.session_rules.specs.declared.verdict.Verdict.{Verdict}
use Rattle.session_rules.specs.declared.verdict.Verdict.TheVariants.{PassesOver, Refuses, EndsBy, GoesOn}

-- The batch is a CLOSE.
abbrev pub is_close : BatchKind → Bool
is_close kinds.Close = true
is_close kind = false

-- How a PB-Error ends the session that is fatal or stands in a CLOSE (section 4.9). Others are
-- passed over.
abbrev pub error_in : Bool → Message → Option SessionEnd
error_in closing (Error fatal vendor code info) = if fatal || closing then Some (end.PeerError vendor code) else None
error_in closing message = None

-- One end, or else another.
abbrev pub or_later : Option SessionEnd → Option SessionEnd → Option SessionEnd
or_later (Some by) later = Some by
or_later None later = later

-- How the first such PB-Error ends it.
abbrev pub peer_error : Bool → List Message → Option SessionEnd
peer_error closing [] = None
peer_error closing (message ∷ messages) = or_later (error_in closing message) (peer_error closing messages)

-- A batch that may not come in this state is reported as Unexpected Batch Type (section 4.9.1).
abbrev pub unexpected : PbFault
unexpected = record { code = 0; offset = 0; version = 0 }

-- A batch that the machine goes on with, by its first PB-Error that counts.
abbrev pub ended_by : BatchKind → Option SessionEnd → Verdict
ended_by kind (Some by) = EndsBy by
ended_by kinds.Close None = EndsBy end.PeerClosed
ended_by kind None = GoesOn

-- What becomes of a batch, by what the machine says of its kind.
abbrev pub verdict : Heard → Batch → Verdict
verdict heard.Ignored batch = PassesOver
verdict heard.Unexpected batch = Refuses unexpected
verdict heard.Go batch = ended_by batch.kind (peer_error (is_close batch.kind) batch.messages)
