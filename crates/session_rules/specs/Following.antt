-- How a validator stands in a session, and the batch that it is writing.
use Rattle.std.specs.Prelude.{◌==◌, ◌&&◌, ℕ, Bool, true, false, List, [], ◌++◌, Option, Some, None}
use Rattle.swima_model.specs.declared.report.Point.{Point}
use Rattle.swima_model.specs.declared.report.Report.{Report}
use Rattle.pb_batch.specs.declared.batch.Message.{Message}
use Rattle.pb_machine.specs.declared.machine.Role.TheVariants as role
use Rattle.pb_machine.specs.declared.machine.State.TheVariants as state
use Rattle.pb_machine.specs.Table.{Position}
use Rattle.validator_core.specs.declared.mirror.Taken.{Taken}
use Rattle.validator_core.specs.Held.{Held}
use Rattle.session_rules.specs.declared.end.SessionEnd.{SessionEnd}

-- A report that the mirror took: its point, how many records or events it has, and what the mirror
-- answered.
pub record TakenReport : Type 0 where
  pub point : Point
  pub count : ℕ
  pub answer : Taken

-- What is noted of the session: the reports that the mirror took, the codes of the Errors that were
-- heard, how many reports were taken, the mirror, and the last report.
pub record Notes : Type 0 where
  pub taken_reports : List TakenReport
  pub errors : List ℕ
  pub reports : ℕ
  pub mirror : Held
  pub last : Option Report

-- The latest requests of the round: the mirror's point at each of them, and how many there were.
pub record Tries : Type 0 where
  pub point : Option Point
  pub count : ℕ

-- How a validator stands: its state machine, how many PA-TNC messages it has numbered, how many
-- requests it has made, and the latest of the round. It remembers whether it wrote an SRETRY since
-- the last CDATA that it heard, and how many rounds have ended. It has what is noted, and how the
-- session ended, if it has.
pub record Stand : Type 0 where
  pub machine : Position
  pub numbered : ℕ
  pub asked : ℕ
  pub tries : Option Tries
  pub retried : Bool
  pub rounds : ℕ
  pub notes : Notes
  pub over : Option SessionEnd

-- Before the session, with a mirror.
abbrev pub nothing_noted : Held → Notes
nothing_noted mirror = record { taken_reports = []; errors = []; reports = 0; mirror = mirror; last = None }

abbrev pub begin : Held → Stand
begin mirror = record { machine = record { role = role.Server; state = state.Init }; numbered = 0; asked = 0; tries = None; retried = false; rounds = 0; notes = nothing_noted mirror; over = None }

-- The session ends.
abbrev pub ends : Stand → SessionEnd → Stand
ends s end = record s { over = Some end }

-- A batch that is being written: its answers to messages, how many PA-TNC messages are numbered,
-- the codes of the Errors that were heard, and what is noted.
pub record Draft : Type 0 where
  pub answers : List Message
  pub numbered : ℕ
  pub errors : List ℕ
  pub notes : Notes

-- Before the first answer.
abbrev pub draft : Stand → Draft
draft s = record { answers = []; numbered = s.numbered; errors = []; notes = s.notes }

-- What is noted once the batch waits: the Errors that were heard too.
abbrev pub with_errors : Draft → Notes
with_errors d = record d.notes { errors = d.notes.errors ++ d.errors }

-- Two points are one.
abbrev pub same_point : Option Point → Option Point → Bool
same_point None None = true
same_point None (Some other) = false
same_point (Some one) None = false
same_point (Some one) (Some other) = (one.epoch == other.epoch) && (one.eid == other.eid)
