-- How a collector stands in a session, and the batch that it is writing.
use Rattle.std.specs.Prelude.{ℕ, List, [], ◌++◌, Option, Some, None, length}
use Rattle.swima_model.specs.declared.report.Point.{Point}
use Rattle.swima_subs.specs.declared.waiting.Waiting.{Waiting}
use Rattle.pa_attrs.specs.declared.attr.Attr.{Attr}
use Rattle.pb_batch.specs.declared.batch.Message.{Message}
use Rattle.pb_batch.specs.declared.kind.BatchKind.TheVariants as kinds
use Rattle.pb_machine.specs.declared.machine.Role.TheVariants as role
use Rattle.pb_machine.specs.declared.machine.State.TheVariants as state
use Rattle.pb_machine.specs.Table.{Position, sent}
use Rattle.session_rules.specs.declared.config.ServeConfig.{ServeConfig}
use Rattle.session_rules.specs.declared.end.SessionEnd.{SessionEnd}
use Rattle.session_rules.specs.Numbers.{counted_on}

-- What is noted of the session: the points of the reports that were written, the codes of the
-- Errors that were heard, and how many reports were written.
pub record Notes : Type 0 where
  pub points : List Point
  pub errors : List ℕ
  pub reports : ℕ

-- Before the session.
abbrev pub nothing_noted : Notes
nothing_noted = record { points = []; errors = []; reports = 0 }

-- How a collector stands: its state machine, the subscriptions, how many PA-TNC messages it has
-- numbered, what is noted, and how the session ended, if it has.
pub record Stand : Type 0 where
  pub machine : Position
  pub subs : List Waiting
  pub numbered : ℕ
  pub notes : Notes
  pub over : Option SessionEnd

-- It begins by sending a CDATA.
abbrev pub begin : Stand
begin = record { machine = sent (record { role = role.Client; state = state.Init }) kinds.Cdata; subs = []; numbered = 0; notes = nothing_noted; over = None }

-- The session ends.
abbrev pub ends : Stand → SessionEnd → Stand
ends s end = record s { over = Some end }

-- A batch that is being written.
--   subs       the subscriptions
--   earlier    how many of them are of earlier batches
--   room       the most octets that the values of further reports may have
--   attrs      the attributes that answer the message that is being answered
--   messages   the messages of the batch
--   numbered   how many PA-TNC messages are numbered
--   points     the points of the reports in it
--   errors     the codes of the Errors that were heard
pub record Draft : Type 0 where
  pub subs : List Waiting
  pub earlier : ℕ
  pub room : ℕ
  pub attrs : List Attr
  pub messages : List Message
  pub numbered : ℕ
  pub points : List Point
  pub errors : List ℕ

-- Before the first answer.
abbrev pub draft : ServeConfig → Stand → Draft
draft c s = record { subs = s.subs; earlier = length s.subs; room = c.max; attrs = []; messages = []; numbered = s.numbered; points = []; errors = [] }

-- What is noted once the batch waits: first the Errors that were heard, then the reports in it.
abbrev pub with_errors : Notes → Draft → Notes
with_errors notes d = record notes { errors = notes.errors ++ d.errors }

abbrev pub with_reports : Notes → Draft → Notes
with_reports notes d = record notes { points = notes.points ++ d.points; reports = counted_on notes.reports (length d.points) }
