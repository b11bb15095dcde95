-- How a validator stands, by what the code keeps and the mirror.
use Rattle.std.specs.Prelude.{Option, Some, None, map}
use Rattle.validator_core.specs.Held.{Held}
use Rattle.session_rules.specs.Following.{Notes, Stand, TakenReport, Tries}
use Rattle.validator_session.specs.declared.notes.Notes.{Notes as NotesValue}
use Rattle.validator_session.specs.declared.notes.TakenReport.{TakenReport as TakenValue}
use Rattle.validator_session.specs.declared.standing.Standing.{Standing}
use Rattle.validator_session.specs.declared.standing.Tries.{Tries as TriesValue}

abbrev pub report_of : TakenValue → TakenReport
report_of taken = record { point = taken.point; count = taken.count; answer = taken.answer }

-- What is noted, without the octets that were given and taken.
abbrev pub notes_of : NotesValue → Held → Notes
notes_of n mirror = record { taken_reports = map report_of n.reports; errors = n.record.errors; reports = n.record.reports; mirror = mirror; last = n.last }

abbrev pub tries_of : Option TriesValue → Option Tries
tries_of None = None
tries_of (Some tries) = Some (record { point = tries.point; count = tries.count })

-- The standing.
abbrev pub stand_of : Standing → Held → Stand
stand_of s mirror = record {
  machine = s.machine;
  numbered = s.numbered;
  asked = s.asked;
  tries = tries_of s.tries;
  retried = s.retried;
  rounds = s.rounds;
  notes = notes_of s.notes mirror;
  over = s.over;
}
