-- What a validator keeps of a session beside what its rules note.
use Rattle.std.specs.Prelude.{◌≡◌, [], ◌∷◌, ◌++◌, map}
use Rattle.validator_core.specs.declared.mirror.Taken.{Taken}
use Rattle.session_rules.specs.Numbers.{counted_on}
use Rattle.validator_session.specs.declared.notes.Notes.{Notes}
use Rattle.validator_session.specs.declared.notes.TakenReport.{TakenReport}

abbrev pub answer_of : TakenReport → Taken
answer_of taken = taken.answer

-- The record has the answers to the reports, and no points.
pub record IsNoted (n : Notes) : Type 0 where
  pub points : n.record.points ≡ []
  pub answers : n.record.taken ≡ map answer_of n.reports

-- The notes once an answer to a report is noted.
abbrev pub noted_answer : Notes → TakenReport → Notes
noted_answer n taken = record n {
  «record» = record n.record { taken = n.record.taken ++ taken.answer ∷ []; reports = counted_on n.record.reports 1 };
  reports = n.reports ++ taken ∷ [];
}
