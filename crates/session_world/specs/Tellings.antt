-- What calls within the crate report.
use Rattle.std.specs.Prelude.{◌≡◌, ◌≢◌, ◌++◌, ◌^◌, ℕ, Bool, true, false, List, [], ◌∷◌, Option, Some, None, Result, Ok, Err, nat_lt}
use Rattle.swima_model.specs.declared.report.Report.{Report}
use Rattle.swima_model.specs.Size.{report_count}
use Rattle.validator_core.specs.Held.{Held}
use Rattle.validator_core.specs.Judge.{judge}
use Rattle.collector_core.specs.declared.error.BookError.{BookError}
use Rattle.collector_core.specs.declared.error.BookError.TheVariants as unmade
use Rattle.session_rules.specs.declared.end.SessionEnd.{SessionEnd}
use Rattle.session_rules.specs.declared.end.SessionEnd.TheVariants as end
use Rattle.session_rules.specs.declared.end.Turn.{Turn}
use Rattle.session_rules.specs.declared.end.Turn.TheVariants as turn
use Rattle.swima_model.specs.Reports.{point_in}
use Rattle.validator_session.specs.declared.notes.TakenReport.{TakenReport}
use Rattle.session_world.specs.declared.telling.Telling.{Telling}
use Rattle.session_world.specs.declared.telling.Telling.TheVariants.{Refused, Took}

-- A report that the mirror took, as the code keeps it.
abbrev pub taken_telling : TakenReport → Telling
taken_telling taken = Took taken.point taken.count taken.answer

-- How an end is over after a turn. Memory did not run out.
abbrev pub ended_by : Turn → Option SessionEnd → Type 0
ended_by turn.Goes over = over ≡ None
ended_by (turn.Over by) over = (over ≡ Some by) × (by ≡ end.Memory → ⊥)

-- What is reported where a mirror takes a report once more, and what it holds then. Nothing is of
-- a report with too many records.
abbrev pub TookBy : Bool → Held → Report → List Telling → Held → List Telling → Type 0
TookBy true before report told after told_after = (after ≡ (judge before report).1) × (told_after ≡ told ++ Took (point_in report) (report_count report) (judge before report).0 ∷ [])
TookBy false before report told after told_after = (after ≡ before) × (told_after ≡ told)

abbrev pub TookAgain : Held → Report → List Telling → Held → List Telling → Type 0
TookAgain before report told after told_after = TookBy (nat_lt (report_count report) (2 ^ 32)) before report told after told_after

-- What is reported of a change, by what came of it. Memory did not run out.
abbrev pub ToldOf : {T : Type 0} → Result T BookError → List Telling → List Telling → Type 0
ToldOf (Ok value) told told_after = told_after ≡ told
ToldOf (Err error) told told_after = (error ≢ unmade.Memory) × (told_after ≡ told ++ Refused error ∷ [])
