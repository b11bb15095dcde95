-- Worked outputs: one session at one door, in epoch 7.
use Rattle.std.specs.Prelude.{◌≡◌, ℕ, false, List, [], ◌∷◌, Option, Some, None, Result, Ok, Err, codes}
use Rattle.wire_base.specs.declared.outside.stopped.Stopped.{Stopped}
use Rattle.wire_base.specs.declared.outside.stopped.Stopped.TheVariants as stopped
use Rattle.swima_model.specs.declared.report.Kind.{Kind}
use Rattle.swima_model.specs.declared.report.Point.{Point}
use Rattle.validator_core.specs.Held.{Held}
use Rattle.session_rules.specs.declared.end.SessionEnd.{SessionEnd}
use Rattle.session_rules.specs.declared.end.SessionEnd.TheVariants as end
use Rattle.session_rules.specs.declared.record.SessionRecord.{SessionRecord}
use Rattle.source_set.specs.declared.swept.Swept.{Swept}
use Rattle.source_set.specs.declared.swept.SweepError.TheVariants as error
use Rattle.source_sweeps.specs.declared.sweeps.SweepStop.{SweepStop}
use Rattle.source_sweeps.specs.declared.sweeps.SweepStop.TheVariants as stop
use Rattle.command_text.specs.declared.ending.Ending.{Ending}
use Rattle.command_text.specs.declared.ending.Ending.TheVariants as ending
use Rattle.pool_text.specs.Text.{Noted, collect_text, follow_text}
use Rattle.pool_text.specs.Endings.{collect_ending, follow_ending}

-- The sessions at one door, where there was one. Whatever else is noted of it, it had one report.
abbrev pub one_session : SessionRecord → SessionEnd → List (List Noted)
one_session noted by = ((record noted { reports = 1 }, by) ∷ []) ∷ []

-- The point of epoch 7 at an event identifier.
abbrev pub at : ℕ → Point
at eid = record { epoch = 7; eid = eid }

-- Sweeps with these counts.
abbrev pub sweeps : ℕ → ℕ → ℕ → ℕ → Swept
sweeps added changed gone dropped = record { added = added; changed = changed; gone = gone; dropped = dropped }

-- What `collect` printed of one session that the other end closed, and how it ended.
pub record Collects (swept : Swept) (why : Option SweepStop) (point : Point) (count : ℕ) (text : List ℕ) (how : Result Ending Stopped) : Type 0 where
  pub printed : (noted : SessionRecord) → collect_text (one_session noted end.PeerClosed) (false ∷ []) swept why point count ≡ text
  pub ended : (noted : SessionRecord) → collect_ending (one_session noted end.PeerClosed) (false ∷ []) why ≡ how

-- No source, and an inventory without records.
abbrev pub NothingIsCollected : Type 0
NothingIsCollected = Collects (sweeps 0 0 0 0) None (at 0) 0
    (codes "session 1.1 reports 1 peer-closed\nswept 0 0 0 0\nbook 7 0 0\n") (Ok ending.Whole)

-- A source that added one record in the first sweep, and ended in the second.
abbrev pub SourceEnds : Type 0
SourceEnds = Collects (sweeps 1 0 1 1) None (at 2) 0
    (codes "session 1.1 reports 1 peer-closed\nswept 1 0 1 1\nbook 7 2 0\n") (Ok ending.Whole)

-- Beside a source that added one record, another that failed at its first call.
abbrev pub SourceFails : Type 0
SourceFails = Collects (sweeps 1 0 0 0) (Some (stop.Sweep (error.SourceFailed 1))) (at 1) 1
    (codes "session 1.1 reports 1 peer-closed\nswept 1 0 0 0\nstopped source-failed\nbook 7 1 1\n") (Err stopped.Fault)

-- A mirror that adopted an inventory without records.
abbrev pub no_records : Kind → Held
no_records kind = record { kind = kind; point = Some (at 0); records = []; off = false }

-- What `follow` printed of one session that it closed, and how it ended.
pub record InventoryIsFollowed : Type 0 where
  pub printed : (noted : SessionRecord) (kind : Kind) → follow_text (one_session noted end.Closed) (false ∷ []) (no_records kind ∷ [])
      ≡ codes "session 1.1 reports 1 closed\nendpoint 1\nmirror 7 0 0\n"
  pub ended : (noted : SessionRecord) → follow_ending (one_session noted end.Closed) (false ∷ []) ≡ Ok ending.Whole
