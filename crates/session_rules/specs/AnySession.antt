-- A mirror that follows an honest collector stays right, whatever comes in a session and wherever
-- it ends.
use Rattle.std.specs.Prelude.{◌≡◌, ℕ, List, [], Option, Some, None}
use Rattle.wire_base.specs.Turns.{Turn}
use Rattle.swima_model.specs.declared.report.Kind.{Kind}
use Rattle.swima_model.specs.declared.report.Report.{Report}
use Rattle.swima_model.specs.declared.report.Report.TheVariants.{Inventory, Events}
use Rattle.swima_model.specs.History.{History, IsHonest, Answers}
use Rattle.validator_core.specs.Held.{Held}
use Rattle.validator_core.specs.Right.{IsRight}
use Rattle.session_talk.specs.Keeping.{BreaksWith, NotesAre}
use Rattle.session_rules.specs.declared.config.FollowConfig.{FollowConfig}
use Rattle.session_rules.specs.Following.{Notes, Stand, nothing_noted}
use Rattle.session_rules.specs.FollowRules as following
use Rattle.session_rules.specs.Transcripts.{nobody, Follows, FollowsInPart}

-- The kind of a report.
abbrev pub kind_in : Report → Kind
kind_in (Inventory kind fulfil id point records) = kind
kind_in (Events kind fulfil id point consulted events) = kind

-- The last report answers from the history, if there is one and it is of the kind.
abbrev pub LastAnswers : History → Kind → Option Report → Type 0
LastAnswers history kind None = Unit {0}
LastAnswers history kind (Some report) = kind_in report ≡ kind → Answers history report

abbrev pub NotesAnswer : History → Kind → Notes → Type 0
NotesAnswer history kind notes = LastAnswers history kind notes.last

-- Where the mirror was right, and each report that it took in its kind answers from the history, it
-- is right after the session.
abbrev pub StaysRightInSessions : Type 0
StaysRightInSessions = (history : History) (mirror : Held) (c : FollowConfig) (turns : List Turn) (octets : List ℕ) (stand : Stand) → IsHonest history → IsRight history mirror
    → NotesAre nobody (NotesAnswer history mirror.kind) (following.session c mirror turns) [] → Follows mirror c turns octets stand → IsRight history stand.notes.mirror

-- So where memory ran out on the way, of the reports that it took until then. This is so in
-- particular where each report of the whole session answers from the history.
pub record StaysRightInParts : Type 0 where
  pub until : (history : History) (mirror : Held) (c : FollowConfig) (turns : List Turn) (octets : List ℕ) (notes : Notes) → IsHonest history → IsRight history mirror
      → BreaksWith nobody (NotesAnswer history mirror.kind) (nothing_noted mirror) (following.session c mirror turns) [] octets notes → IsRight history notes.mirror
  pub whole : (history : History) (mirror : Held) (c : FollowConfig) (turns : List Turn) (octets : List ℕ) (notes : Notes) → IsHonest history → IsRight history mirror
      → NotesAre nobody (NotesAnswer history mirror.kind) (following.session c mirror turns) [] → FollowsInPart mirror c turns octets notes → IsRight history notes.mirror
