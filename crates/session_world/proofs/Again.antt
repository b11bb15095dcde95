-- In a session, the mirror has just judged the last report that it took.
use Rattle.std.proofs.Common.{◌≡◌, ℕ, List, [], Option, Some, None, refl, sym, ap, ◌∙◌}
use Rattle.swima_model.specs.declared.report.Report.{Report}
use Rattle.pb_batch.specs.declared.kind.BatchKind.TheVariants as kinds
use Rattle.validator_core.specs.Held.{Held}
use Rattle.validator_core.specs.Judge.{judge}
use Rattle.validator_core.proofs.Again.{judged_again_changes_nothing}
use Rattle.wire_base.specs.Turns.{Turn}
use Rattle.session_talk.specs.Talk.{Talk, Done, Ask, Write, Note}
use Rattle.session_talk.specs.Keeping.{NotesAre}
use Rattle.session_talk.proofs.Keeping.{keeps_gives}
use Rattle.session_rules.proofs.Kept.{session_keeps}
use Rattle.session_rules.specs.declared.config.FollowConfig.{FollowConfig}
use Rattle.session_rules.specs.declared.end.SessionEnd.TheVariants as end
use Rattle.session_rules.specs.Following.{Notes, Stand}
use Rattle.session_rules.specs.FollowRules as following
use Rattle.session_rules.specs.Taking.{NoQuestion, NoReply}
use Rattle.session_rules.specs.Transcripts.{nobody, Follows}

-- The mirror is what comes of judging the report.
abbrev pub IsJudged : Option Report → Held → Type 0
IsJudged None mirror = Unit {0}
IsJudged (Some report) mirror = (before : Held) × (mirror ≡ (judge before report).1)

abbrev Judged : Notes → Type 0
Judged notes = IsJudged notes.last notes.mirror

abbrev Any : Notes → Type 0
Any notes = Unit {0}

-- ---- a session

-- Nothing is asked of the notes.
any_notes : {A : Type 0} (talk : Talk NoQuestion NoReply Notes A) → NotesAre nobody Any talk []
any_notes (Done value) = tt
any_notes (Ask question talk) = tt
any_notes (Write octets talk) = any_notes talk
any_notes (Note note talk) = (tt, any_notes talk)

pub session_judged : (mirror : Held) (c : FollowConfig) (turns : List Turn) (out : List ℕ) (stand : Stand) → Follows mirror c turns out stand → IsJudged stand.notes.last stand.notes.mirror
session_judged mirror c turns out stand follows =
    keeps_gives Any Judged (λ (s : Stand). Judged s.notes) nobody (following.session c mirror turns) [] out stand
    (session_keeps Any Judged (λ notes report here so. (notes.mirror, refl)) (λ notes report answer here. here) (λ notes codes here. here) c mirror turns tt) (any_notes (following.session c mirror turns)) follows

-- A report that was just judged changes nothing.
pub judged_same : (report : Report) (mirror : Held) → IsJudged (Some report) mirror → (judge mirror report).1 ≡ mirror
judged_same report mirror judged = ap (λ (m : Held). (judge m report).1) judged.1 ∙ judged_again_changes_nothing judged.0 report ∙ sym judged.1
