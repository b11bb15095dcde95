-- The laws of all sessions.
use Rattle.std.proofs.Common.{◌≡◌, ℕ, Bool, true, List, [], Option, Some, None, length, refl, ap, subst, ◌∙◌}
use Rattle.swima_model.specs.declared.report.Point.{Point}
use Rattle.validator_core.specs.Want.{want_at}
use Rattle.session_talk.specs.Talk.{Talk, Done, Ask, Write, Note}
use Rattle.session_talk.specs.Course.{Gives}
use Rattle.session_talk.specs.Given.{given, placed}
use Rattle.session_talk.proofs.Breaking.{breaks_continue}
use Rattle.session_talk.proofs.Computed.{given_gives, gives_given}
use Rattle.session_talk.proofs.Outcomes.{gives_one}
use Rattle.session_rules.specs.FollowRules.{earliest_of}
use Rattle.session_rules.specs.FollowRules as following
use Rattle.session_rules.specs.Meaning.{OneOutcome, LaterEntriesChangeNothing, LaterEntriesChangeNoPart, ServedIsSo, ServedIsASession, ServedPartContinues, FollowedIsSo, FollowedIsASession, FollowedPartContinues, MarkedAsksForAll}
use Rattle.session_rules.specs.Questions.{at_places}
use Rattle.session_rules.specs.ServeRules as serving
use Rattle.session_rules.specs.Serving.{nothing_noted as nothing_served}
use Rattle.session_rules.specs.Following.{nothing_noted as nothing_followed}
use Rattle.session_rules.specs.Taking.{NoQuestion, NoReply}
use Rattle.session_rules.specs.Transcripts.{nobody}
use Rattle.session_rules.proofs.Desking.{breaks_longer, gives_longer}

-- ---- a collector

pub one_outcome : OneOutcome
one_outcome chronicle c turns places out others one other first second = gives_one (at_places chronicle) (serving.session c turns) places out others one other first second

pub later_entries_change_nothing : LaterEntriesChangeNothing
later_entries_change_nothing chronicle later c turns places out stand within serves = gives_longer chronicle later (serving.session c turns) places out stand within serves

pub served_is_so : ServedIsSo
served_is_so chronicle c turns places out stand serves = given_gives (at_places chronicle) (length chronicle.entries) (serving.session c turns) places out stand serves

pub served_is_a_session : ServedIsASession
served_is_a_session chronicle c turns places = gives_given (at_places chronicle) (length chronicle.entries) (serving.session c turns) places

pub later_entries_change_no_part : LaterEntriesChangeNoPart
later_entries_change_no_part chronicle later c turns places out notes within breaks = breaks_longer chronicle later nothing_served (serving.session c turns) places out notes within breaks

pub served_part_continues : ServedPartContinues
served_part_continues chronicle c turns places out notes breaks =
    breaks_continue (at_places chronicle) (length chronicle.entries) nothing_served (serving.session c turns) places out notes breaks

-- ---- a validator

-- Nothing is asked.
none_placed : {N A : Type 0} (now : ℕ) (talk : Talk NoQuestion NoReply N A) → placed nobody now talk [] ≡ []
none_placed now (Done value) = refl
none_placed now (Ask question talk) = elim question [ ]
none_placed now (Write octets talk) = none_placed now talk
none_placed now (Note note talk) = none_placed now talk

pub followed_is_a_session : FollowedIsASession
followed_is_a_session mirror c turns =
    subst (λ (places : List ℕ). Gives nobody (following.session c mirror turns) places (given nobody 0 (following.session c mirror turns) []).0 (given nobody 0 (following.session c mirror turns) []).1)
    (none_placed 0 (following.session c mirror turns)) (gives_given nobody 0 (following.session c mirror turns) [])

pub followed_part_continues : FollowedPartContinues
followed_part_continues mirror c turns out notes breaks = breaks_continue nobody 0 (nothing_followed mirror) (following.session c mirror turns) [] out notes breaks

pub followed_is_so : FollowedIsSo
followed_is_so mirror c turns out stand follows = given_gives nobody 0 (following.session c mirror turns) [] out stand follows

pub marked_is_full : (point : Option Point) → earliest_of (want_at point true) ≡ 0
marked_is_full None = refl
marked_is_full (Some point) = refl

pub marked_asks_for_all : MarkedAsksForAll
marked_asks_for_all c s marked = ap (λ (off : Bool). earliest_of (want_at s.notes.mirror.point off)) marked ∙ marked_is_full s.notes.mirror.point
