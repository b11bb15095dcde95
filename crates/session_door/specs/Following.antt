-- A worker that follows: whole sessions of a validator, one after another, with one mirror.
use Rattle.std.specs.Prelude.{◌<◌, ℕ, List, [], ◌∷◌, Option}
use Rattle.wire_base.specs.Turns.{Turn}
use Rattle.swima_model.specs.History.{History, IsHonest}
use Rattle.validator_core.specs.Held.{Held}
use Rattle.validator_core.specs.Right.{IsRight}
use Rattle.session_talk.specs.Keeping.{NotesAre}
use Rattle.session_rules.specs.declared.config.FollowConfig.{FollowConfig}
use Rattle.session_rules.specs.declared.end.SessionEnd.{SessionEnd}
use Rattle.session_rules.specs.declared.record.SessionRecord.{SessionRecord}
use Rattle.session_rules.specs.AnySession.{NotesAnswer}
use Rattle.session_rules.specs.FollowRules.{session}
use Rattle.session_rules.specs.Transcripts.{nobody}
use Rattle.session_core.specs.Followed.{Followed}
use Rattle.session_door.specs.declared.work.Work.{Work}
use Rattle.session_door.specs.Visits.{DoorState, Visit, VisitsEach, Works}

-- The numbers of a configuration are within their limits.
abbrev pub IsWithin : FollowConfig → Type 0
IsWithin c = (0 < c.rounds) × (0 < c.idle) × (0 < c.octets)

-- A session was followed on a link with a mirror: of any links, which may expose their turns and
-- what they were given.
abbrev pub FollowedOn : {L : Type 0} → (L → Option (List Turn)) → (L → Option (List ℕ)) → FollowConfig → Held → Held → L → L → SessionRecord → SessionEnd → Type 0
FollowedOn taken given c before after came went noted by = Followed c before after (taken came) (taken went) (given came) (given went) noted by

-- Of any links, which may expose their turns and what they were given.
module _ {L : Type 0} (taken : L → Option (List Turn)) (given : L → Option (List ℕ)) (faults : L → ℕ) (c : FollowConfig) where
  -- Each report that the mirror took in its kind, in sessions one after another, answers from the
  -- history.
  abbrev pub EachAnswers : History → (before : Held) (visits : List (Visit L)) (after : Held) → VisitsEach (FollowedOn taken given c) faults before visits after → Type 0
  EachAnswers history before [] after each = Unit {0}
  EachAnswers history before (visit ∷ later) after each =
      NotesAre nobody (NotesAnswer history before.kind) (session c before each.1.session.turns) [] × EachAnswers history each.0 later after each.2

  -- A worker followed links of its door with a mirror, up to that many sessions. A mirror that was
  -- right over an honest history stays right, where each report that it took answers from it.
  pub record FollowsLinks (sessions : ℕ) (before : Held) (door : DoorState L) (after : Held) (later : DoorState L) (work : Work) : Type 0 where
    pub works : Works (FollowedOn taken given c) faults sessions before door after later work
    pub right : (history : History) → IsHonest history → IsRight history before → EachAnswers history before works.visits after works.each → IsRight history after
