-- A whole session of a validator over a link.
use Rattle.std.specs.Prelude.{◌≡◌, ℕ, List, [], ◌++◌, Option, Some, length, map}
use Rattle.wire_base.specs.Outside.{Adds}
use Rattle.wire_base.specs.Turns.{Turn}
use Rattle.swima_model.specs.History.{History, IsHonest}
use Rattle.validator_core.specs.Held.{Held}
use Rattle.validator_core.specs.Right.{IsRight}
use Rattle.session_talk.specs.Keeping.{NotesAre}
use Rattle.session_hear.specs.Hearing.{octets_in}
use Rattle.session_rules.specs.declared.config.FollowConfig.{FollowConfig}
use Rattle.session_rules.specs.declared.end.SessionEnd.{SessionEnd}
use Rattle.session_rules.specs.declared.end.SessionEnd.TheVariants as end
use Rattle.session_rules.specs.declared.record.SessionRecord.{SessionRecord}
use Rattle.session_rules.specs.AnySession.{NotesAnswer}
use Rattle.session_rules.specs.Following.{Notes, Stand, TakenReport}
use Rattle.session_rules.specs.FollowRules.{session}
use Rattle.session_rules.specs.Numbers.{counted_on}
use Rattle.session_rules.specs.Transcripts.{Follows, FollowsInPart, nobody}

-- The record of a session in which these turns were taken and these octets were given. `sent` stays
-- at the last number of eight octets.
abbrev pub followed_record : List Turn → List ℕ → Notes → SessionRecord
followed_record turns octets notes = record {
  points = [];
  taken = map (λ (one : TakenReport). one.answer) notes.taken_reports;
  errors = notes.errors;
  reports = notes.reports;
  sent = counted_on 0 (length octets);
  received = octets_in turns;
}

-- The session ended so: all of its octets were given. The mirror has judged the reports that it
-- heard.
pub record Ended (mirror : Held) (c : FollowConfig) (turns : List Turn) (octets : List ℕ) (after : Held) (kept : SessionRecord) (by : SessionEnd) : Type 0 where
  pub stand : Stand
  pub follows : Follows mirror c turns octets stand
  pub over : stand.over ≡ Some by
  pub judged : after ≡ stand.notes.mirror
  pub noted : kept ≡ followed_record turns octets stand.notes

-- A call of the link failed: a prefix of its octets was given.
pub record Failed (mirror : Held) (c : FollowConfig) (turns : List Turn) (octets : List ℕ) (after : Held) (kept : SessionRecord) : Type 0 where
  pub rest : List ℕ
  pub stand : Stand
  pub follows : Follows mirror c turns (octets ++ rest) stand
  pub judged : after ≡ stand.notes.mirror
  pub noted : kept ≡ followed_record turns octets stand.notes

-- Memory ran out, and the session broke off there: a prefix of its octets up to there was given.
pub record Broke (mirror : Held) (c : FollowConfig) (turns : List Turn) (octets : List ℕ) (after : Held) (kept : SessionRecord) : Type 0 where
  pub rest : List ℕ
  pub notes : Notes
  pub follows : FollowsInPart mirror c turns (octets ++ rest) notes
  pub judged : after ≡ notes.mirror
  pub noted : kept ≡ followed_record turns octets notes

-- By how it ended.
abbrev pub FollowedAs : Held → FollowConfig → List Turn → List ℕ → Held → SessionRecord → SessionEnd → Type 0
FollowedAs mirror c turns octets after kept end.Memory = Broke mirror c turns octets after kept
FollowedAs mirror c turns octets after kept end.LinkFault = Failed mirror c turns octets after kept
FollowedAs mirror c turns octets after kept by = Ended mirror c turns octets after kept by

-- The link gave these turns and was given these octets, where it exposes them, and the session is
-- that of the turns. A mirror that was right stays right, where each report that it took in its
-- kind answers from the history.
pub record Followed (c : FollowConfig) (before after : Held) (taken taken-after : Option (List Turn)) (given given-after : Option (List ℕ)) (kept : SessionRecord) (by : SessionEnd) : Type 0 where
  pub turns : List Turn
  pub octets : List ℕ
  pub took : Adds taken taken-after turns
  pub gave : Adds given given-after octets
  pub follows : FollowedAs before c turns octets after kept by
  pub right : (history : History) → IsHonest history → IsRight history before → NotesAre nobody (NotesAnswer history before.kind) (session c before turns) [] → IsRight history after
