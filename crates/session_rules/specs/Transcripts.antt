-- The transcripts of both ends: octets, record and end of a session as functions of the turns of
-- its link. Two ends come of no turns, a fault of the link and running out of memory.
use Rattle.std.specs.Prelude.{ℕ, List, [], Option, length, map}
use Rattle.wire_base.specs.Turns.{Turn}
use Rattle.validator_core.specs.Held.{Held}
use Rattle.collector_core.specs.Chronicle.{Chronicle}
use Rattle.session_talk.specs.Course.{Answers, Gives, Breaks}
use Rattle.session_talk.specs.Given.{given, placed}
use Rattle.session_hear.specs.Hearing.{octets_in}
use Rattle.session_rules.specs.declared.config.FollowConfig.{FollowConfig}
use Rattle.session_rules.specs.declared.config.ServeConfig.{ServeConfig}
use Rattle.session_rules.specs.declared.end.SessionEnd.{SessionEnd}
use Rattle.session_rules.specs.declared.record.SessionRecord.{SessionRecord}
use Rattle.session_rules.specs.Questions.{at_places}
use Rattle.session_rules.specs.Serving.{Notes as ServeNotes, Stand as ServeStand, nothing_noted as nothing_served}
use Rattle.session_rules.specs.ServeRules as serving
use Rattle.session_rules.specs.Following.{TakenReport, Notes as FollowNotes, Stand as FollowStand, nothing_noted as nothing_followed}
use Rattle.session_rules.specs.Taking.{NoQuestion, NoReply}
use Rattle.session_rules.specs.FollowRules as following

-- ---- a collector

-- A session over a chronicle: its desk calls, each at a place, its octets, and how it stands then.
abbrev pub Serves : Chronicle → ServeConfig → List Turn → List ℕ → List ℕ → ServeStand → Type 0
Serves chronicle c turns places octets stand = Gives (at_places chronicle) (serving.session c turns) places octets stand

-- The same as a function, where calls after those at the places are answered at the whole
-- chronicle.
abbrev pub served : Chronicle → ServeConfig → List Turn → List ℕ → List ℕ × ServeStand
served chronicle c turns places = given (at_places chronicle) (length chronicle.entries) (serving.session c turns) places

abbrev pub served_places : Chronicle → ServeConfig → List Turn → List ℕ → List ℕ
served_places chronicle c turns places = placed (at_places chronicle) (length chronicle.entries) (serving.session c turns) places

-- A session that broke off, since memory ran out: its desk calls, its octets, and what is noted.
abbrev pub ServesInPart : Chronicle → ServeConfig → List Turn → List ℕ → List ℕ → ServeNotes → Type 0
ServesInPart chronicle c turns places octets notes = Breaks (at_places chronicle) nothing_served (serving.session c turns) places octets notes

-- Its record, and how it ended, if it has.
abbrev pub serve_record : List Turn → List ℕ × ServeStand → SessionRecord
serve_record turns session = record {
  points = session.1.notes.points;
  taken = [];
  errors = session.1.notes.errors;
  reports = session.1.notes.reports;
  sent = length session.0;
  received = octets_in turns;
}

abbrev pub serve_end : List ℕ × ServeStand → Option SessionEnd
serve_end session = session.1.over

-- ---- a validator

-- Nobody is asked.
abbrev pub nobody : Answers NoQuestion NoReply
nobody place question = tt

-- A session with a mirror: its octets, and how it stands then.
abbrev pub Follows : Held → FollowConfig → List Turn → List ℕ → FollowStand → Type 0
Follows mirror c turns octets stand = Gives nobody (following.session c mirror turns) [] octets stand

abbrev pub followed : Held → FollowConfig → List Turn → List ℕ × FollowStand
followed mirror c turns = given nobody 0 (following.session c mirror turns) []

-- A session that broke off, since memory ran out: its octets, and what is noted.
abbrev pub FollowsInPart : Held → FollowConfig → List Turn → List ℕ → FollowNotes → Type 0
FollowsInPart mirror c turns octets notes = Breaks nobody (nothing_followed mirror) (following.session c mirror turns) [] octets notes

-- The mirror then, its record, and how it ended, if it has.
abbrev pub follow_mirror : List ℕ × FollowStand → Held
follow_mirror session = session.1.notes.mirror

abbrev pub follow_record : List Turn → List ℕ × FollowStand → SessionRecord
follow_record turns session = record {
  points = [];
  taken = map (λ (one : TakenReport). one.answer) session.1.notes.taken_reports;
  errors = session.1.notes.errors;
  reports = session.1.notes.reports;
  sent = length session.0;
  received = octets_in turns;
}

abbrev pub follow_end : List ℕ × FollowStand → Option SessionEnd
follow_end session = session.1.over
