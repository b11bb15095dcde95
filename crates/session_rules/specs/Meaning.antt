-- What the transcripts mean, as laws over all sessions.
use Rattle.std.specs.Prelude.{◌≡◌, ◌<◌, ℕ, true, List, [], None, length}
use Rattle.wire_base.specs.Turns.{Turn}
use Rattle.validator_core.specs.Held.{Held}
use Rattle.collector_core.specs.declared.chronicle.Entry.{Entry}
use Rattle.collector_core.specs.Chronicle.{Chronicle, extended}
use Rattle.collector_core.specs.Desks.{Within}
use Rattle.session_talk.specs.Course.{Continues}
use Rattle.session_rules.specs.declared.config.FollowConfig.{FollowConfig}
use Rattle.session_rules.specs.declared.config.ServeConfig.{ServeConfig}
use Rattle.session_rules.specs.Questions.{at_places}
use Rattle.session_rules.specs.ServeRules as serving
use Rattle.session_rules.specs.Serving.{Notes, Stand}
use Rattle.session_rules.specs.Following.{Notes as FollowNotes, Stand as FollowStand}
use Rattle.session_rules.specs.FollowRules as following
use Rattle.session_hear.specs.Hearing.{octets_in}
use Rattle.session_rules.specs.Transcripts.{Serves, ServesInPart, serve_end, served, served_places, Follows, FollowsInPart, follow_end, followed, nobody}

-- At the same places a collector writes the same octets, and stands the same.
abbrev pub OneOutcome : Type 0
OneOutcome = (chronicle : Chronicle) (c : ServeConfig) (turns : List Turn) (places out others : List ℕ) (one other : Stand)
    → Serves chronicle c turns places out one → Serves chronicle c turns places others other → (out ≡ others) × (one ≡ other)

-- Entries after its places change nothing.
abbrev pub LaterEntriesChangeNothing : Type 0
LaterEntriesChangeNothing = (chronicle : Chronicle) (later : List Entry) (c : ServeConfig) (turns : List Turn) (places out : List ℕ) (stand : Stand)
    → Within (length chronicle.entries) places → Serves chronicle c turns places out stand → Serves (extended chronicle later) c turns places out stand

-- The transcripts as functions are the transcripts.
abbrev pub ServedIsSo : Type 0
ServedIsSo = (chronicle : Chronicle) (c : ServeConfig) (turns : List Turn) (places out : List ℕ) (stand : Stand)
    → Serves chronicle c turns places out stand → served chronicle c turns places ≡ (out, stand)

abbrev pub FollowedIsSo : Type 0
FollowedIsSo = (mirror : Held) (c : FollowConfig) (turns : List Turn) (out : List ℕ) (stand : FollowStand)
    → Follows mirror c turns out stand → followed mirror c turns ≡ (out, stand)

-- What the functions give is a session: there is one for every chronicle, mirror and turns.
abbrev pub ServedIsASession : Type 0
ServedIsASession = (chronicle : Chronicle) (c : ServeConfig) (turns : List Turn) (places : List ℕ)
    → Serves chronicle c turns (served_places chronicle c turns places) (served chronicle c turns places).0 (served chronicle c turns places).1

abbrev pub FollowedIsASession : Type 0
FollowedIsASession = (mirror : Held) (c : FollowConfig) (turns : List Turn) → Follows mirror c turns (followed mirror c turns).0 (followed mirror c turns).1

-- Entries after its places change nothing of a session that broke off, since memory ran out.
abbrev pub LaterEntriesChangeNoPart : Type 0
LaterEntriesChangeNoPart = (chronicle : Chronicle) (later : List Entry) (c : ServeConfig) (turns : List Turn) (places out : List ℕ) (notes : Notes)
    → Within (length chronicle.entries) places → ServesInPart chronicle c turns places out notes → ServesInPart (extended chronicle later) c turns places out notes

-- Such a session is the beginning of one that goes to its end: its octets and its desk calls come
-- first.
abbrev pub ServedPartContinues : Type 0
ServedPartContinues = (chronicle : Chronicle) (c : ServeConfig) (turns : List Turn) (places out : List ℕ) (notes : Notes)
    → ServesInPart chronicle c turns places out notes → Continues (at_places chronicle) (serving.session c turns) places out

abbrev pub FollowedPartContinues : Type 0
FollowedPartContinues = (mirror : Held) (c : FollowConfig) (turns : List Turn) (out : List ℕ) (notes : FollowNotes)
    → FollowsInPart mirror c turns out notes → Continues nobody (following.session c mirror turns) [] out

-- While the mark of its mirror is set, each request of a validator is for the inventory.
abbrev pub MarkedAsksForAll : Type 0
MarkedAsksForAll = (c : FollowConfig) (s : FollowStand) → s.notes.mirror.off ≡ true → (following.next_request c s).earliest ≡ 0

-- A session that is not over has taken fewer octets than its limit allows.
pub record SessionsTakeAtMost : Type 0 where
  pub serves : (chronicle : Chronicle) (c : ServeConfig) (turns : List Turn) (places : List ℕ) → 0 < c.octets
      → serve_end (served chronicle c turns places) ≡ None → octets_in turns < c.octets
  pub follows : (mirror : Held) (c : FollowConfig) (turns : List Turn) → 0 < c.octets
      → follow_end (followed mirror c turns) ≡ None → octets_in turns < c.octets
