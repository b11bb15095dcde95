-- A validator's end of a session as a core: where it stood, it stands.
use Rattle.std.specs.Prelude.{◌≡◌, ◌<◌, ◌⊎◌, ◌+◌, ◌*◌, ℕ, Bool, true, false, List, [], ◌++◌, Option, Some, None, is_some, length, min, ◌-◌, ◌^◌}
use Rattle.wire_base.specs.Feeding.{More}
use Rattle.wire_base.specs.Turns.{Turn}
use Rattle.pb_batch.specs.Front.{front_of}
use Rattle.validator_core.specs.Held.{Held}
use Rattle.session_talk.specs.Course.{Answers, Gives, Breaks}
use Rattle.session_hear.specs.Hearing.{Hears, heard, octets_in}
use Rattle.session_rules.specs.declared.config.FollowConfig.{FollowConfig}
use Rattle.session_rules.specs.declared.end.SessionEnd.{SessionEnd}
use Rattle.session_rules.specs.declared.end.SessionEnd.TheVariants as end
use Rattle.session_rules.specs.declared.end.Turn.{Turn as Comes}
use Rattle.session_rules.specs.declared.end.Turn.TheVariants as comes
use Rattle.session_rules.specs.Following.{nothing_noted}
use Rattle.session_rules.specs.FollowRules.{session}
use Rattle.session_rules.specs.Taking.{NoQuestion, NoReply}
use Rattle.validator_session.specs.declared.inner.Inner.{Inner as Core}
use Rattle.validator_session.specs.declared.standing.Standing.{Standing}
use Rattle.validator_session.specs.Noting.{IsNoted}
use Rattle.validator_session.specs.Ready.{CanGoOn}
use Rattle.validator_session.specs.Standing.{notes_of, stand_of}

abbrev pub received_of : Core → ℕ
received_of core = core.end.standing.notes.record.received

abbrev pub over_of : Core → Option SessionEnd
over_of core = core.end.standing.over

-- The session is not over: it can take the next turn.
pub record IsLive (core : Core) : Type 0 where
  pub feeding : core.feed.feeding.stopped ≡ None
  pub room : received_of core < core.end.config.octets
  pub calm : core.quiet < core.end.config.idle
  pub ready : CanGoOn core.end.standing core.end.config.rounds

pub record IsCore (core : Core) : Type 0 where
  pub client : core.feed.from_server ≡ false
  pub torn : front_of core.feed.from_server core.feed.feeding.octets ≡ More
  pub noted : IsNoted core.end.standing.notes
  pub live : is_some (over_of core) ≡ false → IsLive core

-- What a turn came to.
abbrev pub turn_of : Option SessionEnd → Comes
turn_of None = comes.Goes
turn_of (Some end) = comes.Over end

-- The last octet that the limit allows ends a session that is not over.
abbrev pub spends_by : Standing → Option SessionEnd → Standing
spends_by s None = record s { over = Some end.Enough }
spends_by s (Some by) = s

abbrev pub spends : Standing → Bool → Standing
spends s true = spends_by s s.over
spends s false = s

-- A count of octets, which stands still at its last value.
abbrev pub counted_octets : List ℕ → ℕ
counted_octets octets = min (length octets) (2 ^ 64 - 1)

-- The core stands where the session with this mirror is after these turns. The octets that were
-- carried away, and after them those that wait, are those of the session. The standing and the
-- mirror are those of the session too.
pub record Stood (c : FollowConfig) (mirror : Held) (turns : List Turn) (carried : List ℕ) (core : Core) (now : Held) : Type 0 where
  pub gives : (replies : Answers NoQuestion NoReply) → Gives replies (session c mirror turns) [] (carried ++ core.end.out) (stand_of core.end.standing now)
  pub hears : is_some (over_of core) ≡ false → (heard false c.octets turns).1 ≡ Hears core.feed.feeding.octets core.quiet (received_of core)
  pub sent : core.end.standing.notes.record.sent ≡ counted_octets carried
  pub received : received_of core ≡ octets_in turns

-- Memory ran out on the way: the octets are a prefix of those of the session, and what is noted is
-- what was noted there.
pub record Fell (c : FollowConfig) (mirror : Held) (turns : List Turn) (carried : List ℕ) (core : Core) (now : Held) : Type 0 where
  pub over : over_of core ≡ Some end.Memory
  pub breaks : (replies : Answers NoQuestion NoReply) → Breaks replies (nothing_noted mirror) (session c mirror turns) [] (carried ++ core.end.out) (notes_of core.end.standing.notes now)
  pub sent : core.end.standing.notes.record.sent ≡ counted_octets carried
  pub received : received_of core ≡ octets_in turns

-- Wherever it stood, it stands after further turns.
abbrev pub StandsOn : Core → Held → List Turn → Core → Held → Type 0
StandsOn old before more new after = (mirror : Held) (turns : List Turn) (carried : List ℕ) → Stood old.end.config mirror turns carried old before
    → Stood old.end.config mirror (turns ++ more) carried new after

-- Wherever it stood, it stands after further turns, or memory ran out.
abbrev pub Turned : Core → Held → List Turn → Core → Held → Type 0
Turned old before more new after = (mirror : Held) (turns : List Turn) (carried : List ℕ) → Stood old.end.config mirror turns carried old before
    → Stood old.end.config mirror (turns ++ more) carried new after ⊎ Fell old.end.config mirror (turns ++ more) carried new after

-- After the session a call answers how it ended, and changes nothing.
abbrev pub Rests : Core → Held → Comes → Core → Held → Type 0
Rests old before answer new after = (by : SessionEnd) → over_of old ≡ Some by → (answer ≡ comes.Over by) × (new ≡ old) × (after ≡ before)

-- The most turns that a core may still take: after each octet that the limit leaves all idle turns
-- may follow that are allowed.
abbrev pub weight : Core → ℕ
weight core = (core.end.config.idle + 1) * (core.end.config.octets - received_of core) + (core.end.config.idle - core.quiet)
