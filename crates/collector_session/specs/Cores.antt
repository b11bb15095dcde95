-- A core of a collector, and what its calls say: where it stood for a session, it stands for it
-- afterwards, with further turns and places.
use Rattle.std.specs.Prelude.{◌≡◌, ◌≢◌, ◌==◌, ◌<◌, ◌+◌, ◌*◌, ◌-◌, if◌then◌else◌, ℕ, true, List, [], ◌++◌, Option, Some, None, length, take}
use Rattle.wire_base.specs.Feeding.{More}
use Rattle.wire_base.specs.Turns.{Turn}
use Rattle.pb_batch.specs.Feeding.{Feed}
use Rattle.pb_batch.specs.Front.{front_of}
use Rattle.collector_core.specs.declared.chronicle.Mark.{Mark}
use Rattle.collector_core.specs.Chronicle.{Chronicle, extended}
use Rattle.collector_core.specs.Desks.{AreOthers, Rise, Within, behind, entries}
use Rattle.session_talk.specs.Course.{Gives, Breaks}
use Rattle.session_hear.specs.Hearing.{Hearing, Hears, heard, octets_in}
use Rattle.session_rules.specs.declared.end.SessionEnd.{SessionEnd}
use Rattle.session_rules.specs.declared.end.SessionEnd.TheVariants as end
use Rattle.session_rules.specs.declared.end.Turn.{Turn as Answer}
use Rattle.session_rules.specs.declared.end.Turn.TheVariants as turn
use Rattle.session_rules.specs.Numbers.{counted_on}
use Rattle.session_rules.specs.Questions.{at_places}
use Rattle.session_rules.specs.ServeRules.{session}
use Rattle.session_rules.specs.Serving.{nothing_noted}
use Rattle.collector_session.specs.declared.end.ServeEnd.{ServeEnd}
use Rattle.collector_session.specs.Doing.{IsReady}
use Rattle.collector_session.specs.Standing.{notes_of, stand_of}

-- A core: the collector, the feed of batches, and how many turns were idle since the last octet.
pub record Core : Type 0 where
  pub end : ServeEnd
  pub feed : Feed
  pub quiet : ℕ

-- How the session ended, if it has.
abbrev pub over : Core → Option SessionEnd
over core = core.end.standing.over

-- Where it stands between two turns.
abbrev pub hearing : Core → Hearing
hearing core = Hears core.feed.feeding.octets core.quiet core.end.standing.record.received

-- Of each core this is true.
pub record IsCore (core : Core) : Type 0 where
  pub server : core.feed.from_server ≡ true
  pub torn : front_of core.feed.from_server core.feed.feeding.octets ≡ More
  pub ready : over core ≡ None → IsReady core.end
  pub feeding : over core ≡ None → core.feed.feeding.stopped ≡ None
  pub room : over core ≡ None → core.end.standing.record.received < core.end.config.octets
  pub patient : over core ≡ None → core.quiet < core.end.config.idle
  pub taken : core.end.standing.record.taken ≡ []
  pub own : over core ≢ Some end.LinkFault

-- The most turns that a core may still take: after each octet that the limit leaves all idle turns
-- may follow that are allowed.
abbrev pub weight : Core → ℕ
weight core = (core.end.config.idle + 1) * (core.end.config.octets - core.end.standing.record.received) + (core.end.config.idle - core.quiet)

-- ---- sessions

-- At these places of the chronicle, in these turns, the session wrote what was carried and what
-- waits, and the collector stands as it does after them. `sent` and `received` count what was
-- carried and taken; `sent` stays at the last number of eight octets.
pub record Stood (chronicle : Chronicle) (places : List ℕ) (turns : List Turn) (carried : List ℕ) (core : Core) : Type 0 where
  pub within : Within (length chronicle.entries) places
  pub gives : Gives (at_places chronicle) (session core.end.config turns) places (carried ++ core.end.out) (stand_of core.end.standing)
  pub hears : over core ≡ None → (heard true core.end.config.octets turns).1 ≡ hearing core
  pub sent : core.end.standing.record.sent ≡ counted_on 0 (length carried)
  pub received : core.end.standing.record.received ≡ octets_in turns

-- The session broke off in these turns, since memory ran out.
pub record Fell (chronicle : Chronicle) (places : List ℕ) (turns : List Turn) (carried : List ℕ) (core : Core) : Type 0 where
  pub within : Within (length chronicle.entries) places
  pub breaks : Breaks (at_places chronicle) nothing_noted (session core.end.config turns) places (carried ++ core.end.out) (notes_of core.end.standing.record)
  pub sent : core.end.standing.record.sent ≡ counted_on 0 (length carried)
  pub received : core.end.standing.record.received ≡ octets_in turns

-- The one or the other, by how it ended.
abbrev pub StandsBy : Option SessionEnd → Chronicle → List ℕ → List Turn → List ℕ → Core → Type 0
StandsBy (Some end.Memory) chronicle places turns carried core = Fell chronicle places turns carried core
StandsBy over chronicle places turns carried core = Stood chronicle places turns carried core

abbrev pub Stands : Chronicle → List ℕ → List Turn → List ℕ → Core → Type 0
Stands chronicle places turns carried core = StandsBy (over core) chronicle places turns carried core

-- It stands for each session that has just begun.
abbrev pub Begins : Core → Type 0
Begins core = (chronicle : Chronicle) → Stood chronicle [] [] [] core

-- Where the one stood, the other stands after these turns, in which no desk was asked.
abbrev pub Turns : Core → List Turn → Core → Type 0
Turns before more after = (chronicle : Chronicle) (places : List ℕ) (turns : List Turn) (carried : List ℕ) → Stood chronicle places turns carried before
    → Stood chronicle places (turns ++ more) carried after

-- Where the one stands, the other does once the first of the octets that wait were carried too.
abbrev pub Carries : Core → ℕ → Core → Type 0
Carries before count after = (chronicle : Chronicle) (places : List ℕ) (turns : List Turn) (carried : List ℕ) → Stands chronicle places turns carried before
    → Stands chronicle places turns (carried ++ take count before.end.out) after

-- ---- calls

-- What a turn comes to.
abbrev pub turn_of : Option SessionEnd → Answer
turn_of None = turn.Goes
turn_of (Some by) = turn.Over by

-- How the session ends where the link has, with that many octets of a batch.
abbrev pub cut_end : ℕ → SessionEnd
cut_end have = if have == 0 then end.Ended else end.Torn have

-- What is used of a piece: no more than the limit leaves.
abbrev pub used : Core → List ℕ → List ℕ
used core piece = take (core.end.config.octets - core.end.standing.record.received) piece

-- A desk: it stands for chronicles, and between two of its states entries came.
module _ {D : Type 0} (stands : D → Chronicle → Type 0) (went : D → List Mark → D → Type 0) where
  -- From the one state of the desk to the other, entries of others came, and questions were asked
  -- at steps among them. Take a chronicle that the desk stood for, and a session that the core
  -- stood for at some places. Then this holds of the longer chronicle, with the places of the steps
  -- and these turns after the others.
  pub record Grows (old new : D) (before : Core) (more : List Turn) (after : Chronicle → List ℕ → List Turn → List ℕ → Type 0) : Type 0 where
    pub others : List Mark
    pub theirs : AreOthers others
    pub grows : went old others new
    pub steps : List ℕ
    pub rise : Rise 0 (length others) steps
    pub holds : (chronicle : Chronicle) (places : List ℕ) (turns : List Turn) (carried : List ℕ) → stands old chronicle → Stood chronicle places turns carried before
        → after (extended chronicle (entries others)) (places ++ behind chronicle steps) (turns ++ more) carried

  -- Where it stood, it stands after these turns.
  abbrev pub Turned : D → D → Core → List Turn → Core → Type 0
  Turned old new before more after = Grows old new before more (λ chronicle places turns carried. Stands chronicle places turns carried after)
