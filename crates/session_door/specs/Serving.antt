-- A worker that serves: whole sessions of a collector, one after another, over what one pass sees.
-- Each is a session over the one history: over all entries that anybody saw in the end.
use Rattle.std.specs.Prelude.{◌<◌, ◌≤◌, ◌+◌, ℕ, List, [], ◌∷◌, ◌++◌, Option, length}
use Rattle.wire_base.specs.Outside.{Adds}
use Rattle.wire_base.specs.Turns.{Turn}
use Rattle.collector_core.specs.declared.chronicle.Entry.{Entry}
use Rattle.collector_core.specs.declared.chronicle.Mark.{Mark}
use Rattle.collector_core.specs.Chronicle.{Chronicle, extended}
use Rattle.collector_core.specs.Desks.{AreOthers, Rise, entries}
use Rattle.book_lock.specs.Passes.{PassStands, PassView, PassWent}
use Rattle.session_rules.specs.declared.config.ServeConfig.{ServeConfig}
use Rattle.session_rules.specs.declared.end.SessionEnd.{SessionEnd}
use Rattle.session_rules.specs.declared.record.SessionRecord.{SessionRecord}
use Rattle.session_core.specs.Served.{Served, ServedAt}
use Rattle.session_door.specs.declared.work.Work.{Work}
use Rattle.session_door.specs.Visits.{DoorState, Visit, Works}

-- The numbers of a configuration are within their limits.
abbrev pub IsWithin : ServeConfig → Type 0
IsWithin c = (c.max ≤ 16000000) × (0 < c.idle) × (0 < c.octets)

-- A session was served on a link, over what a pass sees: of any links, which may expose their turns
-- and what they were given.
abbrev pub ServedOn : {L : Type 0} → (L → Option (List Turn)) → (L → Option (List ℕ)) → ServeConfig → PassView → PassView → L → L → SessionRecord → SessionEnd → Type 0
ServedOn taken given c before after came went noted by = Served PassStands PassWent c before after (taken came) (taken went) (given came) (given went) noted by

-- Of any links, which may expose their turns and what they were given.
module _ {L : Type 0} (taken : L → Option (List Turn)) (given : L → Option (List ℕ)) where
  -- The session on a link is that of the chronicle at these places. They never fall, and lie
  -- between two places, of which the second is not before the first.
  pub record ServedOver (chronicle : Chronicle) (c : ServeConfig) (low high : ℕ) (visit : Visit L) : Type 0 where
    pub forward : low ≤ high
    pub places : List ℕ
    pub rise : Rise low high places
    pub turns : List Turn
    pub octets : List ℕ
    pub took : Adds (taken visit.came) (taken visit.went) turns
    pub gave : Adds (given visit.came) (given visit.went) octets
    pub served : ServedAt chronicle c turns places octets visit.noted.0 visit.noted.1

  -- So one after another: no place of a later session is before one of an earlier session.
  abbrev pub EachOver : Chronicle → ServeConfig → ℕ → ℕ → List (Visit L) → Type 0
  EachOver chronicle c low high [] = low ≤ high
  EachOver chronicle c low high (visit ∷ later) = (middle : ℕ) × ServedOver chronicle c low middle visit × EachOver chronicle c middle high later

  -- From a pass to what it was later, entries of others came. Over each chronicle that it stood
  -- for, with these and any further entries after it, the sessions are those of this chronicle, at
  -- places among the entries that the pass saw.
  pub record SessionsOver (c : ServeConfig) (before after : PassView) (visits : List (Visit L)) : Type 0 where
    pub others : List Mark
    pub theirs : AreOthers others
    pub went : PassWent before others after
    pub each : (chronicle : Chronicle) (further : List Entry) → PassStands before chronicle
        → EachOver (extended chronicle (entries others ++ further)) c (length chronicle.entries) (length chronicle.entries + length others) visits

  -- A worker served links of its door, over what its pass sees, up to that many sessions.
  pub record Serves (faults : L → ℕ) (c : ServeConfig) (sessions : ℕ) (before : PassView) (door : DoorState L) (after : PassView) (later : DoorState L) (work : Work) : Type 0 where
    pub works : Works (ServedOn taken given c) faults sessions before door after later work
    pub over : SessionsOver c before after works.visits
