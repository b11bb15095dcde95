-- Links that a door gave, one after another: a session was held on each, and it went back before
-- the next one came.
use Rattle.std.specs.Prelude.{◌≡◌, ◌<◌, ◌||◌, ◌++◌, ℕ, zero, suc, Bool, true, false, List, [], ◌∷◌, Option, Result, Ok, Err, length, map, nat_lt}
use Rattle.std.specs.List.{list_any}
use Rattle.std.specs.Option.{option_map}
use Rattle.wire_base.specs.Doors.{LastCame, LinkCame, NoMoreCame, FaultCame}
use Rattle.wire_base.specs.Outside.{Adds, HasCause, Moves, NothingLeft}
use Rattle.session_rules.specs.declared.end.SessionEnd.{SessionEnd}
use Rattle.session_rules.specs.declared.record.SessionRecord.{SessionRecord}
use Rattle.session_core.specs.Driving.{is_link_fault}
use Rattle.session_door.specs.declared.work.Stop.{Stop}
use Rattle.session_door.specs.declared.work.Stop.TheVariants as stop
use Rattle.session_door.specs.declared.work.Work.{Work}

-- What is noted of a session, and how it ended.
abbrev pub Noted : Type 0
Noted = SessionRecord × SessionEnd

-- A link as it came and as it went back, and what is noted of the session on it.
pub record Visit (L : Type 0) : Type 0 where
  pub came : L
  pub went : L
  pub noted : Noted

abbrev pub links_came : {L : Type 0} → List (Visit L) → List L
links_came {L} visits = map (λ (visit : Visit L). visit.came) visits

abbrev pub links_went : {L : Type 0} → List (Visit L) → List L
links_went {L} visits = map (λ (visit : Visit L). visit.went) visits

abbrev pub all_noted : {L : Type 0} → List (Visit L) → List Noted
all_noted {L} visits = map (λ (visit : Visit L). visit.noted) visits

-- One of these sessions ended by a fault of its link.
abbrev pub some_fault : List Noted → Bool
some_fault ends = list_any (λ (noted : Noted). is_link_fault noted.1) ends

-- ---- a door

-- What a door exposes, and its count of faults.
pub record DoorState (L : Type 0) : Type 0 where
  pub left : Option (List L)
  pub returned : Option (List L)
  pub last : Option LastCame
  pub faults : ℕ

abbrev pub door_state : {D L : Type 0} → (D → Option (List L)) → (D → Option (List L)) → (D → Option LastCame) → (D → ℕ) → D → DoorState L
door_state left returned last faults door = record { left = left door; returned = returned door; last = last door; faults = faults door }

-- It failed.
abbrev pub is_failed : Stop → Bool
is_failed stop.Failed = true
is_failed stop.Done = false
is_failed stop.Ended = false
is_failed stop.Memory = false

-- What the last call of `next` answered after that many links came, if that was a link.
abbrev pub last_after : ℕ → LastCame → LastCame
last_after zero before = before
last_after (suc count) before = LinkCame

-- Why no further link was taken after that many sessions:
--   Done    all were held, and the door's last answer is a link
--   Ended   fewer were held; its last answer is that there is none, and none is left
--   Failed  fewer were held; its last answer is that it failed
--   Memory  fewer were held; it was not asked for another
abbrev pub Stops : {L : Type 0} → ℕ → ℕ → Stop → DoorState L → DoorState L → Type 0
Stops sessions count stop.Done before after = (count ≡ sessions) × (after.last ≡ option_map (λ _. LinkCame) before.last)
Stops sessions count stop.Ended before after = (count < sessions) × (after.last ≡ option_map (λ _. NoMoreCame) before.last) × NothingLeft after.left
Stops sessions count stop.Failed before after = (count < sessions) × (after.last ≡ option_map (λ _. FaultCame) before.last)
Stops sessions count stop.Memory before after = (count < sessions) × (after.last ≡ option_map (last_after count) before.last)

-- ---- sessions

-- Of any sessions, from one state of what they ask or change to the next, and of any links.
module _ {O L : Type 0} (held : O → O → L → L → SessionRecord → SessionEnd → Type 0) (faults : L → ℕ) where
  -- A session was held on a link without a fault. It ended by a fault of the link exactly where the
  -- link has a fault now.
  pub record VisitsOne (before after : O) (visit : Visit L) : Type 0 where
    pub session : held before after visit.came visit.went visit.noted.0 visit.noted.1
    pub fresh : faults visit.came ≡ 0
    pub cause : is_link_fault visit.noted.1 ≡ nat_lt 0 (faults visit.went)

  -- Sessions were held, one after another.
  abbrev pub VisitsEach : O → List (Visit L) → O → Type 0
  VisitsEach before [] after = after ≡ before
  VisitsEach before (visit ∷ later) after = (middle : O) × VisitsOne before middle visit × VisitsEach middle later after

  -- A worker held sessions on links of its door, up to that many. The links that came are the first
  -- of those that were left; they went back in this order. The count of the door rose exactly where
  -- it failed or a link has a fault.
  pub record Works (sessions : ℕ) (before : O) (door : DoorState L) (after : O) (later : DoorState L) (work : Work) : Type 0 where
    pub visits : List (Visit L)
    pub each : VisitsEach before visits after
    pub ends : work.ends ≡ all_noted visits
    pub came : Moves door.left later.left (links_came visits)
    pub went : Adds door.returned later.returned (links_went visits)
    pub stops : Stops sessions (length visits) work.stop door later
    pub cause : HasCause door.faults later.faults (is_failed work.stop || some_fault work.ends)

  -- One link of a door was visited.
  pub record VisitsLink (before : O) (door : DoorState L) (after : O) (later : DoorState L) (noted : Noted) : Type 0 where
    pub visit : Visit L
    pub one : VisitsOne before after visit
    pub is : noted ≡ visit.noted
    pub came : Moves door.left later.left (visit.came ∷ [])
    pub went : Adds door.returned later.returned (visit.went ∷ [])
    pub last : later.last ≡ option_map (λ _. LinkCame) door.last
    pub cause : HasCause door.faults later.faults (is_link_fault noted.1)

  -- The next link was visited, or none came.
  abbrev pub VisitsNext : O → DoorState L → O → DoorState L → Result Noted Stop → Type 0
  VisitsNext before door after later (Ok noted) = VisitsLink before door after later noted
  VisitsNext before door after later (Err stop.Ended) = (after ≡ before) × (later.left ≡ door.left) × NothingLeft door.left × (later.returned ≡ door.returned)
      × (later.last ≡ option_map (λ _. NoMoreCame) door.last) × (later.faults ≡ door.faults)
  VisitsNext before door after later (Err stop.Failed) = (after ≡ before) × (later.left ≡ door.left) × (later.returned ≡ door.returned)
      × (later.last ≡ option_map (λ _. FaultCame) door.last) × HasCause door.faults later.faults true
  VisitsNext before door after later (Err other) = ⊥

  -- The next link was visited, and what is noted of it comes after the others. Or none came. Or
  -- there was no room for what is noted, and the door was not asked.
  abbrev pub Notes : O → DoorState L → List Noted → O → DoorState L → List Noted → Result Unit Stop → Type 0
  Notes before door ends after later longer (Ok done) = (noted : Noted) × VisitsLink before door after later noted × (longer ≡ ends ++ noted ∷ [])
  Notes before door ends after later longer (Err stop.Memory) = (after ≡ before) × (later ≡ door) × (longer ≡ ends)
  Notes before door ends after later longer (Err why) = VisitsNext before door after later (Err why) × (longer ≡ ends)
