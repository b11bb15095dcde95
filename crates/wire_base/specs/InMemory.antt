-- What the memory forms of the outside hold, as contracts see it.
use Rattle.std.specs.Prelude.{◌≡◌, ◌==◌, ◌+◌, ◌<◌, ◌≤◌, ℕ, Bool, List, [], ◌∷◌, Some, length, min, take}
use Rattle.std.specs.List.{list_any}
use Rattle.wire_base.specs.Counter.{next}
use Rattle.wire_base.specs.Doors.{LastCame, NotAsked, LinkCame, NoMoreCame, FaultCame}
use Rattle.wire_base.specs.Turns.{Turn, Octet, Idle, Ended, Passes, turns_of}
use Rattle.wire_base.specs.declared.outside.link.Took.{Took}
use Rattle.wire_base.specs.declared.outside.link.Took.TheVariants as took
use Rattle.wire_base.specs.declared.outside.mem_door.LastAnswer.{LastAnswer}
use Rattle.wire_base.specs.declared.outside.mem_door.LastAnswer.TheVariants as last
use Rattle.wire_base.specs.declared.outside.no_fault_link.LinkTurn.{LinkTurn}
use Rattle.wire_base.specs.declared.outside.no_fault_link.LinkTurn.TheVariants as held
use Rattle.wire_base.specs.declared.outside.files.NamedFile.{NamedFile}

-- A source in memory: the octets that are left, how many calls were made, which calls fail (the
-- first has the number 1) and how many did.
pub record SourceInMemory : Type 0 where
  pub left : List ℕ
  pub made : ℕ
  pub failing : List ℕ
  pub faults : ℕ

-- A sink in memory: the octets that it took, how many more it has room for, and its calls as a
-- source has them.
pub record SinkInMemory : Type 0 where
  pub written : List ℕ
  pub room : ℕ
  pub made : ℕ
  pub failing : List ℕ
  pub faults : ℕ

-- Files in memory, and their calls as a source has them.
pub record FilesInMemory : Type 0 where
  pub files : List NamedFile
  pub made : ℕ
  pub failing : List ℕ
  pub faults : ℕ

-- The call after `made` calls is one that fails.
abbrev pub next_fails : ℕ → List ℕ → Bool
next_fails made failing = list_any (λ number. number == next made) failing

-- ---- links

-- The turns in memory of a link that does not fail: those taken, except ends, and those left; how
-- many octets one call moves at most; and how many calls were idle turns.
pub record TurnsInMemory : Type 0 where
  pub taken : List Turn
  pub left : List Turn
  pub most : ℕ
  pub idles : ℕ

-- A link in memory: its turns, now with the ends; the octets that it was given, how many more it
-- has room for, and its calls as a source has them.
pub record LinkInMemory : Type 0 where
  pub taken : List Turn
  pub left : List Turn
  pub most : ℕ
  pub idles : ℕ
  pub ends : ℕ
  pub given : List ℕ
  pub room : ℕ
  pub made : ℕ
  pub failing : List ℕ
  pub faults : ℕ

-- A turn that is held, as a turn of a link.
abbrev pub turn_of : LinkTurn → Turn
turn_of (held.Octet octet) = Octet octet
turn_of held.Idle = Idle

-- How many octets come before the first mark.
abbrev pub octets_ahead : List Turn → ℕ
octets_ahead [] = 0
octets_ahead (Octet octet ∷ turns) = 1 + octets_ahead turns
octets_ahead (Idle ∷ turns) = 0
octets_ahead (Ended ∷ turns) = 0

-- What a call answers that does not fail and may move this many octets: those that come before the
-- first mark, or that mark.
abbrev pub answer_of : List Turn → ℕ → Took
answer_of [] room = took.Ended
answer_of (Octet octet ∷ turns) room = took.Bytes (min room (octets_ahead (Octet octet ∷ turns)))
answer_of (Idle ∷ turns) room = took.Idle
answer_of (Ended ∷ turns) room = took.Ended

-- What such a call did to the turns.
abbrev pub Moved : TurnsInMemory → TurnsInMemory → Took → List ℕ → Type 0
Moved before after (took.Bytes count) buffer = (0 < count) × (count ≤ length buffer) × Passes (Some before.taken) (Some after.taken) (Some before.left) (Some after.left) (turns_of (take count buffer))
Moved before after took.Idle buffer = Passes (Some before.taken) (Some after.taken) (Some before.left) (Some after.left) (Idle ∷ [])
Moved before after took.Ended buffer = (after ≡ before) × (before.left ≡ [])
Moved before after took.Failed buffer = ⊥

-- ---- doors

-- A door in memory: the links that are left and those that went back, what the last call answered,
-- and whether a link is out. It has its calls as a source has them, with the faults of the links
-- that went back.
pub record DoorInMemory : Type 0 where
  pub left : List LinkInMemory
  pub returned : List LinkInMemory
  pub last : LastCame
  pub out : Bool
  pub made : ℕ
  pub failing : List ℕ
  pub faults : ℕ

-- The last answer that is held, as that of a door.
abbrev pub last_is : LastAnswer → LastCame
last_is last.NotAsked = NotAsked
last_is last.Link = LinkCame
last_is last.Ended = NoMoreCame
last_is last.Failed = FaultCame
