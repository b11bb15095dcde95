-- The turns of a link: what it gave, octet by octet, with a mark where nothing came for a while and
-- where the other end had closed. A list of turns has no pieces, so pieces do not matter.
use Rattle.std.specs.Prelude.{◌≡◌, ◌<◌, ◌≤◌, ℕ, Bool, true, false, List, [], ◌∷◌, Option, length, map, take}
use Rattle.wire_base.specs.Outside.{Moves, Adds, NothingLeft}
use Rattle.wire_base.specs.declared.outside.link.Took.{Took}
use Rattle.wire_base.specs.declared.outside.link.Took.TheVariants as took

-- One turn of a link: an octet, nothing for a while, or that the other end has closed.
pub data Turn : Type 0 where
  Octet : ℕ → Turn
  Idle : Turn
  Ended : Turn

-- The turns of some octets: one for each.
abbrev pub turns_of : List ℕ → List Turn
turns_of octets = map Octet octets

-- The turns were taken: added to those that were taken before, and removed from those that were
-- left.
abbrev pub Passes : Option (List Turn) → Option (List Turn) → Option (List Turn) → Option (List Turn) → List Turn → Type 0
Passes taken taken-after left left-after turns = Adds taken taken-after turns × Moves left left-after turns

-- What a call of `take` into a buffer did to the turns taken and to the turns left, by its answer.
-- `Ended` comes only where nothing is left; a call that failed took nothing.
abbrev pub Takes : Option (List Turn) → Option (List Turn) → Option (List Turn) → Option (List Turn) → Took → List ℕ → Type 0
Takes taken taken-after left left-after (took.Bytes count) buffer = (0 < count) × (count ≤ length buffer) × Passes taken taken-after left left-after (turns_of (take count buffer))
Takes taken taken-after left left-after took.Idle buffer = Passes taken taken-after left left-after (Idle ∷ [])
Takes taken taken-after left left-after took.Ended buffer = Adds taken taken-after (Ended ∷ []) × (left-after ≡ left) × NothingLeft left
Takes taken taken-after left left-after took.Failed buffer = (taken-after ≡ taken) × (left-after ≡ left)

-- The answer is that the call failed.
abbrev pub has_failed : Took → Bool
has_failed took.Failed = true
has_failed (took.Bytes count) = false
has_failed took.Idle = false
has_failed took.Ended = false

-- The answer is that the other end has closed.
abbrev pub has_ended : Took → Bool
has_ended took.Ended = true
has_ended (took.Bytes count) = false
has_ended took.Idle = false
has_ended took.Failed = false

-- The answer is that nothing came for a while.
abbrev pub was_idle : Took → Bool
was_idle took.Idle = true
was_idle (took.Bytes count) = false
was_idle took.Ended = false
was_idle took.Failed = false
