-- Links that come one after another, and go back where they came from.
use Rattle.std.specs.Prelude.{◌≡◌, Bool, true, false, List, [], ◌∷◌, Option}
use Rattle.wire_base.specs.Outside.{Moves, NothingLeft}
use Rattle.wire_base.specs.declared.outside.door.Came.{Came}
use Rattle.wire_base.specs.declared.outside.door.Came.TheVariants as came

-- What the last call of `next` answered, if one was made.
pub data LastCame : Type 0 where
  NotAsked : LastCame
  LinkCame : LastCame
  NoMoreCame : LastCame
  FaultCame : LastCame

-- The same of an answer.
abbrev pub last_of : {L : Type 0} → Came L → LastCame
last_of (came.Link link) = LinkCame
last_of came.Ended = NoMoreCame
last_of came.Failed = FaultCame

-- The answer is a link, which is out until it goes back.
abbrev pub is_link : {L : Type 0} → Came L → Bool
is_link (came.Link link) = true
is_link came.Ended = false
is_link came.Failed = false

-- The answer is that the call failed.
abbrev pub has_failed : {L : Type 0} → Came L → Bool
has_failed came.Failed = true
has_failed (came.Link link) = false
has_failed came.Ended = false

-- What an answer is of the links that were left: the first of them, or that there is none. A call
-- that failed took none.
abbrev pub Comes : {L : Type 0} → Option (List L) → Option (List L) → Came L → Type 0
Comes left left-after (came.Link link) = Moves left left-after (link ∷ [])
Comes left left-after came.Ended = (left-after ≡ left) × NothingLeft left
Comes left left-after came.Failed = left-after ≡ left

-- Where a link came, this is so of it.
abbrev pub OnLink : {L : Type 0} → Came L → (L → Type 0) → Type 0
OnLink (came.Link link) holds = holds link
OnLink came.Ended holds = Unit {0}
OnLink came.Failed holds = Unit {0}
