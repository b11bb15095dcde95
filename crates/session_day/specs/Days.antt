-- What the calls within the crate do to a day.
use Rattle.std.specs.Prelude.{◌≡◌, ◌++◌, ℕ, []}
use Rattle.session_world.specs.Lines.{Told, and_on, opens, runs}
use Rattle.session_world.specs.Standing.{Does, StandsFor}
use Rattle.session_world.specs.World.{World, carried_up}
use Rattle.session_day.specs.declared.day.Day.{Day}
use Rattle.session_day.specs.Day.{AreChanged, first_session, last_sessions, morning}

-- A day before its first session.
pub record IsMorning (count : ℕ) (day : Day) : Type 0 where
  pub world : StandsFor day.world (morning count)
  pub told : day.told ≡ []
  pub carried : day.carried ≡ []

-- This is done to the world, and reported. No octets are kept.
abbrev pub Acts : (World → Told) → Day → Day → Type 0
Acts act before after = Does act before.world before.told after.world after.told × (after.carried ≡ before.carried)

-- Something of which this holds is done to the world, and reported. No octets are kept.
abbrev pub Steps : (World → Told → Type 0) → Day → Day → Type 0
Steps Goes before after = (w : World) → StandsFor before.world w
    → (told : Told) × Goes w told × (StandsFor after.world told.0 × (after.told ≡ before.told ++ told.1) × (after.carried ≡ before.carried))

-- The first session, whose octets are kept.
abbrev pub FollowsFirst : Day → Day → Type 0
FollowsFirst before after =
    Does (λ w. and_on (opens w) runs) before.world before.told after.world after.told
    × ((w : World) → StandsFor before.world w → before.carried ≡ [] → after.carried ≡ carried_up (and_on (opens w) runs).0)

-- The whole day.
pub record PlaysDay (count : ℕ) (day : Day) : Type 0 where
  pub changed : Told
  pub are : AreChanged count 40 1 (first_session count).0 changed
  pub world : StandsFor day.world (last_sessions changed.0).0
  pub told : day.told ≡ (first_session count).1 ++ (changed.1 ++ (last_sessions changed.0).1)
  pub carried : day.carried ≡ carried_up (first_session count).0
