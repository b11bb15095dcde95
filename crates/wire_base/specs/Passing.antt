-- What passes between the outside and octets that are held, in many calls.
use Rattle.std.specs.Prelude.{◌≡◌, ◌<◌, ◌≤◌, ◌++◌, ℕ, Bool, true, false, List, Option, Result, Ok, Err, length}
use Rattle.wire_base.specs.declared.outside.stopped.Stopped.{Stopped}
use Rattle.wire_base.specs.declared.outside.stopped.Stopped.TheVariants as stopped
use Rattle.wire_base.specs.Outside.{Moves, Adds, NothingLeft}

-- The call ended by a fault of the outside.
abbrev pub is_fault : {A : Type 0} → Result A Stopped → Bool
is_fault (Ok value) = false
is_fault (Err stopped.Fault) = true
is_fault (Err stopped.Memory) = false

-- What is held after is what was held before, and after it the octets that were moved.
abbrev pub Gains : Option (List ℕ) → Option (List ℕ) → List ℕ → List ℕ → Type 0
Gains left-before left-after before after = (more : List ℕ) × (after ≡ before ++ more) × Moves left-before left-after more

-- Octets that were held, at most `want`, and after them as many of those left as make them `want`,
-- or all of them where there are fewer.
pub record Fills (want : ℕ) (left-before left-after : Option (List ℕ)) (before after : List ℕ) : Type 0 where
  pub moved : Gains left-before left-after before after
  pub within : length after ≤ want
  pub ended : length after < want → NothingLeft left-after

-- A prefix of the text was written, and `rest` of it was not.
pub record WroteFront (before after : Option (List ℕ)) (text rest : List ℕ) : Type 0 where
  pub front : List ℕ
  pub parts : front ++ rest ≡ text
  pub wrote : Adds before after front

-- A prefix of the text was written: all of it, or less.
abbrev pub AddsFront : Option (List ℕ) → Option (List ℕ) → List ℕ → Type 0
AddsFront before after text = (rest : List ℕ) × WroteFront before after text rest
