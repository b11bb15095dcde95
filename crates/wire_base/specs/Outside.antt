-- The outside as a contract sees it: faults that are counted, and octets that are exposed.
use Rattle.std.specs.Prelude.{◌≡◌, ◌≤◌, ◌++◌, ℕ, Bool, List, [], Option, Some, None, Result, Ok, Err, take, MatchBool}
use Rattle.std.specs.Option.{option_map}
use Rattle.wire_base.specs.Counter.{next}

-- A count of faults rose, or stands at 2^64 - 1, the last value of a counter.
abbrev pub Rose : ℕ → ℕ → Type 0
Rose before after = next before ≤ after

-- The two halves of a fault's cause, over the count of faults before and after a call. Where the
-- call answered a fault the count rose, and where it answered none the count is as it was. In no
-- case does it fall.
pub record HasCause (before after : ℕ) (faulted : Bool) : Type 0 where
  pub later : before ≤ after
  pub cause : MatchBool faulted (Rose before after) (after ≡ before)

-- What was left before is `moved` and then what is left after. An object that does not expose still
-- does not expose.
abbrev pub Moves : {A : Type 0} → Option (List A) → Option (List A) → List A → Type 0
Moves before after moved = before ≡ option_map (λ left. moved ++ left) after

-- What was written after is what was written before and then `added`. An object that does not
-- expose still does not expose.
abbrev pub Adds : {A : Type 0} → Option (List A) → Option (List A) → List A → Type 0
Adds before after added = after ≡ option_map (λ written. written ++ added) before

-- An object that exposes has nothing left.
abbrev pub NothingLeft : {A : Type 0} → Option (List A) → Type 0
NothingLeft None = Unit {0}
NothingLeft (Some left) = left ≡ []

-- A read into `buffer` moved the octets that it counts, none only where nothing is left; a failed
-- one moved none.
abbrev pub Reads : {E : Type 0} → Option (List ℕ) → Option (List ℕ) → Result ℕ E → List ℕ → Type 0
Reads before after (Ok count) buffer = Moves before after (take count buffer) × (count ≡ 0 → NothingLeft before)
Reads before after (Err fault) buffer = after ≡ before

-- A write of `piece` added the octets of its prefix that it counts; a failed one added none.
abbrev pub Writes : {E : Type 0} → Option (List ℕ) → Option (List ℕ) → Result ℕ E → List ℕ → Type 0
Writes before after (Ok count) piece = Adds before after (take count piece)
Writes before after (Err fault) piece = after ≡ before
