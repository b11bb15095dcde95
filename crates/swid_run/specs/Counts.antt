-- Counts of faults, before a command and after it.
use Rattle.std.specs.Prelude.{◌≡◌, ◌≤◌, ◌⊎◌, ℕ, List, [], ◌∷◌, Result, Ok, Err, map}
use Rattle.wire_base.specs.Outside.{Rose}
use Rattle.wire_base.specs.declared.outside.stopped.Stopped.{Stopped}
use Rattle.wire_base.specs.declared.outside.stopped.Stopped.TheVariants as stopped
use Rattle.session_pool.specs.declared.stand.Stand.{Stand}

-- Those of the doors of stands.
abbrev pub door_counts : {D : Type 0} → (D → ℕ) → List (Stand D) → List ℕ
door_counts {D} faults stands = map (λ (stand : Stand D). faults stand.door) stands

-- One of the counts rose.
abbrev pub OneRose : List ℕ → List ℕ → Type 0
OneRose (before ∷ others) (after ∷ later) = Rose before after ⊎ OneRose others later
OneRose counts other = ⊥

-- None of them fell, and there are as many.
abbrev pub NoneFell : List ℕ → List ℕ → Type 0
NoneFell [] [] = Unit {0}
NoneFell (before ∷ others) (after ∷ later) = (before ≤ after) × NoneFell others later
NoneFell counts other = ⊥

-- A fault ended the command only where a count rose, and where neither a fault nor memory did, none
-- rose.
abbrev pub Cause : {A : Type 0} → List ℕ → List ℕ → Result A Stopped → Type 0
Cause before after (Ok ended) = after ≡ before
Cause before after (Err stopped.Fault) = OneRose before after
Cause before after (Err stopped.Memory) = Unit {0}

pub record HasCauses {A : Type 0} (before after : List ℕ) (result : Result A Stopped) : Type 0 where
  pub later : NoneFell before after
  pub cause : Cause before after result
