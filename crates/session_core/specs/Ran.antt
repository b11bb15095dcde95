-- What came of turns of a link and of octets that it was given, at each end: where the core stood
-- for a session, it stands for it with these turns, once these octets were carried too.
use Rattle.std.specs.Prelude.{◌≡◌, ◌⊎◌, ℕ, List, ◌++◌}
use Rattle.wire_base.specs.Turns.{Turn}
use Rattle.collector_core.specs.declared.chronicle.Mark.{Mark}
use Rattle.collector_core.specs.Chronicle.{Chronicle}
use Rattle.validator_core.specs.Held.{Held}
use Rattle.session_rules.specs.declared.config.FollowConfig.{FollowConfig}
use Rattle.collector_session.specs.Cores.{Core, Grows, Stands}
use Rattle.validator_session.specs.declared.inner.Inner.{Inner}
use Rattle.validator_session.specs.Core.{Fell, Stood}

-- ---- a collector

-- A desk: it stands for chronicles, and between two of its states entries came.
module _ {D : Type 0} (stands : D → Chronicle → Type 0) (went : D → List Mark → D → Type 0) where
  pub record ServeRan (before : Core) (old : D) (turns : List Turn) (octets : List ℕ) (after : Core) (new : D) : Type 0 where
    pub config : after.end.config ≡ before.end.config
    pub grows : Grows stands went old new before turns (λ chronicle places all carried. Stands chronicle places all (carried ++ octets) after)

-- ---- a validator

-- The core stands where the session with this mirror is after these turns, or memory ran out in
-- them.
abbrev pub StoodOrFell : FollowConfig → Held → List Turn → List ℕ → Inner → Held → Type 0
StoodOrFell c mirror turns carried core now = Stood c mirror turns carried core now ⊎ Fell c mirror turns carried core now

pub record FollowRan (before : Inner) (old : Held) (turns : List Turn) (octets : List ℕ) (after : Inner) (new : Held) : Type 0 where
  pub config : after.end.config ≡ before.end.config
  pub stands : (mirror : Held) (begun : List Turn) (carried : List ℕ) → Stood before.end.config mirror begun carried before old
      → StoodOrFell before.end.config mirror (begun ++ turns) (carried ++ octets) after new
