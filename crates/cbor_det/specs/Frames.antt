-- The state of the machine as the code has it, at the place of its frames, and what fits the types
-- of the code.
use Rattle.std.specs.Prelude.{◌≡◌, ◌<◌, ◌≤◌, ◌-◌, ◌^◌, ℕ, List, ◌++◌, Option, Some, None}
use Rattle.std.specs.Coded.{Unit-prop, le_prop}
use Rattle.cbor_det.specs.declared.frame.Phase.{Phase}
use Rattle.cbor_det.specs.declared.frame.Phase.TheVariants as phase
use Rattle.cbor_det.specs.declared.frame.StepOutcome.{StepOutcome}
use Rattle.cbor_det.specs.declared.frame.StepOutcome.TheVariants as step_outcome
use Rattle.cbor_det.specs.declared.string_kind.StringKind.{StringKind}
use Rattle.cbor_det.specs.View.{view}
use Rattle.cbor_det.specs.Faults.{Place, at_chunk}
use Rattle.cbor_det.specs.declared.initial.Beginning.{Beginning}
use Rattle.cbor_det.specs.declared.initial.Beginning.TheVariants as beginning
use Rattle.cbor_det.specs.declared.initial.Initial.{Initial}
use Rattle.cbor_det.specs.declared.initial.Initial.TheVariants as initial
use Rattle.cbor_det.specs.Machine.{State, due, argument, content, whole, faulty, string_ended, broken}

abbrev pub phase_state : Place → Phase → State
phase_state p phase.Due = due p
phase_state p (phase.Head head) = argument p head.at head.major head.left head.number
phase_state p (phase.String string) = content p string.at string.kind string.left string.came

abbrev pub state_of : Place → StepOutcome → State
state_of p (step_outcome.Goes phase) = phase_state p phase
state_of p (step_outcome.Whole item) = whole (view item)
state_of p (step_outcome.Fault fault) = faulty fault.kind fault.at

-- An argument has 8 octets at most, so it fits 64 bits.
pub record ArgumentFits (left number : ℕ) : Type 0 where
  pub some : 1 ≤ left
  pub most : left ≤ 8
  pub fits : number < 256 ^ (8 - left)

abbrev pub Fits : Phase → Type 0
Fits phase.Due = Unit {0}
Fits (phase.Head head) = ArgumentFits head.left head.number
Fits (phase.String string) = 1 ≤ string.left

-- The octets that are taken at once are one, or that many of a definite string.
abbrev pub Takes : Phase → ℕ → Type 0
Takes phase.Due count = count ≡ 1
Takes (phase.Head head) count = count ≡ 1
Takes (phase.String string) count = (1 ≤ count) × (count ≤ string.left)

abbrev pub StepFits : StepOutcome → Type 0
StepFits (step_outcome.Goes phase) = Fits phase
StepFits (step_outcome.Whole item) = Unit {0}
StepFits (step_outcome.Fault fault) = Unit {0}

-- An item ends after an octet.
abbrev pub EndsBehindSome : StepOutcome → ℕ → Type 0
EndsBehindSome (step_outcome.Goes phase) used = Unit {0}
EndsBehindSome (step_outcome.Whole item) used = 0 < used
EndsBehindSome (step_outcome.Fault fault) used = Unit {0}

-- the kind of the string of which a chunk is due
abbrev pub chunk_kind : Place → Option StringKind
chunk_kind (at_chunk at kind joined round) = Some kind
chunk_kind p = None

-- one chunk more, where one is due
abbrev pub chunk_joined : Place → List ℕ → Place
chunk_joined (at_chunk at kind joined round) s = at_chunk at kind (joined ++ s) round
chunk_joined p s = p

-- the kind of the fault that a low octet is, where a chunk is due or an item
abbrev pub low_kind : Place → ℕ → ℕ
low_kind (at_chunk at kind joined round) k = 2
low_kind p k = k

-- what a break makes
abbrev pub end_state : ℕ → Place → State
end_state i (at_chunk at kind joined round) = string_ended round at kind joined
end_state i p = broken i p

-- a head's argument has 1 to 8 octets
abbrev pub BeginFits : Beginning → Type 0
BeginFits (beginning.Argument major left) = (1 ≤ left) × (left ≤ 8)
BeginFits b = Unit {0}

abbrev pub InitialFits : Initial → Type 0
InitialFits (initial.Item b) = BeginFits b
InitialFits x = Unit {0}

-- What fits is known in one way.
pub fits_prop : (p : Phase) → IsProp (Fits p)
fits_prop phase.Due = Unit-prop
fits_prop (phase.Head head) =
    λ a b i. record { some = le_prop a.some b.some i; most = le_prop a.most b.most i; fits = le_prop a.fits b.fits i }
fits_prop (phase.String string) = le_prop
