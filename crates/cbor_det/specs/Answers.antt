-- What a reader answers.
use Rattle.std.specs.Prelude.{◌≡◌, ◌⊎◌, ℕ, List, length, Result, Ok, Err}
use Rattle.cbor_det.specs.declared.fault.CborRefused.{CborRefused}
use Rattle.cbor_det.specs.declared.fault.CborRefused.TheVariants as refused
use Rattle.cbor_det.specs.declared.item.Item.{Item}
use Rattle.cbor_det.specs.declared.limits.Limits.{Limits}
use Rattle.cbor_det.specs.Term.{Term}
use Rattle.cbor_det.specs.View.{view}
use Rattle.cbor_det.specs.Faults.{IsFault, IsCut}

-- Why a whole input is refused: by its fault, or as cut short (kind 1, at its end).
abbrev pub IsRefusal : Limits → List ℕ → CborRefused → Type 0
IsRefusal limits input (refused.Fault f) = IsFault limits input f.kind f.at ⊎ ((f.kind ≡ 1) × (f.at ≡ length input) × IsCut limits input)
IsRefusal limits input refused.Memory = Unit {0}

-- The answer is this item with that many octets, unless memory ran out.
abbrev pub GivesItem : Term → ℕ → Result (Item × ℕ) CborRefused → Type 0
GivesItem t n (Ok read) = (view read.0 ≡ t) × (read.1 ≡ n)
GivesItem t n (Err (refused.Fault f)) = ⊥
GivesItem t n (Err refused.Memory) = Unit {0}

-- The answer is this fault, unless memory ran out.
abbrev pub GivesFault : ℕ → ℕ → Result (Item × ℕ) CborRefused → Type 0
GivesFault kind at (Ok read) = ⊥
GivesFault kind at (Err (refused.Fault f)) = (f.kind ≡ kind) × (f.at ≡ at)
GivesFault kind at (Err refused.Memory) = Unit {0}
