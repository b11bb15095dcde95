-- The octets of a piece that the limit leaves.
use Rattle.std.proofs.Common.{◌≡◌, ℕ, List, length, inl, inr, sym, ap, ◌∙◌, arith}
use Rattle.std.specs.Prelude.{min, take}
use Rattle.std.proofs.lemmas.List.{take_all}
use Rattle.std.proofs.lemmas.Bool.{cases_lt}

pub taken : (left used : ℕ) (piece : List ℕ) → used ≡ min left (length piece) → take used piece ≡ take left piece
taken left used piece is = elim (cases_lt (length piece) left) [
  | inl less ↦ take_all used piece (omega (arith, is, less)) ∙ sym (take_all left piece (omega (arith, less)))
  | inr within ↦ ap (λ (n : ℕ). take n piece) (omega (arith, is, within))
]
