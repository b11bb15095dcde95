-- Octets begin with an item, or show a fault, or neither.
use Rattle.std.proofs.Common.{◌≡◌, ℕ, ◌-◌, List, length, take, refl, false, inl, inr}
use Rattle.std.specs.Prelude.{nat_lt, if◌then◌else◌}
use Rattle.wire_base.specs.Layout.{AreOctets}
use Rattle.cbor_det.specs.declared.fault.CborFault.{CborFault}
use Rattle.cbor_det.specs.declared.fault.CborRefused.TheVariants as refused
use Rattle.cbor_det.specs.declared.limits.Limits.{Limits}
use Rattle.cbor_det.specs.Answers.{IsRefusal}
use Rattle.cbor_det.specs.Faults.{top}
use Rattle.cbor_det.specs.Laws.{SomeOutcome}
use Rattle.cbor_det.specs.Machine.{State, due, argument, content, whole, faulty, run, is_over}
use Rattle.cbor_det.proofs.Refusals.{read_whole, read_fault, read_open}

module _ (limits : Limits) (input : List ℕ) (are : AreOctets input) where
  abbrev front : List ℕ
  front = take limits.octets input

  -- the machine read all octets up to the limit, and has not stopped
  open_case : (σ : State) (rest : List ℕ) → is_over σ ≡ false → run limits 0 (due top) front ≡ (σ, rest) → SomeOutcome limits input
  open_case σ rest going e =
      let f : CborFault = if nat_lt (length input) limits.octets then record { kind = 1; at = length input } else record { kind = 9; at = limits.octets } in
      let is : IsRefusal limits input (refused.Fault f) = read_open limits input σ rest f are going e refl in
      elim is [
        | inl fault ↦ inr (inl (f.kind, f.at, fault))
        | inr cut ↦ inr (inr cut.2)
      ]

  by_end : (σ : State) (rest : List ℕ) → run limits 0 (due top) front ≡ (σ, rest) → SomeOutcome limits input
  by_end (whole t) rest e = inl (t, length front - length rest, read_whole limits input t rest are e)
  by_end (faulty k a) rest e = inr (inl (k, a, read_fault limits input k a rest are e))
  by_end (due p) rest e = open_case (due p) rest refl e
  by_end (argument p at m left n) rest e = open_case (argument p at m left n) rest refl e
  by_end (content p at kind left s) rest e = open_case (content p at kind left s) rest refl e

  pub some_outcome : SomeOutcome limits input
  some_outcome = let end : State × List ℕ = run limits 0 (due top) front in by_end end.0 end.1 refl
