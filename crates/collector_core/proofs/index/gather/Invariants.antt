use Rattle.std.proofs.Common.{◌≡◌, ℕ, ◌+◌, ◌*◌, ◌^◌, ◌<◌, ◌||◌, true}
use Rattle.std.specs.BTreeSet.{contains}
use Rattle.std.specs.List.{list_any}
use Rattle.std.specs.Ordering.{is_eq, nat_cmp}
use Rattle.collector_core.proofs.index.gather.Given as goal

abbrev pub invariant-loop-key : goal.invariant-loop-key
invariant-loop-key l = record {
  kept : (id : ℕ) → contains nat_cmp l.fn.ids id ≡ true → contains nat_cmp l.ids id ≡ true;
  gathered : (id : ℕ) → id < 2 ^ 32 → contains nat_cmp l.index (l.sum * 2 ^ 32 + id) ≡ true
      → (list_any (λ (key : ℕ). is_eq (nat_cmp (l.sum * 2 ^ 32 + id) key)) l.key-iterator || contains nat_cmp l.ids id) ≡ true;
}
