use Rattle.std.proofs.Common.{◌≡◌, ℕ, eqb, take}
use Rattle.std.specs.BTreeSet.{contains}
use Rattle.std.specs.List.{list_any}
use Rattle.std.specs.Ordering.{nat_cmp}
use Rattle.collector_core.specs.Index.{HasAll, digest}
use Rattle.collector_core.proofs.index.found.Given as goal

abbrev pub invariant-loop-target : goal.invariant-loop-target
invariant-loop-target l = record {
  digests : (sum : ℕ) → contains nat_cmp l.digests sum ≡ list_any (λ target. eqb (digest target.now) sum) (take l.target-index l.targets);
  found : HasAll l.index l.digests l.ids;
}
