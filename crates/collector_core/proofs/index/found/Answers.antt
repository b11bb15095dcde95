use Rattle.std.proofs.Common.{◌∙◌, ℕ, eqb, List, ap, arith, take_all}
use Rattle.std.specs.List.{list_any}
use denote.Ref.{Bor}
use Rattle.collector_core.specs.Index.{digest}
use Rattle.collector_core.proofs.Gathered.{finds_all}
use Rattle.collector_core.proofs.index.found.Goals as goal

pub returns : goal.returns
returns c = record {
  found = finds_all c.args.targets.now c.args.index.now c.loop-target.digests c.loop-target.ids
      (λ sum.
      c.loop-target.invariant.digests sum
      ∙ ap (list_any (λ (target : Bor (List ℕ)). eqb (digest target.now) sum)) (take_all c.loop-target.target-index c.args.targets.now (omega (arith, c.loop-target-test.false))))
      c.loop-target.invariant.found;
}
