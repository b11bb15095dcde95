use Rattle.std.proofs.Common.{◌≡◌, true}
use Rattle.std.specs.List.{All}
use Rattle.bench.proofs.shelf.passes.Given as goal

abbrev pub invariant-loop : goal.invariant-loop
invariant-loop l = (l.pass.shelf ≡ l.fn.shelf) × (l.pass.may_change ≡ true) × All (λ pass. pass.shelf ≡ l.fn.shelf) l.passes.items × All (λ pass. pass.may_change ≡ true) l.passes.items
