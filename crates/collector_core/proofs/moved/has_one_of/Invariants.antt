use Rattle.std.proofs.Common.{◌≡◌, false, take}
use Rattle.std.specs.List.{list_any}
use Rattle.std.specs.Str.{bytes_eq}
use Rattle.collector_core.specs.Borrowed.{values}
use Rattle.collector_core.proofs.moved.has_one_of.Given as goal

abbrev pub invariant-loop-target : goal.invariant-loop-target
invariant-loop-target l = list_any (λ target. list_any (λ ident. bytes_eq ident target) (values l.rising)) (take l.target-index l.target-items) ≡ false
