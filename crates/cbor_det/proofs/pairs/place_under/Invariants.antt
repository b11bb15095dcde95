-- The key is none of those that were passed.
use Rattle.std.proofs.Common.{◌≡◌, drop}
use Rattle.cbor_det.specs.Lookup.{value_under}
use Rattle.cbor_det.specs.View.{listed}
use Rattle.cbor_det.proofs.pairs.place_under.Given as goal

abbrev pub invariant-loop-place : goal.invariant-loop-place
invariant-loop-place l = value_under l.key (listed l.pairs) ≡ value_under l.key (listed (drop l.place l.pairs))
