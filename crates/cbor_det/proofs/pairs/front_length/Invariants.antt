-- The keys that were passed are below this one.
use Rattle.std.proofs.Common.{◌≡◌, ◌+◌, drop}
use Rattle.cbor_det.specs.Places.{front_length}
use Rattle.cbor_det.specs.View.{view}
use Rattle.cbor_det.proofs.pairs.front_length.Given as goal

abbrev pub invariant-loop-place : goal.invariant-loop-place
invariant-loop-place l = l.place + front_length (view l.key.item) (drop l.place l.pairs) ≡ front_length (view l.key.item) l.pairs
