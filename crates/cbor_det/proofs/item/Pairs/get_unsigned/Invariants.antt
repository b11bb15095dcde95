-- The key is none of those that were passed.
use Rattle.std.proofs.Common.{◌≡◌, drop}
use Rattle.cbor_det.specs.Lookup.{value_under}
use Rattle.cbor_det.specs.View.{listed}
use Rattle.cbor_det.proofs.item.Pairs.get_unsigned.Given as goal

abbrev pub invariant-loop-pair : goal.invariant-loop-pair
invariant-loop-pair l = value_under l.key (listed l.pair-items) ≡ value_under l.key (listed (drop l.pair-index l.pair-items))
