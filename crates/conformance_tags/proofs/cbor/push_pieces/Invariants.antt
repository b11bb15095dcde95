-- The feed has taken octets of the item, within the limits.
use Rattle.std.proofs.Common.{◌≡◌, ℕ, List}
use Rattle.cbor_det.specs.Feeding.{HasTaken}
use Rattle.conformance_tags.proofs.cbor.push_pieces.Given as goal

abbrev pub invariant-loop-piece : goal.invariant-loop-piece
invariant-loop-piece l = record { taken : (before : List ℕ) × HasTaken l.feed before; limits : l.feed.limits ≡ l.fn.feed.limits }
