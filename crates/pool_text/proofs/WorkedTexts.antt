-- The worked outputs compute.
use Rattle.std.proofs.Common.{refl}
use Rattle.std.specs.Fmt.{digits}
use Rattle.pool_text.specs.Worked.{InventoryIsFollowed, NothingIsCollected, SourceEnds, SourceFails}

pub nothing_is_collected : NothingIsCollected
unfolding digits
nothing_is_collected = record { printed = λ noted. refl; ended = λ noted. refl }

pub source_ends : SourceEnds
unfolding digits
source_ends = record { printed = λ noted. refl; ended = λ noted. refl }

pub source_fails : SourceFails
unfolding digits
source_fails = record { printed = λ noted. refl; ended = λ noted. refl }

pub inventory_is_followed : InventoryIsFollowed
unfolding digits
inventory_is_followed = record { printed = λ noted kind. refl; ended = λ noted. refl }
