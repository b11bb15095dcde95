-- A list that is lent or given up.
use Rattle.std.specs.Prelude.{List}
use Rattle.validator_core.specs.declared.lent_or_owned.MaybeOwned.{MaybeOwned}
use Rattle.validator_core.specs.declared.lent_or_owned.MaybeOwned.TheVariants as maybe

-- The list.
abbrev pub list_of : {T : Type 0} → MaybeOwned T → List T
list_of (maybe.Lent lent) = lent.now
list_of (maybe.Owned owned) = owned
