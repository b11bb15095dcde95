-- Of the values gone over, the place of each is known.
use Rattle.std.proofs.Common.{◌≡◌, ◌++◌, map, position}
use Rattle.std.specs.BTreeMap.{get}
use Rattle.std.specs.List.{position_or_len}
use Rattle.std.specs.Ordering.{eq_by_cmp}
use Rattle.std.specs.Vec.Iter.{into_iter_items}
use Rattle.coswid_links.proofs.first_equal.first_places.Given as goal

abbrev pub invariant-loop-value : goal.invariant-loop-value
invariant-loop-value g l = record {
  all : l.yielded ++ into_iter_items l.value-iterator ≡ l.fn.values.items;
  places : l.places.items ≡ map (λ v. position_or_len (eq_by_cmp g.K.Ord.cmp v) l.fn.values.items) l.yielded;
  known : (q : _) → get g.K.Ord.cmp l.known q ≡ position (eq_by_cmp g.K.Ord.cmp q) l.yielded;
}
