-- The pairs that an open map holds, and the key whose value is due.
use Rattle.std.specs.Prelude.{Option}
use Rattle.std.specs.Option.{option_map}
use Rattle.cbor_det.specs.declared.members.Key.{Key}
use Rattle.cbor_det.specs.declared.members.Members.{Members}
use Rattle.cbor_det.specs.declared.members.Members.TheVariants as members
use Rattle.cbor_det.specs.Term.{Term, Pairs}
use Rattle.cbor_det.specs.Open.{entries_view}
use Rattle.cbor_det.specs.View.{view, listed}

abbrev pub members_view : Members → Pairs
members_view (members.Rising rising) = listed rising.pairs
members_view (members.Ordered ordered) = entries_view ordered.entries.entries

abbrev pub key_view : Key → Term
key_view key = view key.item

abbrev pub due_key : Members → Option Term
due_key (members.Rising rising) = option_map view rising.key
due_key (members.Ordered ordered) = option_map key_view ordered.key
