-- Items as contracts see them: what they are, without where they lie in memory.
use Rattle.std.specs.Prelude.{List, [], ◌∷◌, map as map_list}
use Rattle.cbor_det.specs.declared.item.Item.{Item, fold-Item}
use Rattle.cbor_det.specs.declared.item.Pairs.{fold-Pairs}
use Rattle.cbor_det.specs.declared.item.Pair.{Pair, fold-Pair}
use Rattle.cbor_det.specs.declared.item.Pairs as code
use Rattle.cbor_det.specs.declared.item.Item.TheOpen as layer
use Rattle.cbor_det.specs.Term.{Term, Terms, Pairs, integer, octets, text, array, map, tagged, boolean, no_terms, term, no_pairs, pair}

abbrev pub terms_of : List Term → Terms
terms_of [] = no_terms
terms_of (t ∷ ts) = term t (terms_of ts)

abbrev pub pairs_of : List (Term × Term) → Pairs
pairs_of [] = no_pairs
pairs_of (p ∷ ps) = pair p.0 p.1 (pairs_of ps)

abbrev pub item_step : layer.Item-F Term (Term × Term) Pairs → Term
item_step (layer.Int z) = integer z
item_step (layer.Bytes s) = octets s
item_step (layer.Text s) = text s
item_step (layer.Array ts) = array (terms_of ts)
item_step (layer.Map ps) = map ps
item_step (layer.Tag n t) = tagged n t
item_step (layer.Bool b) = boolean b

abbrev pub pair_step : layer.Pair-F Term (Term × Term) Pairs → Term × Term
pair_step p = (p.key, p.value)

abbrev pub pairs_step : layer.Pairs-F Term (Term × Term) Pairs → Pairs
pairs_step p = pairs_of p.pairs

abbrev pub view : Item → Term
view = fold-Item Term (Term × Term) Pairs item_step pair_step pairs_step

abbrev pub pairs_view : code.Pairs → Pairs
pairs_view = fold-Pairs Term (Term × Term) Pairs item_step pair_step pairs_step

abbrev pub pair_view : Pair → Term × Term
pair_view = fold-Pair Term (Term × Term) Pairs item_step pair_step pairs_step

abbrev pub listed : List Pair → Pairs
listed xs = pairs_of (map_list pair_view xs)
