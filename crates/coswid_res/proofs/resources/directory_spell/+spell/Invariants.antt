-- The directories before were spelled, after the head.
use Rattle.std.proofs.Common.{◌≡◌, ◌++◌, length, map, take}
use Rattle.cbor_det.specs.Canonical.{canon_terms, short_head}
use Rattle.cbor_det.specs.View.{terms_of}
use Rattle.coswid_res.specs.DirectoryItems.{directory_item}
use Rattle.coswid_res.proofs.resources.directory_spell.+spell.Given as goal

abbrev pub invariant-spell_all-loop-directory : goal.invariant-spell_all-loop-directory
invariant-spell_all-loop-directory l = l.out ≡ l.fn.out ++ short_head 4 (length l.slice) ++ canon_terms (terms_of (map directory_item (take l.directory-index l.slice)))
