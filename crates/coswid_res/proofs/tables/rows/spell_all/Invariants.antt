-- The values before were spelled, after the head.
use Rattle.std.proofs.Common.{◌≡◌, ◌++◌, length, map, take}
use Rattle.cbor_det.specs.Canonical.{canon_terms, short_head}
use Rattle.cbor_det.specs.View.{terms_of}
use Rattle.coswid_res.proofs.tables.rows.spell_all.Given as goal

abbrev pub invariant-loop-value : goal.invariant-loop-value
invariant-loop-value g l = l.out ≡ l.fn.out ++ short_head 4 (length l.values) ++ canon_terms (terms_of (map g.F.Form.written (take l.value-index l.values)))
