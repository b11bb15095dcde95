-- Each field is one row.
use Rattle.cbor_det.specs.Term.{boolean, text}
use Rattle.coswid_res.specs.Columns.{maps_of}
use Rattle.coswid_res.specs.Resources.{evidence_item, payload_item}
use Rattle.coswid_codec.specs.Parts.{code_item, link_table, meta_table}
use Rattle.coswid_res.proofs.Rows.{arith}
use Rattle.coswid_codec.proofs.tag.count_keys.Goals as goal

pub returns : goal.returns
returns c =
    record { count = omega (arith, c.count.ensures.count evidence_item, c.count-2.ensures.count (maps_of link_table), c.count-3.ensures.count (maps_of meta_table), c.count-4.ensures.count payload_item, c.count-5.ensures.count boolean, c.count-6.ensures.count boolean, c.count-7.ensures.count text, c.count-8.ensures.count boolean, c.count-9.ensures.count text, c.count-10.ensures.count code_item, c.count-11.ensures.count text) }
