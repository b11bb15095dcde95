-- Each field is one row.
use Rattle.cbor_det.specs.Term.{text, boolean}
use Rattle.coswid_codec.specs.Parts.{identifier_item}
use Rattle.coswid_res.proofs.Rows.{arith}
use Rattle.coswid_codec.proofs.meta.count_keys.Goals as goal

pub returns : goal.returns
returns c =
    record { count = omega (arith, c.count.ensures.count text, c.count-2.ensures.count text, c.count-3.ensures.count text, c.count-4.ensures.count text, c.count-5.ensures.count text, c.count-6.ensures.count boolean, c.count-7.ensures.count text, c.count-8.ensures.count identifier_item, c.count-9.ensures.count text, c.count-10.ensures.count text, c.count-11.ensures.count text, c.count-12.ensures.count text, c.count-13.ensures.count text, c.count-14.ensures.count text, c.count-15.ensures.count text) }
