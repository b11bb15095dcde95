-- The one item that a tag is written as: RFC 9393, section 2, under the tag of section 8.
use Rattle.cbor_det.specs.Term.{Term, Pairs, tagged}
use Rattle.coswid_res.specs.Columns.{pairs_of, map_of}
use Rattle.coswid_tag.specs.declared.entity.Entity.{Entity}
use Rattle.coswid_tag.specs.declared.meta.SoftwareMeta.{SoftwareMeta}
use Rattle.coswid_tag.specs.declared.tag.Tag.{Tag}
use Rattle.coswid_codec.specs.Forms.{tag_table}
use Rattle.coswid_codec.specs.Marked.{coswid}
use Rattle.coswid_codec.specs.Parts.{entity_table, meta_table}

abbrev pub entity_pairs : Entity → Pairs
entity_pairs = pairs_of entity_table

abbrev pub meta_pairs : SoftwareMeta → Pairs
meta_pairs = pairs_of meta_table

abbrev pub tag_item : Tag → Term
tag_item g = tagged coswid (map_of tag_table g)
