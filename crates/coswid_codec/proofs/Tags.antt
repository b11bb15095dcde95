-- The map of a tag: RFC 9393, section 2.3.
use Rattle.std.proofs.Common.{refl}
use Rattle.cbor_det.specs.declared.item.Pairs as code
use Rattle.coswid_res.specs.Columns.{Values, MapOf, map_of, ◌⨾◌}
use Rattle.coswid_res.specs.Schema as schema
use Rattle.coswid_res.specs.Schema.{one, a_map}
use Rattle.coswid_tag.specs.declared.tag.Tag.{Tag}
use Rattle.coswid_codec.specs.Forms.{tag_table}
use Rattle.coswid_codec.proofs.Columns.{Laws, known, one_by}
use Rattle.coswid_codec.proofs.Lawful.{Lawful}
use Rattle.coswid_codec.proofs.Parts.{entities_law, links_law, metas_law}
use Rattle.coswid_codec.proofs.Plain.{boolean_law, code_law, identifier_law, integer_law, text_law}
use Rattle.coswid_codec.proofs.Resources.{payload_law, evidence_law}

abbrev laws : Laws tag_table.columns
laws = known identifier_law ⨾ known text_law ⨾ known entities_law ⨾ known evidence_law ⨾ known links_law ⨾ known metas_law ⨾ known payload_law ⨾ known boolean_law ⨾ known boolean_law ⨾ known text_law ⨾ known boolean_law ⨾ known integer_law ⨾ known text_law ⨾ known code_law ⨾ known text_law ⨾ tt

abbrev make : Values tag_table.columns → code.Pairs → Tag
make (tag_id, (software_name, (entity, (evidence, (link, (software_meta, (payload, (corpus, (patch, (media, (supplemental, (tag_version, (software_version, (version_scheme, (lang, none))))))))))))))) extras = record { tag_id = tag_id; software_name = software_name; entity = entity; evidence = evidence; link = link; software_meta = software_meta; payload = payload; corpus = corpus; patch = patch; media = media; supplemental = supplemental; tag_version = tag_version; software_version = software_version; version_scheme = version_scheme; lang = lang; extras = extras }

pub tag_law : Lawful (one (a_map schema.tag)) (MapOf tag_table) (map_of tag_table) 5
tag_law = one_by schema.tag tag_table 4 laws make refl refl (λ g. refl) (λ vs xs. (refl, refl))
