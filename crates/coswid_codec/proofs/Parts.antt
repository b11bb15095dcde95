-- Entities, links and descriptions of software: RFC 9393, sections 2.6 to 2.8.
use Rattle.std.proofs.Common.{refl}
use Rattle.cbor_det.specs.declared.item.Pairs as code
use Rattle.coswid_res.specs.Columns.{Values, MapOf, maps_of, ◌⨾◌}
use Rattle.coswid_res.specs.Schema as schema
use Rattle.coswid_res.specs.Schema.{one_or_more, a_map}
use Rattle.coswid_res.specs.Words.{OneOrMore}
use Rattle.coswid_tag.specs.declared.entity.Entity.{Entity}
use Rattle.coswid_tag.specs.declared.link.LinkEntry.{LinkEntry}
use Rattle.coswid_tag.specs.declared.meta.SoftwareMeta.{SoftwareMeta}
use Rattle.coswid_codec.specs.Parts.{entity_table, link_table, meta_table}
use Rattle.coswid_codec.proofs.Codes.{codes_law}
use Rattle.coswid_codec.proofs.Columns.{Laws, known, several_by}
use Rattle.coswid_codec.proofs.Lawful.{Lawful}
use Rattle.coswid_codec.proofs.Plain.{boolean_law, code_law, hash_law, identifier_law, text_law, uri_law}

abbrev entity_laws : Laws entity_table.columns
entity_laws = known text_law ⨾ known uri_law ⨾ known codes_law ⨾ known hash_law ⨾ tt

abbrev make_entity : Values entity_table.columns → code.Pairs → Entity
make_entity (entity_name, (reg_id, (role, (thumbprint, none)))) extras = record { entity_name = entity_name; reg_id = reg_id; role = role; thumbprint = thumbprint; extras = extras }

pub entities_law : Lawful (one_or_more (a_map schema.entity)) (OneOrMore (MapOf entity_table)) (maps_of entity_table) 4
entities_law = several_by schema.entity entity_table 2 entity_laws make_entity refl refl (λ e. refl) (λ vs xs. (refl, refl))

abbrev link_laws : Laws link_table.columns
link_laws = known text_law ⨾ known text_law ⨾ known uri_law ⨾ known code_law ⨾ known code_law ⨾ known text_law ⨾ known code_law ⨾ tt

abbrev make_link : Values link_table.columns → code.Pairs → LinkEntry
make_link (media, (artifact, (href, (ownership, (rel, (media_type, (link_use, none))))))) extras = record { media = media; artifact = artifact; href = href; ownership = ownership; rel = rel; media_type = media_type; link_use = link_use; extras = extras }

pub links_law : Lawful (one_or_more (a_map schema.link)) (OneOrMore (MapOf link_table)) (maps_of link_table) 4
links_law = several_by schema.link link_table 2 link_laws make_link refl refl (λ l. refl) (λ vs xs. (refl, refl))

abbrev meta_laws : Laws meta_table.columns
meta_laws = known text_law ⨾ known text_law ⨾ known text_law ⨾ known text_law ⨾ known text_law ⨾ known boolean_law ⨾ known text_law ⨾ known identifier_law ⨾ known text_law ⨾ known text_law ⨾ known text_law ⨾ known text_law ⨾ known text_law ⨾ known text_law ⨾ known text_law ⨾ tt

abbrev make_meta : Values meta_table.columns → code.Pairs → SoftwareMeta
make_meta (activation_status, (channel_type, (colloquial_version, (description, (edition, (entitlement_data_required, (entitlement_key, (generator, (persistent_id, (product, (product_family, (revision, (summary, (unspsc_code, (unspsc_version, none))))))))))))))) extras = record { activation_status = activation_status; channel_type = channel_type; colloquial_version = colloquial_version; description = description; edition = edition; entitlement_data_required = entitlement_data_required; entitlement_key = entitlement_key; generator = generator; persistent_id = persistent_id; product = product; product_family = product_family; revision = revision; summary = summary; unspsc_code = unspsc_code; unspsc_version = unspsc_version; extras = extras }

pub metas_law : Lawful (one_or_more (a_map schema.software_meta)) (OneOrMore (MapOf meta_table)) (maps_of meta_table) 3
metas_law = several_by schema.software_meta meta_table 1 meta_laws make_meta refl refl (λ m. refl) (λ vs xs. (refl, refl))
