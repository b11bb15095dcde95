-- Entities, links and descriptions of software, and the codes and identifiers in them: RFC 9393,
-- section 2.
use Rattle.std.specs.Prelude.{◌≡◌, List, [], ◌∷◌, length, map as map_list}
use Rattle.cbor_det.specs.Term.{Term, integer, octets, text, boolean}
use Rattle.coswid_res.specs.Columns.{Table, required, optional}
use Rattle.coswid_res.specs.Items.{uri_item, hash_item, row_item}
use Rattle.coswid_res.specs.Keys as keys
use Rattle.coswid_res.specs.Words.{Text, Boolean, Uri, Hash, OneOrMore}
use Rattle.coswid_tag.specs.declared.entity.Entity.{Entity}
use Rattle.coswid_tag.specs.declared.link.LinkEntry.{LinkEntry}
use Rattle.coswid_tag.specs.declared.meta.SoftwareMeta.{SoftwareMeta}
use Rattle.coswid_tag.specs.declared.value.CodeValue.{CodeValue}
use Rattle.coswid_tag.specs.declared.value.CodeValue.TheVariants as code
use Rattle.coswid_tag.specs.declared.value.TagId.{TagId}
use Rattle.coswid_tag.specs.declared.value.TagId.TheVariants as identifier

-- a text, or the 16 octets of a UUID
abbrev pub Identifier : TagId → Term → Type 0
Identifier (identifier.Text s) t = t ≡ text s
Identifier (identifier.Uuid s) t = (length s ≡ 16) × (t ≡ octets s)

abbrev pub identifier_item : TagId → Term
identifier_item (identifier.Text s) = text s
identifier_item (identifier.Uuid s) = octets s

-- a number, or a text: section 4
abbrev pub Code : CodeValue → Term → Type 0
Code (code.Int z) t = t ≡ integer z
Code (code.Text s) t = t ≡ text s

abbrev pub code_item : CodeValue → Term
code_item (code.Int z) = integer z
code_item (code.Text s) = text s

abbrev pub codes_item : List CodeValue → Term
codes_item cs = row_item (map_list code_item cs)

-- Section 2.6.
abbrev pub entity_table : Table Entity
entity_table = record {
  columns =
      required keys.entity_name Text text (λ e. e.entity_name)
      ∷ optional keys.reg_id Uri uri_item (λ e. e.reg_id)
      ∷ required keys.role (OneOrMore Code) codes_item (λ e. e.role)
      ∷ optional keys.thumbprint Hash hash_item (λ e. e.thumbprint)
      ∷ [];
  extras = λ e. e.extras;
}

-- Section 2.7.
abbrev pub link_table : Table LinkEntry
link_table = record {
  columns =
      optional keys.media Text text (λ l. l.media)
      ∷ optional keys.artifact Text text (λ l. l.artifact)
      ∷ required keys.href Uri uri_item (λ l. l.href)
      ∷ optional keys.ownership Code code_item (λ l. l.ownership)
      ∷ required keys.rel Code code_item (λ l. l.rel)
      ∷ optional keys.media_type Text text (λ l. l.media_type)
      ∷ optional keys.link_use Code code_item (λ l. l.link_use)
      ∷ [];
  extras = λ l. l.extras;
}

-- Section 2.8.
abbrev pub meta_table : Table SoftwareMeta
meta_table = record {
  columns =
      optional keys.activation_status Text text (λ m. m.activation_status)
      ∷ optional keys.channel_type Text text (λ m. m.channel_type)
      ∷ optional keys.colloquial_version Text text (λ m. m.colloquial_version)
      ∷ optional keys.description Text text (λ m. m.description)
      ∷ optional keys.edition Text text (λ m. m.edition)
      ∷ optional keys.entitlement_data_required Boolean boolean (λ m. m.entitlement_data_required)
      ∷ optional keys.entitlement_key Text text (λ m. m.entitlement_key)
      ∷ optional keys.generator Identifier identifier_item (λ m. m.generator)
      ∷ optional keys.persistent_id Text text (λ m. m.persistent_id)
      ∷ optional keys.product Text text (λ m. m.product)
      ∷ optional keys.product_family Text text (λ m. m.product_family)
      ∷ optional keys.revision Text text (λ m. m.revision)
      ∷ optional keys.summary Text text (λ m. m.summary)
      ∷ optional keys.unspsc_code Text text (λ m. m.unspsc_code)
      ∷ optional keys.unspsc_version Text text (λ m. m.unspsc_version)
      ∷ [];
  extras = λ m. m.extras;
}
