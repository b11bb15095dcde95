-- The items that a tag is read from, key by key: RFC 9393, section 2.
use Rattle.std.specs.Prelude.{◌≡◌, false, [], ◌∷◌}
use Rattle.cbor_det.specs.Term.{Term, integer, text, boolean}
use Rattle.coswid_res.specs.Columns.{Table, required, optional, MapOf, maps_of}
use Rattle.coswid_res.specs.Keys as keys
use Rattle.coswid_res.specs.Resources.{PayloadMap, EvidenceMap, payload_item, evidence_item}
use Rattle.coswid_res.specs.Words.{Text, Boolean, Integer, OneOrMore}
use Rattle.coswid_tag.specs.declared.tag.Tag.{Tag}
use Rattle.coswid_codec.specs.Marked.{content, is_deep, has_both}
use Rattle.coswid_codec.specs.Parts.{Identifier, identifier_item, Code, code_item, entity_table, link_table, meta_table}

-- Section 2.3.
abbrev pub tag_table : Table Tag
tag_table = record {
  columns =
      required keys.tag_id Identifier identifier_item (λ g. g.tag_id)
      ∷ required keys.software_name Text text (λ g. g.software_name)
      ∷ required keys.entity (OneOrMore (MapOf entity_table)) (maps_of entity_table) (λ g. g.entity)
      ∷ optional keys.evidence EvidenceMap evidence_item (λ g. g.evidence)
      ∷ optional keys.link (OneOrMore (MapOf link_table)) (maps_of link_table) (λ g. g.link)
      ∷ optional keys.software_meta (OneOrMore (MapOf meta_table)) (maps_of meta_table) (λ g. g.software_meta)
      ∷ optional keys.payload PayloadMap payload_item (λ g. g.payload)
      ∷ optional keys.corpus Boolean boolean (λ g. g.corpus)
      ∷ optional keys.patch Boolean boolean (λ g. g.patch)
      ∷ optional keys.media Text text (λ g. g.media)
      ∷ optional keys.supplemental Boolean boolean (λ g. g.supplemental)
      ∷ required keys.tag_version Integer integer (λ g. g.tag_version)
      ∷ optional keys.software_version Text text (λ g. g.software_version)
      ∷ optional keys.version_scheme Code code_item (λ g. g.version_scheme)
      ∷ optional keys.lang Text text (λ g. g.lang)
      ∷ [];
  extras = λ g. g.extras;
}

-- A tag is read from a map, under the tag of tags or alone (section 8). It has no payload beside
-- evidence. Alone it leaves room for the tag, under which it is written.
pub record TagForm (g : Tag) (t : Term) : Type 0 where
  pub keys : MapOf tag_table g (content t)
  pub one_of_them : has_both (content t) ≡ false
  pub shallow : is_deep t ≡ false
