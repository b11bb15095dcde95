-- The maps of a tag, as data: the keys of each, and which of them must be there: RFC 9393,
-- section 2.
use Rattle.std.specs.Prelude.{ℕ, List, [], ◌∷◌}
use Rattle.coswid_res.specs.Keys as keys
use Rattle.coswid_res.specs.Keys.{Key, number}
pub use Rattle.coswid_res.specs.Fields.{Name, tag, entity, link, software_meta, payload, evidence, directory, path_elements, file, process, resource}
pub use Rattle.coswid_res.specs.Fields.{Form, a_text, a_boolean, an_integer, an_unsigned, an_identifier, a_code, a_uri, a_time, a_hash, a_map, anything}
pub use Rattle.coswid_res.specs.Fields.{Field, one, one_or_more}

-- A key that must be there, or one that may be: its number, and what stands under it.
pub data Line : Type 0 where
  required : ℕ → Field → Line
  optional : ℕ → Field → Line

-- Such a line of a key, by its row.
abbrev pub required_key : Key → Line
required_key k = required (number k) (keys.field k)

abbrev pub optional_key : Key → Line
optional_key k = optional (number k) (keys.field k)

-- The keys of a map. They rise.
abbrev pub table : Name → List Line
table tag =
    required_key keys.tag_id
    ∷ required_key keys.software_name
    ∷ required_key keys.entity
    ∷ optional_key keys.evidence
    ∷ optional_key keys.link
    ∷ optional_key keys.software_meta
    ∷ optional_key keys.payload
    ∷ optional_key keys.corpus
    ∷ optional_key keys.patch
    ∷ optional_key keys.media
    ∷ optional_key keys.supplemental
    ∷ required_key keys.tag_version
    ∷ optional_key keys.software_version
    ∷ optional_key keys.version_scheme
    ∷ optional_key keys.lang
    ∷ []
table entity =
    required_key keys.entity_name
    ∷ optional_key keys.reg_id
    ∷ required_key keys.role
    ∷ optional_key keys.thumbprint
    ∷ []
table link =
    optional_key keys.media
    ∷ optional_key keys.artifact
    ∷ required_key keys.href
    ∷ optional_key keys.ownership
    ∷ required_key keys.rel
    ∷ optional_key keys.media_type
    ∷ optional_key keys.link_use
    ∷ []
table software_meta =
    optional_key keys.activation_status
    ∷ optional_key keys.channel_type
    ∷ optional_key keys.colloquial_version
    ∷ optional_key keys.description
    ∷ optional_key keys.edition
    ∷ optional_key keys.entitlement_data_required
    ∷ optional_key keys.entitlement_key
    ∷ optional_key keys.generator
    ∷ optional_key keys.persistent_id
    ∷ optional_key keys.product
    ∷ optional_key keys.product_family
    ∷ optional_key keys.revision
    ∷ optional_key keys.summary
    ∷ optional_key keys.unspsc_code
    ∷ optional_key keys.unspsc_version
    ∷ []
table payload =
    optional_key keys.directory
    ∷ optional_key keys.file
    ∷ optional_key keys.process
    ∷ optional_key keys.resource
    ∷ []
table evidence =
    optional_key keys.directory
    ∷ optional_key keys.file
    ∷ optional_key keys.process
    ∷ optional_key keys.resource
    ∷ optional_key keys.location
    ∷ optional_key keys.date
    ∷ optional_key keys.device_id
    ∷ []
table directory =
    optional_key keys.key
    ∷ optional_key keys.location
    ∷ required_key keys.fs_name
    ∷ optional_key keys.root
    ∷ optional_key keys.path_elements
    ∷ []
table path_elements =
    optional_key keys.directory
    ∷ optional_key keys.file
    ∷ []
table file =
    optional_key keys.hash
    ∷ optional_key keys.size
    ∷ optional_key keys.file_version
    ∷ optional_key keys.key
    ∷ optional_key keys.location
    ∷ required_key keys.fs_name
    ∷ optional_key keys.root
    ∷ []
table process =
    required_key keys.process_name
    ∷ optional_key keys.pid
    ∷ []
table resource =
    required_key keys.resource_type
    ∷ []

abbrev pub key_of : Line → ℕ
key_of (required k field) = k
key_of (optional k field) = k

abbrev pub field_of : Line → Field
field_of (required k field) = field
field_of (optional k field) = field

-- all keys of a map, and those that must be there
abbrev pub keys_of : List Line → List ℕ
keys_of [] = []
keys_of (line ∷ lines) = key_of line ∷ keys_of lines

abbrev pub required_keys : List Line → List ℕ
required_keys [] = []
required_keys (required k field ∷ lines) = k ∷ required_keys lines
required_keys (optional k field ∷ lines) = required_keys lines
