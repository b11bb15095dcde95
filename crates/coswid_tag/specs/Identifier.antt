-- The software identifier of a tag: RFC 8412, section 3.4.1, of the tag-id and the reg-id
-- of RFC 9393, sections 2.3 and 2.6.
use Rattle.std.specs.Prelude.{◌≡◌, ◌<◌, ◌≤◌, ℕ, List, [], ◌∷◌, ◌++◌, length, codes, Option, Some, None, Result, Ok, Err, if◌then◌else◌}
use Rattle.uuid.specs.Text.{urn_text, lower}
use Rattle.coswid_tag.specs.declared.entity.Entity.{Entity}
use Rattle.coswid_tag.specs.declared.identifier.IdentRefused.{IdentRefused}
use Rattle.coswid_tag.specs.declared.identifier.IdentRefused.TheVariants as refused
use Rattle.coswid_tag.specs.declared.tag.Tag.{Tag}
use Rattle.coswid_tag.specs.declared.value.TagId.{TagId}
use Rattle.coswid_tag.specs.declared.value.TagId.TheVariants as identifier
use Rattle.coswid_tag.specs.Findings.{created}

-- the first entity that created the tag
abbrev pub creator : List Entity → Option Entity
creator [] = None
creator (e ∷ es) = if created e then Some e else creator es

-- who registered: `invalid.unavailable` where it is not said
abbrev pub registered : Option (List ℕ) → List ℕ
registered None = codes "invalid.unavailable"
registered (Some s) = s

-- a UUID as a URN in lower case: RFC 9562, section 4
abbrev pub tag_id_text : TagId → List ℕ
tag_id_text (identifier.Text s) = s
tag_id_text (identifier.Uuid s) = urn_text lower s

abbrev pub identifier_by : Tag → Entity → List ℕ
identifier_by g e = registered e.reg_id ++ codes "__" ++ tag_id_text g.tag_id

-- the identifier, where an entity created the tag
abbrev pub identifier_of : Tag → Option (List ℕ)
identifier_of g = elim (creator g.entity) as (λ _. Option (List ℕ)) [ None ↦ None | Some e ↦ Some (identifier_by g e) ]

-- What is answered of it: none; too long for the 65535 octets that a record holds; itself, unless
-- memory ran out.
abbrev pub Answers : Option (List ℕ) → Result (List ℕ) IdentRefused → Type 0
Answers told (Ok text) = (told ≡ Some text) × (length text ≤ 65535)
Answers told (Err refused.NoCreator) = told ≡ None
Answers told (Err (refused.TooLong n)) = (text : List ℕ) × (told ≡ Some text) × (n ≡ length text) × (65535 < n)
Answers told (Err refused.Memory) = Unit {0}
