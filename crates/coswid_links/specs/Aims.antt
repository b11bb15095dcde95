-- Links that aim at tags of a list: RFC 9393, section 5.1.
use Rattle.std.specs.Prelude.{ℕ, Bool, true, false, ◌&&◌, List, ◌++◌, take, codes}
use Rattle.std.specs.List.{list_any}
use Rattle.std.specs.Str.{bytes_eq}
use Rattle.uuid.specs.Text.{hyphenated_text, lower}
use Rattle.coswid_tag.specs.declared.link.LinkEntry.{LinkEntry}
use Rattle.coswid_tag.specs.declared.tag_kind.TagKind.{TagKind}
use Rattle.coswid_tag.specs.declared.tag_kind.TagKind.TheVariants.{Corpus, Patch, Supplemental, Primary}
use Rattle.coswid_tag.specs.declared.tag.Tag.{Tag}
use Rattle.coswid_tag.specs.declared.value.TagId.{TagId}
use Rattle.coswid_tag.specs.declared.value.TagId.TheVariants as identifier
use Rattle.coswid_tag.specs.Kind.{kind}

-- the scheme of references to tags
abbrev pub scheme : List ℕ
scheme = codes "swid:"

-- the name by which references call a tag; a UUID stands as its text in lower case: RFC 9562,
-- section 4
abbrev pub name_of : TagId → List ℕ
name_of (identifier.Text s) = s
name_of (identifier.Uuid s) = hyphenated_text lower s

-- whether the tag has this name
abbrev pub is_called : List ℕ → Tag → Bool
is_called name g = bytes_eq name (name_of g.tag_id)

-- whether the link refers to tags
abbrev pub is_reference : LinkEntry → Bool
is_reference l = bytes_eq (take 5 l.href) scheme

-- whether the link aims at the tag: it refers to the tag's name
abbrev pub aims_at : LinkEntry → Tag → Bool
aims_at l g = bytes_eq l.href (scheme ++ name_of g.tag_id)

-- whether it aims at some tag of the list
abbrev pub aims_at_some : List Tag → LinkEntry → Bool
aims_at_some gs l = list_any (aims_at l) gs

abbrev pub is_primary_kind : TagKind → Bool
is_primary_kind Corpus = false
is_primary_kind Patch = false
is_primary_kind Supplemental = false
is_primary_kind Primary = true

-- whether the tag is primary: section 3
abbrev pub is_primary : Tag → Bool
is_primary g = is_primary_kind (kind g)

-- whether it aims at some primary tag of the list
abbrev pub aims_at_primary : List Tag → LinkEntry → Bool
aims_at_primary gs l = list_any (λ g. aims_at l g && is_primary g) gs
