-- What kind a tag is: RFC 9393, section 3.
use Rattle.std.specs.Prelude.{Bool, false, Option, Some, None, if◌then◌else◌}
use Rattle.coswid_tag.specs.declared.tag.Tag.{Tag}
use Rattle.coswid_tag.specs.declared.tag_kind.TagKind.{TagKind}
use Rattle.coswid_tag.specs.declared.tag_kind.TagKind.TheVariants.{Corpus, Patch, Supplemental, Primary}

-- a flag that is not there is false
abbrev pub is_true : Option Bool → Bool
is_true None = false
is_true (Some b) = b

abbrev pub kind : Tag → TagKind
kind g = if is_true g.corpus then Corpus else if is_true g.patch then Patch else if is_true g.supplemental then Supplemental else Primary
