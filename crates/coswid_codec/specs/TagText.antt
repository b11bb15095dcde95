-- The text of a tag that the command `tag` prints: a line each for its kind, its software
-- identifier, its findings and its canonical spelling.
use Rattle.std.specs.Prelude.{ℕ, List, ◌++◌, Option, Some, None, codes, decimal, length, nat_lt, if◌then◌else◌}
use Rattle.std.specs.List.{flat_map}
use Rattle.hex.specs.Hex.{encode_lower}
use Rattle.wire_base.specs.Escaped.{escaped}
use Rattle.cbor_det.specs.Canonical.{canon}
use Rattle.coswid_tag.specs.Findings.{findings}
use Rattle.coswid_tag.specs.Identifier.{identifier_of}
use Rattle.coswid_tag.specs.Kind.{kind}
use Rattle.coswid_tag.specs.declared.tag_kind.TagKind.{TagKind}
use Rattle.coswid_tag.specs.declared.tag_kind.TagKind.TheVariants.{Corpus, Patch, Supplemental, Primary}
use Rattle.coswid_tag.specs.declared.tag.Tag.{Tag}
use Rattle.coswid_codec.specs.Items.{tag_item}

-- The kind: RFC 9393, section 3.
abbrev pub kind_line : TagKind → List ℕ
kind_line Corpus = codes "tag corpus\n"
kind_line Patch = codes "tag patch\n"
kind_line Supplemental = codes "tag supplemental\n"
kind_line Primary = codes "tag primary\n"

-- An identifier that a record has room for (RFC 8412, section 5.7); of a longer one its length.
abbrev pub told_identifier : List ℕ → List ℕ
told_identifier text = if nat_lt 65535 (length text) then codes "long " ++ decimal (length text) else escaped text

-- The software identifier, where there is one: RFC 8412, section 3.4.1.
abbrev pub identifier_line : Option (List ℕ) → List ℕ
identifier_line None = codes "ident none\n"
identifier_line (Some text) = codes "ident " ++ (told_identifier text ++ codes "\n")

-- A finding, by its number.
abbrev pub finding_line : ℕ → List ℕ
finding_line number = codes "finding F" ++ (decimal number ++ codes "\n")

-- A spelling: how many octets it has, and these in hexadecimal digits.
abbrev pub canonical_line : List ℕ → List ℕ
canonical_line octets = codes "canonical " ++ (decimal (length octets) ++ (codes " " ++ (encode_lower octets ++ codes "\n")))

-- The lines before that of the spelling, in this order.
abbrev pub summary_text : Tag → List ℕ
summary_text g = kind_line (kind g) ++ identifier_line (identifier_of g) ++ flat_map finding_line (findings g)

-- All lines.
unfoldable pub tag_text : Tag → List ℕ
tag_text g = summary_text g ++ canonical_line (canon (tag_item g))
