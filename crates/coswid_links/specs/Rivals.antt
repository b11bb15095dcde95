-- Tags that claim one release of one tag with different content: RFC 9393, section 2.3, tag-id and
-- tag-version.
use Rattle.std.specs.Prelude.{ℕ, Bool, false, not, ◌&&◌, List}
use Rattle.std.specs.Ordering.{int_eq}
use Rattle.std.specs.Str.{bytes_eq}
use Rattle.cbor_det.specs.Canonical.{canon}
use Rattle.coswid_codec.specs.Items.{tag_item}
use Rattle.coswid_tag.specs.declared.tag.Tag.{Tag}
use Rattle.coswid_tag.specs.declared.value.TagId.{TagId}
use Rattle.coswid_tag.specs.declared.value.TagId.TheVariants as identifier
use Rattle.coswid_links.specs.declared.finding.LinkFinding.{LinkFinding}
use Rattle.coswid_links.specs.Listed.{finding}

-- Identifiers count as one as values: a text is none of 16 octets, whatever it says.
abbrev pub same_identifier : TagId → TagId → Bool
same_identifier (identifier.Text s) (identifier.Text t) = bytes_eq s t
same_identifier (identifier.Text s) (identifier.Uuid t) = false
same_identifier (identifier.Uuid s) (identifier.Text t) = false
same_identifier (identifier.Uuid s) (identifier.Uuid t) = bytes_eq s t

abbrev pub same_release : Tag → Tag → Bool
same_release g h = same_identifier g.tag_id h.tag_id && int_eq g.tag_version h.tag_version

abbrev pub same_spelling : Tag → Tag → Bool
same_spelling g h = bytes_eq (canon (tag_item g)) (canon (tag_item h))

-- 4: Both are one release of one tag, and are not written alike.
abbrev pub are_rivals : Tag → Tag → Bool
are_rivals g h = same_release g h && not (same_spelling g h)

-- what is wrong with two tags of these numbers
abbrev pub pair_findings : ℕ → Tag → ℕ → Tag → List LinkFinding
pair_findings i g j h = finding 4 (are_rivals g h) i j
