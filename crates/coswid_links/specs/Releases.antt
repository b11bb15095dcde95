-- Releases of tags, and contents of these, as values that have an order.
use Rattle.std.specs.Prelude.{ℕ, ℤ, Bool, ◌&&◌, List}
use Rattle.std.specs.Ordering.{int_eq}
use Rattle.std.specs.Str.{bytes_eq}
use Rattle.cbor_det.specs.Canonical.{canon}
use Rattle.coswid_codec.specs.Items.{tag_item}
use Rattle.coswid_tag.specs.declared.tag.Tag.{Tag}
use Rattle.coswid_tag.specs.declared.value.TagId.{TagId}
use Rattle.coswid_tag.specs.declared.value.TagId.TheVariants as identifier
use Rattle.coswid_links.specs.declared.release.Content.{Content}
use Rattle.coswid_links.specs.declared.release.Identifier.{Identifier}
use Rattle.coswid_links.specs.declared.release.Identifier.TheVariants as ordered
use Rattle.coswid_links.specs.declared.release.Release.{Release}
use Rattle.coswid_links.specs.Rivals.{same_identifier}

-- the identifier, as tags have it
abbrev pub identifier_of : Identifier → TagId
identifier_of (ordered.Text s) = identifier.Text s.items
identifier_of (ordered.Uuid s) = identifier.Uuid s

-- a release, as its identifier and its version
abbrev pub Claim : Type 0
Claim = TagId × ℤ

-- what this is the release of
abbrev pub claim_of : Release → Claim
claim_of r = (identifier_of r.tag_id, r.tag_version)

-- the release that the tag is
abbrev pub claim : Tag → Claim
claim g = (g.tag_id, g.tag_version)

abbrev pub same_claim : Claim → Claim → Bool
same_claim c d = same_identifier c.0 d.0 && int_eq c.1 d.1

-- a release, and the canonical octets of a tag of it
abbrev pub Written : Type 0
Written = Claim × List ℕ

-- what this is the content of
abbrev pub content_of : Content → Written
content_of c = (claim_of c.release, c.octets.items)

-- the release that the tag is, and its canonical octets
abbrev pub content : Tag → Written
content g = (claim g, canon (tag_item g))

abbrev pub same_content : Written → Written → Bool
same_content c d = same_claim c.0 d.0 && bytes_eq c.1 d.1
