-- Which tags have an item: RFC 9393, section 2. A value that was made by hand need not have one.
-- These have none:
-- - a value with an empty list of what is one or more;
-- - one with a payload beside evidence;
-- - one with extras, of any of its maps, in which a key of that map's table stands;
-- - one with extras in which one key stands twice, on whatever level;
-- - one with a size of a file above 2^63 - 1;
-- - one whose item would be deeper than 64.
use Rattle.std.specs.Prelude.{◌≤◌}
use Rattle.cbor_det.specs.Proper.{IsProper}
use Rattle.cbor_det.specs.Term.{Term, depth}
use Rattle.coswid_tag.specs.declared.tag.Tag.{Tag}
use Rattle.coswid_codec.specs.Forms.{TagForm}
use Rattle.coswid_codec.specs.Items.{tag_item}

-- The item may be spelled, is no deeper than what is looked at, and the tag may be read from it.
pub record IsItemOf (g : Tag) (t : Term) : Type 0 where
  pub proper : IsProper t
  pub shallow : depth t ≤ 64
  pub form : TagForm g t

-- What the tag is written as is an item of it.
abbrev pub HasItem : Tag → Type 0
HasItem g = IsItemOf g (tag_item g)
