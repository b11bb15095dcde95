-- The tag under which tags are written, and items with it and without: RFC 9393, section 8. What
-- the standard calls tagged is marked here, since `tagged` is an item under any tag.
use Rattle.std.specs.Prelude.{ℕ, ◌==◌, Option, Some, None, Bool, false, not, ◌&&◌, is_some, nat_le, if◌then◌else◌}
use Rattle.cbor_det.specs.Term.{Term, map, tagged, depth}
use Rattle.cbor_det.specs.Lookup.{value_under}
use Rattle.coswid_res.specs.Keys as keys
use Rattle.coswid_res.specs.Keys.{number}

abbrev pub coswid : ℕ
coswid = 1398229316

abbrev pub is_marked : Term → Bool
is_marked (tagged n t) = n == coswid
is_marked t = false

-- what stands under the tag, or the item itself
abbrev pub content : Term → Term
content (tagged n t) = if n == coswid then t else tagged n t
content t = t

-- An item without the tag would be too deep with it.
abbrev pub is_deep : Term → Bool
is_deep t = not (is_marked t) && nat_le 64 (depth t)

-- A map has both evidence and a payload: sections 2.9.3 and 2.9.4.
abbrev pub has_both : Term → Bool
has_both (map ps) = is_some (value_under (number keys.evidence) ps) && is_some (value_under (number keys.payload) ps)
has_both t = false

-- the depth of what is there
abbrev pub some_depth : Option Term → ℕ
some_depth None = 0
some_depth (Some t) = depth t
