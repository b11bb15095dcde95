-- Values of the registries: RFC 9393, section 4.
use Rattle.std.specs.Prelude.{ℕ, ◌==◌, pos, negsuc, Bool, false, List, codes}
use Rattle.std.specs.Str.{bytes_eq}
use Rattle.coswid_tag.specs.declared.rel.Rel.{Rel}
use Rattle.coswid_tag.specs.declared.rel.Rel.TheVariants as rel
use Rattle.coswid_tag.specs.declared.value.CodeValue.{CodeValue}
use Rattle.coswid_tag.specs.declared.value.CodeValue.TheVariants as code

-- The code is this number of a registry.
abbrev pub is_number : ℕ → CodeValue → Bool
is_number n (code.Int (pos m)) = m == n
is_number n (code.Int (negsuc m)) = false
is_number n (code.Text s) = false

-- The code is this number, or the text that names it.
abbrev pub is_named : ℕ → List ℕ → CodeValue → Bool
is_named n name (code.Int (pos m)) = m == n
is_named n name (code.Int (negsuc m)) = false
is_named n name (code.Text s) = bytes_eq s name

-- role 1, the creator of the tag: section 4.2
abbrev pub is_creator : CodeValue → Bool
is_creator c = is_number 1 c

-- rel 7, 8 and 11: section 4.4
abbrev pub patches : CodeValue → Bool
patches c = is_named 7 (codes "patches") c

abbrev pub supplements : CodeValue → Bool
supplements c = is_named 11 (codes "supplemental") c

abbrev pub requires_it : CodeValue → Bool
requires_it c = is_named 8 (codes "requires") c

-- The code is that of this relation.
abbrev pub is_rel : Rel → CodeValue → Bool
is_rel rel.Patches c = patches c
is_rel rel.Requires c = requires_it c
is_rel rel.Supplemental c = supplements c
