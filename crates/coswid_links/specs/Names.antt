-- The names of tags, each with whether a tag of this name is primary.
use Rattle.std.specs.Prelude.{◌≡◌, ℕ, Bool, ◌&&◌, List, [], ◌∷◌, take, drop, true, false, Option, Some, None, if◌then◌else◌}
use Rattle.std.specs.BTreeMap.{get_by_text}
use Rattle.std.specs.List.{list_any}
use Rattle.std.specs.Str.{bytes_eq}
use Rattle.coswid_tag.specs.declared.tag.Tag.{Tag}
use Rattle.coswid_links.specs.declared.finding.LinkFinding.{LinkFinding}
use Rattle.coswid_links.specs.declared.names.Names.{Names}
use Rattle.coswid_links.specs.Aims.{scheme, is_called, is_primary}

abbrev pub primary_of : List Tag → List ℕ → Option Bool
primary_of gs name =
    if list_any (is_called name) gs then Some (list_any (λ g. is_called name g && is_primary g) gs) else None

-- They are the names of these tags.
abbrev pub AreNamesOf : List Tag → Names → Type 0
AreNamesOf gs names = (name : List ℕ) → get_by_text names.is_primary name ≡ primary_of gs name

-- the name that a reference calls
abbrev pub named_in : List ℕ → Option (List ℕ)
named_in href = if bytes_eq (take 5 href) scheme then Some (drop 5 href) else None

-- what a finding of this number is, listed for the link of these two numbers
abbrev pub listed : Option ℕ → ℕ → ℕ → List LinkFinding
listed None first second = []
listed (Some kind) first second = record { kind = kind; first = first; second = second } ∷ []

-- The number of what is wrong with a link to a name. It depends on whether a tag of the name is
-- primary (`None`: no tag has it), whether the link requires the tag, and whether it changes
-- (patches or supplements) it.
abbrev pub judged : Option Bool → Bool → Bool → Option ℕ
judged None required changes = if required then Some 3 else Some 1
judged (Some true) required changes = None
judged (Some false) required changes = if changes then Some 2 else None
