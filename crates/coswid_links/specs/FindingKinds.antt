-- The numbers of what is wrong between tags: the table of docs/rules/tags.md.
use Rattle.std.specs.Prelude.{ℕ}
use Rattle.coswid_links.specs.declared.link_finding_kind.LinkFindingKind.{LinkFindingKind}
use Rattle.coswid_links.specs.declared.link_finding_kind.LinkFindingKind.TheVariants as kind

abbrev pub finding_number : LinkFindingKind → ℕ
finding_number kind.NoTag = 1
finding_number kind.NotPrimary = 2
finding_number kind.NotMet = 3
finding_number kind.Rivals = 4
