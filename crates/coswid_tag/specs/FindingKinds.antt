-- The numbers of what is wrong with a tag by itself: the table of docs/rules/tags.md.
use Rattle.std.specs.Prelude.{ℕ}
use Rattle.coswid_tag.specs.declared.finding_kind.FindingKind.{FindingKind}
use Rattle.coswid_tag.specs.declared.finding_kind.FindingKind.TheVariants as kind

abbrev pub finding_number : FindingKind → ℕ
finding_number kind.PatchAndSupplemental = 1
finding_number kind.PrimaryWithoutVersion = 2
finding_number kind.CorpusWithoutVersion = 3
finding_number kind.PatchWithoutLink = 4
finding_number kind.SupplementalWithoutLink = 5
finding_number kind.WithoutCreator = 6
