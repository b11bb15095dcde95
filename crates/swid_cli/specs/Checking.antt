-- The verdicts on the files of a tag's payload, and what is printed of a tag with them.
use Rattle.std.specs.Prelude.{◌≡◌, ℕ, Bool, true, false, List, [], ◌∷◌, ◌++◌, Option, Some, None, codes, decimal, if◌then◌else◌}
use Rattle.std.specs.Fmt.{signed_decimal}
use Rattle.std.specs.List.{flat_map, list_any}
use Rattle.wire_base.specs.Escaped.{escaped}
use Rattle.wire_base.specs.declared.outside.files.NamedFile.{NamedFile}
use Rattle.cbor_det.specs.Canonical.{canon}
use Rattle.coswid_res.specs.Listing.{listed}
use Rattle.coswid_res.specs.Verify.{IsVerdicts}
use Rattle.coswid_res.specs.declared.resources.payload.Payload.{Payload}
use Rattle.coswid_res.specs.declared.verification.verdict.Verdict.{Verdict}
use Rattle.coswid_res.specs.declared.verification.verdict.Verdict.TheVariants as verdict
use Rattle.coswid_tag.specs.declared.tag.Tag.{Tag}
use Rattle.coswid_codec.specs.Items.{tag_item}
use Rattle.coswid_codec.specs.TagText.{canonical_line, summary_text}
use Rattle.command_text.specs.Answer.{ending_of}
use Rattle.command_text.specs.declared.ending.Ending.{Ending}
use Rattle.command_text.specs.declared.ending.Ending.TheVariants as ending
use Rattle.command_text.specs.Text.{line}
use Rattle.swid_cli.specs.declared.command.Scope.{Scope}
use Rattle.swid_cli.specs.declared.command.Scope.TheVariants as scope

abbrev pub verdict_text : Verdict → List ℕ
verdict_text verdict.Same = codes "same"
verdict_text verdict.Differs = codes "differs"
verdict_text verdict.Missing = codes "missing"
verdict_text (verdict.LongFile len) = codes "long " ++ decimal len
verdict_text verdict.Unhashed = codes "unhashed"
verdict_text (verdict.UnknownAlgorithm number) = codes "algorithm " ++ signed_decimal number

-- A file: the verdict on it, and its path.
abbrev pub file_line : List ℕ × Verdict → List ℕ
file_line file = line (codes "file" ∷ verdict_text file.1 ∷ escaped file.0 ∷ [])

-- The file is not as the tag states, or that can't be determined.
abbrev pub is_wrong : Verdict → Bool
is_wrong verdict.Same = false
is_wrong verdict.Differs = true
is_wrong verdict.Missing = true
is_wrong (verdict.LongFile len) = true
is_wrong verdict.Unhashed = false
is_wrong (verdict.UnknownAlgorithm number) = true

-- The verdicts on the files of a payload, where there is one.
abbrev pub PayloadVerdicts : Option (List NamedFile) → Option Payload → List (List ℕ × Verdict) → Type 0
PayloadVerdicts told None verdicts = verdicts ≡ []
PayloadVerdicts told (Some payload) verdicts = IsVerdicts told (listed payload) verdicts

-- The verdicts on the files of a tag; none where the tag alone is checked.
abbrev pub TagVerdicts : Scope → Option (List NamedFile) → Tag → List (List ℕ × Verdict) → Type 0
TagVerdicts scope.Tag told g verdicts = verdicts ≡ []
TagVerdicts scope.Files told g verdicts = PayloadVerdicts told g.payload verdicts

-- The lines of a tag, those of its files before that of its canonical spelling.
abbrev pub checked_text : Tag → List (List ℕ × Verdict) → List ℕ
checked_text g verdicts = summary_text g ++ flat_map file_line verdicts ++ canonical_line (canon (tag_item g))

-- How the text of a tag with these findings ends.
abbrev pub checked_ending : List ℕ → List (List ℕ × Verdict) → Ending
checked_ending found verdicts = if list_any (λ file. is_wrong file.1) verdicts then ending.Findings else ending_of found
