-- What `tag` prints of each input is one text, and of tags that are written as the same octets.
use Rattle.std.specs.Prelude.{◌≡◌, ℕ, List, Option, Some}
use Rattle.wire_base.specs.Layout.{AreOctets}
use Rattle.wire_base.specs.declared.outside.files.NamedFile.{NamedFile}
use Rattle.cbor_det.specs.Canonical.{canon}
use Rattle.coswid_res.specs.declared.verification.verdict.Verdict.{Verdict}
use Rattle.coswid_tag.specs.declared.tag.Tag.{Tag}
use Rattle.coswid_codec.specs.Answers.{BeginsTag}
use Rattle.coswid_codec.specs.Items.{tag_item}
use Rattle.command_text.specs.declared.ending.Ending.{Ending}
use Rattle.swid_cli.specs.declared.command.Scope.{Scope}
use Rattle.swid_cli.specs.declared.command.Scope.TheVariants as scope
use Rattle.swid_cli.specs.Checking.{checked_text}
use Rattle.swid_cli.specs.Tagging.{TagTells}

-- An input has at most one text, and one ending.
abbrev pub OneText : Scope → Option (List NamedFile) → Type 0
OneText looked_at files = (octets text other : List ℕ) (how also : Ending) → TagTells looked_at files octets text how → TagTells looked_at files octets other also → (text ≡ other) × (how ≡ also)

-- So it is where the tag alone is checked, and where what files hold is known.
abbrev pub OneTagText : Type 0
OneTagText = (files : Option (List NamedFile)) → OneText scope.Tag files

abbrev pub OneVerifiedText : Type 0
OneVerifiedText = (all : List NamedFile) → OneText scope.Files (Some all)

-- Each input, of numbers below 256, has one.
abbrev pub SomeTagText : Type 0
SomeTagText = (looked_at : Scope) (files : Option (List NamedFile)) (octets : List ℕ) → AreOctets octets → (text : List ℕ) × (how : Ending) × TagTells looked_at files octets text how

-- Tags that are written as the same octets give the same text with the same verdicts, in whatever
-- spellings they came.
abbrev pub ToldAlike : Type 0
ToldAlike = (g h : Tag) (n m : ℕ) (input other : List ℕ) (verdicts : List (List ℕ × Verdict)) → BeginsTag input g n → BeginsTag other h m → canon (tag_item g) ≡ canon (tag_item h) → checked_text g verdicts ≡ checked_text h verdicts
