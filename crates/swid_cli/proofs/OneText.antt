-- An input is spelled in one way only, if any, so `tag` prints one text of it.
use Rattle.std.proofs.Common.{◌≡◌, ℕ, ◌≤◌, List, [], ◌∷◌, map as map_list, length, inl, inr, Option, Some, None, refl, sym, ap, subst, ◌∙◌, arith}
use Rattle.std.specs.Prelude.{codes}
use Rattle.std.proofs.lemmas.Bool.{cases_lt}
use Rattle.wire_base.specs.Layout.{AreOctets}
use Rattle.wire_base.specs.NamedFile.{content_of}
use Rattle.wire_base.specs.declared.outside.files.NamedFile.{NamedFile}
use Rattle.cbor_det.specs.Answers.{IsRefusal}
use Rattle.cbor_det.specs.Faults.{Begins}
use Rattle.cbor_det.specs.Laws.{SomeOutcome}
use Rattle.cbor_det.specs.Term.{Term}
use Rattle.cbor_det.specs.declared.fault.CborFault.{CborFault}
use Rattle.cbor_det.specs.declared.fault.CborRefused.TheVariants as refused
use Rattle.cbor_det.proofs.Outcomes.{some_outcome}
use Rattle.coswid_res.specs.declared.fault.FormFault.{FormFault}
use Rattle.coswid_res.specs.Listing.{listed}
use Rattle.coswid_res.specs.Verify.{IsLine, IsVerdicts, verdict_of, verdict_on, verdicts_of}
use Rattle.coswid_res.specs.Listing.{ListedFile}
use Rattle.coswid_res.specs.declared.resources.payload.Payload.{Payload}
use Rattle.coswid_res.specs.declared.verification.verdict.Verdict.{Verdict}
use Rattle.coswid_tag.specs.Findings.{findings}
use Rattle.coswid_tag.specs.declared.tag.Tag.{Tag}
use Rattle.coswid_codec.specs.Answers.{limits, BeginsTag}
use Rattle.coswid_codec.specs.Forms.{TagForm}
use Rattle.coswid_codec.specs.TagFault.{tag_fault}
use Rattle.coswid_codec.proofs.Outcomes.{begins_one_tag, fault_same, form_same, item_not_refused, tag_not_faulty}
use Rattle.coswid_codec.proofs.Whole.{no_fault_or_no_tag, one_tag_one_spelling}
use Rattle.command_text.specs.declared.ending.Ending.{Ending}
use Rattle.swid_cli.specs.Checking.{PayloadVerdicts, TagVerdicts, checked_ending, checked_text}
use Rattle.swid_cli.specs.Tagging.{TAG_OCTETS, TagTells, long_input, more_follows, no_item, no_tag, form_line, whole_tag}
use Rattle.swid_cli.specs.TagLaws.{OneTagText, OneText, OneVerifiedText, SomeTagText, ToldAlike}
use Rattle.command_text.specs.Text.{fault_line, refusal}
use Rattle.swid_cli.specs.declared.command.Scope.{Scope}
use Rattle.swid_cli.specs.declared.command.Scope.TheVariants as scope

-- ---- one line of a fault

pub line_same : (octets : List ℕ) (f e : CborFault) → IsRefusal limits octets (refused.Fault f) → IsRefusal limits octets (refused.Fault e) → fault_line f.kind f.at ≡ fault_line e.kind e.at
line_same octets f e a b =
    let s = fault_same octets f e a b in
    ap (λ (k : ℕ). fault_line k f.at) s.0 ∙ ap (λ (n : ℕ). fault_line e.kind n) s.1

-- ---- verdicts

module _ (looked_at : Scope) (files : Option (List NamedFile)) where
  -- Of one tag the verdicts are the same.
  abbrev pub OneVerdicts : Type 0
  OneVerdicts = (g h : Tag) (vs ws : List (List ℕ × Verdict)) → g ≡ h → TagVerdicts looked_at files g vs → TagVerdicts looked_at files h ws → vs ≡ ws

  text_same : OneVerdicts → (octets : List ℕ) (g h : Tag) (vs ws : List (List ℕ × Verdict)) → BeginsTag octets g (length octets) → BeginsTag octets h (length octets)
      → TagVerdicts looked_at files g vs → TagVerdicts looked_at files h ws → (checked_text g vs ≡ checked_text h ws) × (checked_ending (findings g) vs ≡ checked_ending (findings h) ws)
  text_same one octets g h vs ws a b is are =
      let tags = (begins_one_tag octets g h (length octets) (length octets) a b).0 in
      let verdicts = one g h vs ws tags is are in (
        ap (λ (k : Tag). checked_text k vs) tags ∙ ap (λ (xs : List (List ℕ × Verdict)). checked_text h xs) verdicts,
        ap (λ (k : Tag). checked_ending (findings k) vs) tags ∙ ap (λ (xs : List (List ℕ × Verdict)). checked_ending (findings h) xs) verdicts,
      )

  one_text : OneVerdicts → OneText looked_at files
  one_text one octets text other how also (long_input _ _) (long_input _ _) = (refl, refl)
  one_text one octets text other how also (long_input _ over) (no_item _ e within _) = absurd (omega (arith, over, within))
  one_text one octets text other how also (long_input _ over) (no_tag _ e within _) = absurd (omega (arith, over, within))
  one_text one octets text other how also (long_input _ over) (more_follows _ h m within _ _) = absurd (omega (arith, over, within))
  one_text one octets text other how also (long_input _ over) (whole_tag _ h ws b are) = absurd (omega (arith, over, b.begins.short))
  one_text one octets text other how also (no_item _ f within _) (long_input _ over) = absurd (omega (arith, over, within))
  one_text one octets text other how also (no_item _ f _ a) (no_item _ e _ b) = (line_same octets f e a b, refl)
  one_text one octets text other how also (no_item _ f _ a) (no_tag _ e _ b) = absurd (item_not_refused octets f b.item b.len a b.begins)
  one_text one octets text other how also (no_item _ f _ a) (more_follows _ h m _ b _) = absurd (item_not_refused octets f b.item m a b.begins)
  one_text one octets text other how also (no_item _ f _ a) (whole_tag _ h ws b are) = absurd (item_not_refused octets f b.item (length octets) a b.begins)
  one_text one octets text other how also (no_tag _ f within _) (long_input _ over) = absurd (omega (arith, over, within))
  one_text one octets text other how also (no_tag _ f _ a) (no_item _ e _ b) = absurd (item_not_refused octets e a.item a.len b a.begins)
  one_text one octets text other how also (no_tag _ f _ a) (no_tag _ e _ b) = (ap form_line (form_same octets f e a b), refl)
  one_text one octets text other how also (no_tag _ f _ a) (more_follows _ h m _ b _) = absurd (tag_not_faulty octets f h m a b)
  one_text one octets text other how also (no_tag _ f _ a) (whole_tag _ h ws b are) = absurd (tag_not_faulty octets f h (length octets) a b)
  one_text one octets text other how also (more_follows _ g n within _ _) (long_input _ over) = absurd (omega (arith, over, within))
  one_text one octets text other how also (more_follows _ g n _ a _) (no_item _ e _ b) = absurd (item_not_refused octets e a.item n b a.begins)
  one_text one octets text other how also (more_follows _ g n _ a _) (no_tag _ e _ b) = absurd (tag_not_faulty octets e g n b a)
  one_text one octets text other how also (more_follows _ g n _ a _) (more_follows _ h m _ b _) = (ap (λ (k : ℕ). refusal (codes "trailing") k) (begins_one_tag octets g h n m a b).1, refl)
  one_text one octets text other how also (more_follows _ g n _ a less) (whole_tag _ h ws b are) = absurd (omega (arith, less, (begins_one_tag octets g h n (length octets) a b).1))
  one_text one octets text other how also (whole_tag _ g vs a is) (long_input _ over) = absurd (omega (arith, over, a.begins.short))
  one_text one octets text other how also (whole_tag _ g vs a is) (no_item _ e _ b) = absurd (item_not_refused octets e a.item (length octets) b a.begins)
  one_text one octets text other how also (whole_tag _ g vs a is) (no_tag _ e _ b) = absurd (tag_not_faulty octets e g (length octets) b a)
  one_text one octets text other how also (whole_tag _ g vs a is) (more_follows _ h m _ b less) = absurd (omega (arith, less, (begins_one_tag octets h g m (length octets) b a).1))
  one_text one octets text other how also (whole_tag _ g vs a is) (whole_tag _ h ws b are) = text_same one octets g h vs ws a b is are

pub one_tag_text : OneTagText
one_tag_text files = one_text scope.Tag files (λ g h vs ws same is are. is ∙ sym are)

-- A file has one verdict where it is known what it holds.

abbrev line_of : List ℕ → Verdict → List ℕ × Verdict
line_of path verdict = (path, verdict)

line_told : (all : List NamedFile) (file : ListedFile) (line : List ℕ × Verdict) → IsLine (Some all) file line → line ≡ line_of file.path (verdict_of all file)
line_told all file line is =
    ap (λ (path : List ℕ). line_of path line.1) is.0
    ∙ ap (λ (verdict : Verdict). line_of file.path verdict) (is.1.1 ∙ sym (ap (λ (held : Option (List ℕ)). verdict_on file.hash file.size held) is.1.2))

lines_told : (all : List NamedFile) (files : List ListedFile) (lines : List (List ℕ × Verdict)) → IsVerdicts (Some all) files lines → lines ≡ verdicts_of all files
lines_told all [] [] is = refl
lines_told all [] (line ∷ lines) is = absurd is
lines_told all (file ∷ files) [] is = absurd is
lines_told all (file ∷ files) (line ∷ lines) is =
    ap (λ (first : List ℕ × Verdict). first ∷ lines) (line_told all file line is.0)
    ∙ ap (λ (rest : List (List ℕ × Verdict)). line_of file.path (verdict_of all file) ∷ rest) (lines_told all files lines is.1)

payload_told : (all : List NamedFile) (x : Option Payload) (vs ws : List (List ℕ × Verdict)) → PayloadVerdicts (Some all) x vs → PayloadVerdicts (Some all) x ws → vs ≡ ws
payload_told all None vs ws is are = is ∙ sym are
payload_told all (Some p) vs ws is are = lines_told all (listed p) vs is ∙ sym (lines_told all (listed p) ws are)

tag_told : (all : List NamedFile) (g h : Tag) (vs ws : List (List ℕ × Verdict)) → g ≡ h → PayloadVerdicts (Some all) g.payload vs → PayloadVerdicts (Some all) h.payload ws → vs ≡ ws
tag_told all g h vs ws same is are = payload_told all g.payload vs ws is (subst (λ (k : Tag). PayloadVerdicts (Some all) k.payload ws) (sym same) are)

pub one_verified_text : OneVerifiedText
one_verified_text all = one_text scope.Files (Some all) (tag_told all)

-- Some verdicts there are, whatever is reported.

abbrev held_of : Option (List NamedFile) → List ℕ → Option (List ℕ)
held_of None path = None
held_of (Some all) path = content_of all path

some_line : (told : Option (List NamedFile)) (file : ListedFile) → IsLine told file (line_of file.path (verdict_on file.hash file.size (held_of told file.path)))
some_line None file = (refl, (None, refl, tt))
some_line (Some all) file = (refl, (content_of all file.path, refl, refl))

abbrev some_lines : Option (List NamedFile) → List ListedFile → List (List ℕ × Verdict)
some_lines told files = map_list (λ (file : ListedFile). line_of file.path (verdict_on file.hash file.size (held_of told file.path))) files

lines_there : (told : Option (List NamedFile)) (files : List ListedFile) → IsVerdicts told files (some_lines told files)
lines_there told [] = tt
lines_there told (file ∷ files) = (some_line told file, lines_there told files)

some_verdicts : (looked_at : Scope) (told : Option (List NamedFile)) (g : Tag) → (verdicts : List (List ℕ × Verdict)) × TagVerdicts looked_at told g verdicts
some_verdicts scope.Tag told g = ([], refl)
some_verdicts scope.Files told g = by_payload g.payload
  where
    by_payload : (x : Option Payload) → (verdicts : List (List ℕ × Verdict)) × PayloadVerdicts told x verdicts
    by_payload None = ([], refl)
    by_payload (Some p) = (some_lines told (listed p), lines_there told (listed p))

-- ---- some outcome

module _ (looked_at : Scope) (files : Option (List NamedFile)) where
  abbrev Told : List ℕ → Type 0
  Told octets = (text : List ℕ) × (how : Ending) × TagTells looked_at files octets text how

  told_tag : (octets : List ℕ) (t : Term) (n : ℕ) (g : Tag) → length octets ≤ TAG_OCTETS → Begins limits octets t n → TagForm g t → Told octets
  told_tag octets t n g within begins form =
      let tag : BeginsTag octets g n = record { item = t; begins = begins; form = form } in
      elim (cases_lt n (length octets)) [
        | inl less ↦ (_, _, more_follows octets g n within tag less)
        | inr all ↦
            let made = some_verdicts looked_at files g in
            (_, _, whole_tag octets g made.0 (subst (λ (m : ℕ). BeginsTag octets g m) (whole n (length octets) all begins.within) tag) made.1)
      ]
    where
      whole : (n m : ℕ) → m ≤ n → n ≤ m → n ≡ m
      whole n m a b = omega (arith, a, b)

  told_item : (octets : List ℕ) (t : Term) (n : ℕ) (first : Option FormFault) → length octets ≤ TAG_OCTETS → Begins limits octets t n → tag_fault t ≡ first → Told octets
  told_item octets t n None within begins is = let made = (no_fault_or_no_tag t).0 is in told_tag octets t n made.0 within begins made.1
  told_item octets t n (Some f) within begins is = (_, _, no_tag octets f within (record { item = t; len = n; begins = begins; fault = is }))

  told_outcome : (octets : List ℕ) → length octets ≤ TAG_OCTETS → SomeOutcome limits octets → Told octets
  told_outcome octets within (inl a) = told_item octets a.0 a.1 (tag_fault a.0) within a.2 refl
  told_outcome octets within (inr (inl a)) = (_, _, no_item octets (record { kind = a.0; at = a.1 }) within (inl a.2))
  told_outcome octets within (inr (inr a)) = (_, _, no_item octets (record { kind = 1; at = length octets }) within (inr (refl, refl, a)))

  some_text : (octets : List ℕ) → AreOctets octets → Told octets
  some_text octets are =
      elim (cases_lt TAG_OCTETS (length octets)) [
        | inl over ↦ (_, _, long_input octets over)
        | inr within ↦ told_outcome octets within (some_outcome limits octets are)
      ]

pub some_tag_text : SomeTagText
some_tag_text looked_at files octets are = some_text looked_at files octets are

-- ---- tags that are written as the same octets

pub told_alike : ToldAlike
told_alike g h n m input other verdicts a b same = ap (λ (k : Tag). checked_text k verdicts) ((one_tag_one_spelling g h n m input other a b).0 same)
