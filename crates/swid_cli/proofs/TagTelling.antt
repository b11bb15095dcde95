-- What `tag` reports of octets.
use Rattle.std.proofs.Common.{◌≡◌, ℕ, ◌≤◌, ◌⊎◌, inl, inr, false, List, [], ◌∷◌, length, Option, Result, Ok, Err, refl, sym, subst, ◌∙◌, arith}
use Rattle.std.specs.Bool.{OnTrue}
use Rattle.wire_base.specs.Outside.{HasCause, Rose}
use Rattle.wire_base.specs.Passing.{is_fault}
use Rattle.wire_base.specs.declared.outside.stopped.Stopped.{Stopped}
use Rattle.wire_base.specs.declared.outside.stopped.Stopped.TheVariants as stopped
use Rattle.swid_cli.specs.Causes.{HasFilesCauses}
use Rattle.wire_base.specs.declared.outside.files.NamedFile.{NamedFile}
use Rattle.coswid_res.specs.declared.verification.verdict.Verdict.{Verdict}
use Rattle.coswid_tag.specs.Findings.{findings}
use Rattle.coswid_tag.specs.declared.tag.Tag.{Tag}
use Rattle.coswid_codec.specs.Answers.{BeginsTag, IsRefusal}
use Rattle.coswid_codec.specs.declared.read.TagRefused.{TagRefused}
use Rattle.coswid_codec.specs.declared.read.TagRefused.TheVariants as refused
use Rattle.command_text.specs.declared.answer.Answer.{Answer}
use Rattle.swid_cli.specs.declared.command.Command.TheVariants as command
use Rattle.command_text.specs.declared.ending.Ending.{Ending}
use Rattle.command_text.specs.declared.ending.Ending.TheVariants as ending
use Rattle.command_text.specs.Answer.{refusal_answer}
use Rattle.swid_cli.specs.Checking.{TagVerdicts, checked_ending, checked_text}
use Rattle.swid_cli.specs.Commands.{Says}
use Rattle.swid_cli.specs.Run.{status_of}
use Rattle.swid_cli.specs.Tagging.{AnswersRefused, TAG_OCTETS, TagTells, long_input, more_follows, no_item, no_tag, whole_tag}
use Rattle.swid_cli.specs.Words.{IsTag, IsTagVerify}
use Rattle.swid_cli.proofs.Telling.{IsSound, IsWide}
use Rattle.swid_cli.specs.declared.command.Scope.{Scope}
use Rattle.swid_cli.specs.declared.command.Scope.TheVariants as scope

module _ (looked_at : Scope) (files : Option (List NamedFile)) where
  abbrev pub Tells : List ℕ → List ℕ → Ending → Type 0
  Tells octets text how = TagTells looked_at files octets text how

  -- The text of a refusal.
  pub refused_tells : (octets told : List ℕ) (made : Answer) → made ≡ refusal_answer told → Tells octets told ending.Refused → Tells octets made.text made.ending
  refused_tells octets told made is tells = rw is tells

  -- The text of octets that begin with no tag.
  pub no_tag_tells : (octets : List ℕ) (why : TagRefused) (made : Answer) → length octets ≤ TAG_OCTETS → IsRefusal octets why → AnswersRefused why made → Tells octets made.text made.ending
  no_tag_tells octets (refused.Cbor fault) made within is answers = refused_tells octets _ made answers (no_item octets fault within is)
  no_tag_tells octets (refused.Form fault) made within is answers = refused_tells octets _ made answers (no_tag octets fault within is)
  no_tag_tells octets refused.Memory made within is answers = absurd answers

  -- The text of a tag after which nothing follows.
  pub whole_tells : (octets text : List ℕ) (g : Tag) (used : ℕ) (verdicts : List (List ℕ × Verdict)) (how : Ending) → BeginsTag octets g used → length octets ≤ used
      → TagVerdicts looked_at files g verdicts → text ≡ checked_text g verdicts → how ≡ checked_ending (findings g) verdicts → Tells octets text how
  whole_tells octets text g used verdicts how begins all are is ends =
      let same : used ≡ length octets = omega (arith, all, begins.begins.within) in
      rw (is, ends) (whole_tag octets g verdicts (subst (λ (n : ℕ). BeginsTag octets g n) same begins) are)

  -- More octets than the input may have are reported as those that were read of them.
  pub tag_wide : IsWide TAG_OCTETS (TagTells looked_at files)
  tag_wide held octets text how over more same (long_input _ _) = long_input octets more
  tag_wide held octets text how over more same (no_item _ fault within is) = absurd (omega (arith, over, within))
  tag_wide held octets text how over more same (no_tag _ fault within is) = absurd (omega (arith, over, within))
  tag_wide held octets text how over more same (more_follows _ g len within begins less) = absurd (omega (arith, over, within))
  tag_wide held octets text how over more same (whole_tag _ g verdicts begins are) = absurd (omega (arith, over, begins.begins.short))

  pub tag_sound : IsSound TAG_OCTETS (TagTells looked_at files)
  tag_sound octets text how (long_input _ over) sound = absurd (never sound)
    where
      never : ending.Refused ≡ ending.Whole → ⊥
      never e = absurd cc
  tag_sound octets text how (no_item _ fault within is) sound = within
  tag_sound octets text how (no_tag _ fault within is) sound = within
  tag_sound octets text how (more_follows _ g len within begins less) sound = within
  tag_sound octets text how (whole_tag _ g verdicts begins are) sound = begins.begins.short

-- Which of the two commands the words say.

differ : (words : List (List ℕ)) → IsTag words → IsTagVerify words → ⊥
differ words a b = never (sym a ∙ b)
  where
    never : {A : Type 0} {x y z : A} → x ∷ [] ≡ y ∷ z ∷ [] → ⊥
    never e = absurd cc

pub says_tag : (looked_at : Scope) (words : List (List ℕ)) → Says (command.Tag looked_at) words → IsTag words → looked_at ≡ scope.Tag
says_tag scope.Tag words said is = refl
says_tag scope.Files words said is = absurd (differ words is said)

pub says_verify : (looked_at : Scope) (words : List (List ℕ)) → Says (command.Tag looked_at) words → IsTagVerify words → looked_at ≡ scope.Files
says_verify scope.Tag words said is = absurd (differ words said is)
says_verify scope.Files words said is = refl

pub verify_said : (looked_at : Scope) (words : List (List ℕ)) → Says (command.Tag looked_at) words → looked_at ≡ scope.Files → IsTagVerify words
verify_said scope.Tag words said is = absurd (never is)
  where
    never : scope.Tag ≡ scope.Files → ⊥
    never e = absurd cc
verify_said scope.Files words said is = said

pub tag_said : (looked_at : Scope) (words : List (List ℕ)) → Says (command.Tag looked_at) words → ¬ IsTagVerify words → looked_at ≡ scope.Tag
tag_said scope.Tag words said other = refl
tag_said scope.Files words said other = absurd (other said)

-- ---- why the command stopped

abbrev pub failure : Stopped → Result Answer Stopped
failure stop = Err stop

-- What was read of the input was no fault, and the verdicts stopped it.
pub stopped_by_files : (looked_at : Scope) (input-before input-after output files-before files-after : ℕ) (result : Result Ending Stopped) (stop : Stopped) → result ≡ Err stop → HasCause input-before input-after false
    → HasCause files-before files-after (is_fault (failure stop)) → OnTrue (is_fault (failure stop)) (looked_at ≡ scope.Files) → HasFilesCauses looked_at input-before input-after output output files-before files-after result
stopped_by_files looked_at ib ia o fb fa result stopped.Fault is input files looked = rw is (record {
  input = input.later;
  output = omega arith;
  files = files.later;
  cause = inr (inr (looked, files.cause));
})
stopped_by_files looked_at ib ia o fb fa result stopped.Memory is input files looked = rw is (record {
  input = input.later;
  output = omega arith;
  files = files.later;
  cause = (input.cause, refl, files.cause);
})

-- Status 3 reports a fault, one of files where they were looked at.
pub tag_fault : (looked_at : Scope) (words : List (List ℕ)) (input-before input-after output-before output-after files-before files-after : ℕ) (result : Result Ending Stopped) (status : ℕ) → status ≡ status_of result
    → Says (command.Tag looked_at) words → HasFilesCauses looked_at input-before input-after output-before output-after files-before files-after result → status ≡ 3
    → Rose input-before input-after ⊎ Rose output-before output-after ⊎ (IsTagVerify words × Rose files-before files-after)
tag_fault looked_at words ib ia ob oa fb fa (Ok ending.Whole) status is said causes fault = absurd (omega (arith, is, fault))
tag_fault looked_at words ib ia ob oa fb fa (Ok ending.Refused) status is said causes fault = absurd (omega (arith, is, fault))
tag_fault looked_at words ib ia ob oa fb fa (Ok ending.Findings) status is said causes fault = absurd (omega (arith, is, fault))
tag_fault looked_at words ib ia ob oa fb fa (Err stopped.Memory) status is said causes fault = absurd (omega (arith, is, fault))
tag_fault looked_at words ib ia ob oa fb fa (Err stopped.Fault) status is said causes fault = elim causes.cause [
  | inl input ↦ inl input
  | inr others ↦ elim others [
    | inl output ↦ inr (inl output)
    | inr files ↦ inr (inr (verify_said looked_at words said files.0, files.1))
  ]
]
