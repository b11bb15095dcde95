-- Verdicts on the files of several parts, and the reads for them: of one part more, and where one
-- part is refused.
use Rattle.std.proofs.Common.{◌≡◌, ◌<◌, ◌+◌, ℕ, List, [], ◌∷◌, ◌++◌, length, get_or, take, drop, Option, Ok, Err, sym, ap, subst, ◌∙◌}
use Rattle.std.specs.List.{flat_map}
use Rattle.std.proofs.lemmas.List.{append-nil, take_more, take-append-drop}
use Rattle.std.proofs.lemmas.List.Concat.{flat_map-append}
use Rattle.coswid_res.specs.declared.verification.verdict.Verdict.{Verdict}
use Rattle.coswid_res.specs.declared.verification.verify.VerifyRefused.{VerifyRefused}
use Rattle.coswid_res.specs.Listing.{ListedFile}
use Rattle.coswid_res.specs.Verify.{AddsVerdicts, Reads}
use Rattle.coswid_res.proofs.FileReads.{AllRead, all_read, stopped_before, then_read}
use Rattle.coswid_res.proofs.FileVerdicts.{both_added}
use Rattle.wire_base.specs.declared.outside.files.NamedFile.{NamedFile}
use Rattle.wire_base.specs.NamedFile.{Read}

module _ {X : Type 0} (of : X → List ListedFile) (xs : List X) (i : ℕ) (x : X) (within : i < length xs) (is : x ≡ get_or xs i x) where
  with_next : flat_map of (take (i + 1) xs) ≡ flat_map of (take i xs) ++ of x
  with_next =
      ap (λ (ys : List X). flat_map of ys) (take_more xs i x within ∙ ap (λ (y : X). take i xs ++ y ∷ []) (sym is))
      ∙ flat_map-append of (take i xs) (x ∷ []) ∙ ap (λ (fs : List ListedFile). flat_map of (take i xs) ++ fs) (append-nil (of x))

  with_rest : flat_map of xs ≡ (flat_map of (take i xs) ++ of x) ++ flat_map of (drop (i + 1) xs)
  with_rest =
      ap (λ (ys : List X). flat_map of ys) (sym (take-append-drop (i + 1) xs))
      ∙ flat_map-append of (take (i + 1) xs) (drop (i + 1) xs) ∙ ap (λ (fs : List ListedFile). fs ++ flat_map of (drop (i + 1) xs)) with_next

  pub verdicts_more : (told here : Option (List NamedFile)) (before now after : List (List ℕ × Verdict)) → here ≡ told → AddsVerdicts told (flat_map of (take i xs)) before now → AddsVerdicts here (of x) now after → AddsVerdicts told (flat_map of (take (i + 1) xs)) before after
  verdicts_more told here before now after same was adds =
      subst (λ (fs : List ListedFile). AddsVerdicts told fs before after) (sym with_next)
      (both_added told here (flat_map of (take i xs)) (of x) before now after same was adds)

  module _ (A : Type 0) (before now after : Option (List Read)) (was : AllRead (flat_map of (take i xs)) before now) where
    pub reads_more : (value : A) → Reads (of x) (Ok value) now after → AllRead (flat_map of (take (i + 1) xs)) before after
    reads_more value reads = subst (λ (fs : List ListedFile). AllRead fs before after) (sym with_next)
        (all_read A (flat_map of (take i xs) ++ of x) before after value (then_read (flat_map of (take i xs)) (of x) before now A after was (Ok value) reads))

    pub reads_refused : (B : Type 0) (refusal : VerifyRefused) → Reads {A = A} (of x) (Err refusal) now after → Reads {A = B} (flat_map of xs) (Err refusal) before after
    reads_refused B refusal reads = subst (λ (fs : List ListedFile). Reads {A = B} fs (Err refusal) before after) (sym with_rest)
        (stopped_before (flat_map of (take i xs) ++ of x) (flat_map of (drop (i + 1) xs)) before after A B refusal (then_read (flat_map of (take i xs)) (of x) before now A after was (Err refusal) reads))
