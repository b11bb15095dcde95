-- The reads that are made for the verdicts on files, of some files after those of others.
use Rattle.std.proofs.Common.{◌≡◌, ℕ, Bool, true, false, IsTrue, List, [], ◌∷◌, ◌++◌, map as map_list, Option, Some, None, Result, Ok, Err, if◌then◌else◌, refl, sym, ap, subst, ◌∙◌}
use Rattle.std.specs.Bool.{OnTrue}
use Rattle.std.specs.List.{filter}
use Rattle.std.specs.Result.{IsErrAnd}
use Rattle.std.proofs.lemmas.List.{append_assoc, map-append}
use Rattle.std.proofs.lemmas.List.Elements.{filter-append}
use Rattle.coswid_res.specs.declared.verification.verify.VerifyRefused.{VerifyRefused}
use Rattle.coswid_res.specs.declared.verification.verify.VerifyRefused.TheVariants as refused
use Rattle.coswid_res.specs.Listing.{ListedFile}
use Rattle.coswid_res.specs.declared.verification.verdict.Verdict.{Verdict}
use Rattle.coswid_res.specs.Verify.{Reads, answered, is_read, paths_read, read_for}
use Rattle.wire_base.specs.declared.outside.stopped.Stopped.{Stopped}
use Rattle.wire_base.specs.declared.outside.stopped.Stopped.TheVariants as stopped
use Rattle.wire_base.specs.NamedFile.{Read, with_reads}
use Rattle.wire_base.specs.Passing.{is_fault}

with_more : (first more : List Read) (before : Option (List Read)) → with_reads more (with_reads first before) ≡ with_reads (first ++ more) before
with_more first more None = refl
with_more first more (Some reads) = ap (λ (rs : List Read). Some rs) (append_assoc reads first more)

-- One file.

one_by : (b : Bool) (file : ListedFile) → answered (map_list (λ (f : ListedFile). f.path) (if b then file ∷ [] else [])) ≡ (if b then (file.path, false) ∷ [] else [])
one_by true file = refl
one_by false file = refl

path_by : (b : Bool) (file : ListedFile) → IsTrue b → map_list (λ (f : ListedFile). f.path) (if b then file ∷ [] else []) ≡ file.path ∷ []
path_by true file is = refl
path_by false file is = absurd cc

module _ (A : Type 0) (file : ListedFile) (before after : Option (List Read)) (result : Result Verdict Stopped) (read : after ≡ with_reads (read_for file result) before) where
  read_by : (answer : Result Verdict Stopped) → result ≡ answer → after ≡ with_reads (read_for file answer) before
  read_by answer is = read ∙ ap (λ (r : Result Verdict Stopped). with_reads (read_for file r) before) is

  pub one_answered : (value : A) (v : Verdict) → result ≡ Ok v → Reads (file ∷ []) (Ok value) before after
  one_answered value v is = (answered (paths_read (file ∷ [])), refl, read_by (Ok v) is ∙ ap (λ (rs : List Read). with_reads rs before) (sym (one_by (is_read file.hash) file)))

  pub one_failed : OnTrue (is_fault result) (IsTrue (is_read file.hash)) → result ≡ Err stopped.Fault → Reads {A = A} (file ∷ []) (Err (refused.FileFault file.path)) before after
  one_failed reads is = ((file.path, true) ∷ [], ([], [], path_by (is_read file.hash) file (subst (λ (r : Result Verdict Stopped). OnTrue (is_fault r) (IsTrue (is_read file.hash))) is reads), refl), read_by (Err stopped.Fault) is)

-- The reads for all of these files were made, and none failed.
abbrev pub AllRead : List ListedFile → Option (List Read) → Option (List Read) → Type 0
AllRead files before now = now ≡ with_reads (answered (paths_read files)) before

module _ (A : Type 0) (files : List ListedFile) (before now : Option (List Read)) where
  pub all_read : (value : A) → Reads files (Ok value) before now → AllRead files before now
  all_read value reads = reads.2 ∙ ap (λ (rs : List Read). with_reads rs before) reads.1

  -- what a refusal that is handed on says
  pub handed_on : (refusal : VerifyRefused) (result : Result A VerifyRefused) → IsErrAnd result (λ (e : VerifyRefused). e ≡ refusal) → Reads {A = A} files (Err refusal) before now → Reads files result before now
  handed_on refusal (Ok value) is reads = absurd is
  handed_on refusal (Err e) is reads = subst (λ (x : VerifyRefused). Reads {A = A} files (Err x) before now) (sym is) reads

-- Some files, and others after them.
module _ (first more : List ListedFile) (before now : Option (List Read)) where
  both_paths : paths_read (first ++ more) ≡ paths_read first ++ paths_read more
  both_paths =
      ap (λ (fs : List ListedFile). map_list (λ (f : ListedFile). f.path) fs) (filter-append (λ (f : ListedFile). is_read f.hash) first more)
      ∙ map-append (λ (f : ListedFile). f.path) (filter (λ (f : ListedFile). is_read f.hash) first) (filter (λ (f : ListedFile). is_read f.hash) more)

  -- the paths of all, where those of the others are in two parts
  parted : (front behind : List (List ℕ)) → paths_read more ≡ front ++ behind → paths_read (first ++ more) ≡ (paths_read first ++ front) ++ behind
  parted front behind parts = both_paths ∙ ap (λ (ps : List (List ℕ)). paths_read first ++ ps) parts ∙ sym (append_assoc (paths_read first) front behind)

  both_answered : (front : List (List ℕ)) → answered (paths_read first ++ front) ≡ answered (paths_read first) ++ answered front
  both_answered front = map-append (λ (path : List ℕ). (path, false)) (paths_read first) front

  -- a refusal at the first files is one at all
  pub stopped_before : (A B : Type 0) (refusal : VerifyRefused) → Reads {A = A} first (Err refusal) before now → Reads {A = B} (first ++ more) (Err refusal) before now
  stopped_before A B (refused.FileFault path) reads =
      let front = reads.1.0 in let behind = reads.1.1 in (
        reads.0,
        (front, behind ++ paths_read more, both_paths ∙ ap (λ (ps : List (List ℕ)). ps ++ paths_read more) reads.1.2 ∙ append_assoc front (path ∷ behind) (paths_read more), reads.1.3),
        reads.2,
      )
  stopped_before A B refused.Memory reads =
      let front = reads.1.0 in let behind = reads.1.1 in (
        reads.0,
        (front, behind ++ paths_read more, both_paths ∙ ap (λ (ps : List (List ℕ)). ps ++ paths_read more) reads.1.2 ∙ append_assoc front behind (paths_read more), reads.1.3),
        reads.2,
      )

  module _ (A : Type 0) (after : Option (List Read)) (was : AllRead first before now) where
    both_read : (reads : List Read) → after ≡ with_reads reads now → after ≡ with_reads (answered (paths_read first) ++ reads) before
    both_read reads rest = rest ∙ ap (λ (o : Option (List Read)). with_reads reads o) was ∙ with_more (answered (paths_read first)) reads before

    -- an answer on the others, after all of the first were read, is one on all
    pub then_read : (result : Result A VerifyRefused) → Reads more result now after → Reads (first ++ more) result before after
    then_read (Ok value) reads = (
      answered (paths_read first) ++ reads.0,
      ap (λ (rs : List Read). answered (paths_read first) ++ rs) reads.1 ∙ sym (both_answered (paths_read more)) ∙ ap (λ (ps : List (List ℕ)). answered ps) (sym both_paths),
      both_read reads.0 reads.2,
    )
    then_read (Err (refused.FileFault path)) reads =
        let front = reads.1.0 in let behind = reads.1.1 in let last = (path, true) ∷ [] in (
          answered (paths_read first) ++ reads.0,
          (
            paths_read first ++ front,
            behind,
            parted front (path ∷ behind) reads.1.2,
            ap (λ (rs : List Read). answered (paths_read first) ++ rs) reads.1.3 ∙ sym (append_assoc (answered (paths_read first)) (answered front) last) ∙ ap (λ (rs : List Read). rs ++ last) (sym (both_answered front)),
          ),
          both_read reads.0 reads.2,
        )
    then_read (Err refused.Memory) reads =
        let front = reads.1.0 in let behind = reads.1.1 in (
          answered (paths_read first) ++ reads.0,
          (
            paths_read first ++ front,
            behind,
            parted front behind reads.1.2,
            ap (λ (rs : List Read). answered (paths_read first) ++ rs) reads.1.3 ∙ sym (both_answered front),
          ),
          both_read reads.0 reads.2,
        )
