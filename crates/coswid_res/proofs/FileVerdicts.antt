-- Verdicts on files: one that is not read, one that is too long, and those on several files.
use Rattle.std.proofs.Common.{◌≡◌, ◌<◌, ℕ, ℤ, List, [], ◌∷◌, ◌++◌, length, Option, Some, None, refl, sym, ap, subst, ◌∙◌, replicate, rules}
use Rattle.std.proofs.lemmas.List.{append_assoc, length-replicate}
use Rattle.std.specs.Option.{IfSome}
use Rattle.coswid_res.specs.declared.resources.hash.HashEntry.{HashEntry}
use Rattle.coswid_res.specs.Listing.{ListedFile}
use Rattle.coswid_res.specs.declared.verification.verdict.Algorithm.{Algorithm}
use Rattle.coswid_res.specs.declared.verification.verdict.Verdict.{Verdict}
use Rattle.coswid_res.specs.declared.verification.verdict.Verdict.TheVariants as verdict
use Rattle.coswid_res.specs.Verify.{AddsVerdicts, FILE_OCTETS, IsLine, IsVerdict, IsVerdicts, algorithm_of, hashed_verdict, read_verdict, verdict_on, verdicts_of}
use Rattle.wire_base.specs.declared.outside.files.NamedFile.{NamedFile}
use Rattle.wire_base.specs.NamedFile.{content_of}

abbrev Line : Type 0
Line = List ℕ × Verdict

-- A verdict that does not hang on what the file holds.
pub unread : (told : Option (List NamedFile)) (file : ListedFile) (v : Verdict) → ((held : Option (List ℕ)) → v ≡ verdict_on file.hash file.size held) → IsVerdict told file v
unread None file v is = (None, is None, tt {0})
unread (Some all) file v is = (content_of all file.path, is (content_of all file.path), refl)

pub unhashed : (told : Option (List NamedFile)) (file : ListedFile) → file.hash ≡ None → IsVerdict told file verdict.Unhashed
unhashed told file none = unread told file verdict.Unhashed (λ (held : Option (List ℕ)). ap (λ (h : Option HashEntry). verdict_on h file.size held) (sym none))

pub hashed : (file : ListedFile) (h : HashEntry) (known : Option Algorithm) (held : Option (List ℕ)) → file.hash ≡ Some h → algorithm_of h.algorithm ≡ known
    → hashed_verdict h known file.size held ≡ verdict_on file.hash file.size held
hashed file h known held some is = ap (λ (a : Option Algorithm). hashed_verdict h a file.size held) (sym is) ∙ ap (λ (x : Option HashEntry). verdict_on x file.size held) (sym some)

pub unknown : (told : Option (List NamedFile)) (file : ListedFile) (h : HashEntry) (number : ℤ) → file.hash ≡ Some h → number ≡ h.algorithm → algorithm_of number ≡ None → IsVerdict told file (verdict.UnknownAlgorithm number)
unknown told file h number some same is = subst (λ (n : ℤ). algorithm_of n ≡ None → IsVerdict told file (verdict.UnknownAlgorithm n)) (sym same)
    (λ (none : algorithm_of h.algorithm ≡ None). unread told file (verdict.UnknownAlgorithm h.algorithm) (λ (held : Option (List ℕ)). hashed file h None held some none)) is

-- A file that was read, by its hash and the number of its algorithm.
module _ (told : Option (List NamedFile)) (file : ListedFile) (h : HashEntry) (known : Algorithm) (number : ℤ)
    (some : file.hash ≡ Some h) (same : number ≡ h.algorithm) (is : algorithm_of number ≡ Some known) where
  known_hash : algorithm_of h.algorithm ≡ Some known
  known_hash = ap (λ (n : ℤ). algorithm_of n) (sym same) ∙ is

  -- the verdict on what the file holds
  on_held : (v : Verdict) (held : Option (List ℕ)) → v ≡ read_verdict known h.value file.size held → IfSome told (λ (all : List NamedFile). content_of all file.path ≡ held) → IsVerdict told file v
  on_held v held gives content = (held, gives ∙ hashed file h (Some known) held some known_hash, content)

  pub on_content : (v : Verdict) (octets content : List ℕ) → content ≡ octets → v ≡ read_verdict known h.value file.size (Some content) → IfSome told (λ (all : List NamedFile). content_of all file.path ≡ Some octets) → IsVerdict told file v
  on_content v octets content is gives tells = on_held v (Some octets) (gives ∙ ap (λ (o : List ℕ). read_verdict known h.value file.size (Some o)) is) tells

long : (known : Algorithm) (value : List ℕ) (size : Option ℕ) (content : List ℕ) (len : ℕ) → FILE_OCTETS < len → length content ≡ len → verdict.LongFile len ≡ read_verdict known value size (Some content)
long known value size content len more same = search rules

module _ (file : ListedFile) (h : HashEntry) (known : Algorithm) (number : ℤ) (len : ℕ)
    (some : file.hash ≡ Some h) (same : number ≡ h.algorithm) (is : algorithm_of number ≡ Some known) (more : FILE_OCTETS < len) where
  pub on_long : (told : Option (List NamedFile)) → IfSome told (λ (all : List NamedFile). (content : List ℕ) × (content_of all file.path ≡ Some content) × (length content ≡ len)) → IsVerdict told file (verdict.LongFile len)
  on_long None tells = on_content None file h known number some same is (verdict.LongFile len) (replicate len 0) (replicate len 0) refl (long known h.value file.size (replicate len 0) len more (length-replicate len 0)) (tt {0})
  on_long (Some all) tells = on_content (Some all) file h known number some same is (verdict.LongFile len) tells.0 tells.0 refl (long known h.value file.size tells.0 len more tells.2) tells.1

-- Verdicts on some files, and on others after them.
zipped : (told : Option (List NamedFile)) (first more : List ListedFile) (lines others : List Line) → IsVerdicts told first lines → IsVerdicts told more others → IsVerdicts told (first ++ more) (lines ++ others)
zipped told [] more [] others is are = are
zipped told (file ∷ first) more (line ∷ lines) others is are = (is.0, zipped told first more lines others is.1 are)
zipped told first more lines others is are = elim is [ ]

pub one_added : (told : Option (List NamedFile)) (file : ListedFile) (before after : List Line) (line : Line) → IsLine told file line → after ≡ before ++ line ∷ [] → AddsVerdicts told (file ∷ []) before after
one_added told file before after line is pushed = (line ∷ [], pushed, (is, tt {0}))

pub both_added : (told here : Option (List NamedFile)) (first more : List ListedFile) (before now after : List Line) → here ≡ told → AddsVerdicts told first before now → AddsVerdicts here more now after → AddsVerdicts told (first ++ more) before after
both_added told here first more before now after same was adds =
    let others : IsVerdicts told more adds.0 = subst (λ (t : Option (List NamedFile)). IsVerdicts t more adds.0) same adds.2 in
    (was.0 ++ adds.0, adds.1 ∙ ap (λ (ls : List Line). ls ++ adds.0) was.1 ∙ append_assoc before was.0 adds.0, zipped told first more was.0 adds.0 was.2 others)

-- Where all files are exposed, the verdicts are these.
pub told_verdicts : (all : List NamedFile) (files : List ListedFile) (lines : List Line) → IsVerdicts (Some all) files lines → lines ≡ verdicts_of all files
told_verdicts all [] [] is = refl
told_verdicts all (file ∷ files) (line ∷ lines) is = search (rules, told_verdicts all files lines is.1)
told_verdicts all files lines is = elim is [ ]
