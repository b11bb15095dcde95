-- The verdicts on the files of a payload (RFC 9393, section 2.9.2).
use Rattle.std.specs.Prelude.{◌≡◌, ◌==◌, ◌&&◌, ◌++◌, ℕ, ℤ, pos, Bool, true, false, List, [], ◌∷◌, map as map_list, Option, Some, None, Result, Ok, Err, length, nat_lt, if◌then◌else◌, IfSome}
use Rattle.std.specs.List.{AllZip, filter}
use Rattle.std.specs.Ordering.{int_eq}
use Rattle.std.specs.Str.{bytes_eq}
use Rattle.coswid_res.specs.declared.resources.hash.HashEntry.{HashEntry}
use Rattle.coswid_res.specs.Listing.{ListedFile}
use Rattle.coswid_res.specs.declared.verification.verdict.Algorithm.{Algorithm}
use Rattle.coswid_res.specs.declared.verification.verdict.Algorithm.TheVariants as algorithm
use Rattle.coswid_res.specs.declared.verification.verdict.Verdict.{Verdict}
use Rattle.coswid_res.specs.declared.verification.verdict.Verdict.TheVariants as verdict
use Rattle.coswid_res.specs.declared.verification.verify.VerifyRefused.{VerifyRefused}
use Rattle.coswid_res.specs.declared.verification.verify.VerifyRefused.TheVariants as refused
use Rattle.sha2.specs.Sha256.{sha256}
use Rattle.sha2.specs.Sha512.{sha384, sha512}
use Rattle.wire_base.specs.declared.outside.files.NamedFile.{NamedFile}
use Rattle.wire_base.specs.NamedFile.{Read, content_of, with_reads}
use Rattle.wire_base.specs.declared.outside.stopped.Stopped.{Stopped}
use Rattle.wire_base.specs.declared.outside.stopped.Stopped.TheVariants as stopped

-- The algorithms that are known, by their numbers in the Named Information Hash Algorithm Registry
-- (RFC 6920, section 9.4).
abbrev pub algorithm_of : ℤ → Option Algorithm
algorithm_of number =
    if int_eq number (pos 1) then Some algorithm.Sha256
    else if int_eq number (pos 7) then Some algorithm.Sha384
    else if int_eq number (pos 8) then Some algorithm.Sha512
    else None

abbrev pub digest : Algorithm → List ℕ → List ℕ
digest algorithm.Sha256 content = sha256 content
digest algorithm.Sha384 content = sha384 content
digest algorithm.Sha512 content = sha512 content

-- The size is this, where one is stated.
abbrev pub is_size : Option ℕ → ℕ → Bool
is_size None len = true
is_size (Some size) len = size == len

-- The most octets of a file that is looked at.
abbrev pub FILE_OCTETS : ℕ
FILE_OCTETS = 67108864

-- The verdict where the algorithm is known, on what the file holds; on nothing, where there is no
-- such file.
abbrev pub read_verdict : Algorithm → List ℕ → Option ℕ → Option (List ℕ) → Verdict
read_verdict known value size None = verdict.Missing
read_verdict known value size (Some content) =
    if nat_lt FILE_OCTETS (length content) then verdict.LongFile (length content)
    else if bytes_eq (digest known content) value && is_size size (length content) then verdict.Same
    else verdict.Differs

abbrev pub hashed_verdict : HashEntry → Option Algorithm → Option ℕ → Option (List ℕ) → Verdict
hashed_verdict h None size held = verdict.UnknownAlgorithm h.algorithm
hashed_verdict h (Some known) size held = read_verdict known h.value size held

-- The verdict on a file of which a payload states this hash and this size: the first that holds.
abbrev pub verdict_on : Option HashEntry → Option ℕ → Option (List ℕ) → Verdict
verdict_on None size held = verdict.Unhashed
verdict_on (Some h) size held = hashed_verdict h (algorithm_of h.algorithm) size held

-- The verdict where the contents of all files are exposed.
abbrev pub verdict_of : List NamedFile → ListedFile → Verdict
verdict_of all file = verdict_on file.hash file.size (content_of all file.path)

-- The verdict is that on what the file holds, and this is what is known of it, where files are
-- exposed.
abbrev pub IsVerdict : Option (List NamedFile) → ListedFile → Verdict → Type 0
IsVerdict told file v = (held : Option (List ℕ)) × (v ≡ verdict_on file.hash file.size held) × IfSome told (λ all. content_of all file.path ≡ held)

-- It has the path of the file and its verdict.
abbrev pub IsLine : Option (List NamedFile) → ListedFile → List ℕ × Verdict → Type 0
IsLine told file line = (line.0 ≡ file.path) × IsVerdict told file line.1

-- All files in order, each with its verdict.
abbrev pub IsVerdicts : Option (List NamedFile) → List ListedFile → List (List ℕ × Verdict) → Type 0
IsVerdicts told = AllZip (IsLine told)

-- After the verdicts that there were before, there are those on these files.
abbrev pub AddsVerdicts : Option (List NamedFile) → List ListedFile → List (List ℕ × Verdict) → List (List ℕ × Verdict) → Type 0
AddsVerdicts told files before after = (more : List (List ℕ × Verdict)) × (after ≡ before ++ more) × IsVerdicts told files more

-- All verdicts where the contents of all files are exposed.
abbrev pub verdicts_of : List NamedFile → List ListedFile → List (List ℕ × Verdict)
verdicts_of all = map_list (λ file. (file.path, verdict_of all file))

-- Where they are exposed, no other verdicts are verdicts on these files.
abbrev pub ToldVerdicts : Type 0
ToldVerdicts = (all : List NamedFile) (files : List ListedFile) (lines : List (List ℕ × Verdict)) → IsVerdicts (Some all) files lines → lines ≡ verdicts_of all files

-- Its verdict hangs on what it holds.
abbrev pub is_read_by : Option Algorithm → Bool
is_read_by None = false
is_read_by (Some known) = true

abbrev pub is_read : Option HashEntry → Bool
is_read None = false
is_read (Some h) = is_read_by (algorithm_of h.algorithm)

-- The answer is that a file was not read.
abbrev pub is_fault : {A : Type 0} → Result A VerifyRefused → Bool
is_fault (Ok value) = false
is_fault (Err (refused.FileFault path)) = true
is_fault (Err refused.Memory) = false

-- The paths of the files that are read, in order.
abbrev pub paths_read : List ListedFile → List (List ℕ)
paths_read files = map_list (λ file. file.path) (filter (λ file. is_read file.hash) files)

-- Reads of these paths, none of which failed.
abbrev pub answered : List (List ℕ) → List Read
answered = map_list (λ path. (path, false))

-- The reads that were made of these paths: of each one, in order; up to the path of a fault, with
-- it; up to some path where memory ran out.
abbrev pub AreReads : {A : Type 0} → List (List ℕ) → Result A VerifyRefused → List Read → Type 0
AreReads paths (Ok value) reads = reads ≡ answered paths
AreReads paths (Err (refused.FileFault path)) reads = (front behind : List (List ℕ)) × (paths ≡ front ++ path ∷ behind) × (reads ≡ answered front ++ (path, true) ∷ [])
AreReads paths (Err refused.Memory) reads = (front behind : List (List ℕ)) × (paths ≡ front ++ behind) × (reads ≡ answered front)

-- Between these two moments the reads for the verdicts on these files were made, and no others.
abbrev pub Reads : {A : Type 0} → List ListedFile → Result A VerifyRefused → Option (List Read) → Option (List Read) → Type 0
Reads files result before after = (reads : List Read) × AreReads (paths_read files) result reads × (after ≡ with_reads reads before)

-- The read for the verdict on one file: none where that does not hang on what it holds, and none is
-- reported where memory ran out.
abbrev pub read_for : ListedFile → Result Verdict Stopped → List Read
read_for file (Ok value) = if is_read file.hash then (file.path, false) ∷ [] else []
read_for file (Err stopped.Fault) = (file.path, true) ∷ []
read_for file (Err stopped.Memory) = []
