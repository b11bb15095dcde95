-- Files by their names, as an object that gives them shows them.
use Rattle.std.specs.Prelude.{◌≡◌, ◌<◌, ◌≤◌, ◌++◌, ℕ, Bool, true, false, List, [], ◌∷◌, Option, Some, None, length, IfSome, if◌then◌else◌}
use Rattle.std.specs.Option.{option_map}
use Rattle.std.specs.Str.{bytes_eq}
use Rattle.wire_base.specs.declared.outside.files.FileAnswer.{FileAnswer}
use Rattle.wire_base.specs.declared.outside.files.FileAnswer.TheVariants as answer
use Rattle.wire_base.specs.declared.outside.files.NamedFile.{NamedFile}

-- The content of the first file of that name, if there is one.
abbrev pub content_of : List NamedFile → List ℕ → Option (List ℕ)
content_of [] name = None
content_of (file ∷ files) name = if bytes_eq file.name name then Some file.content else content_of files name

-- What a call that does not fail answers for a name: where the files are exposed, `Missing` exactly
-- where none has it, and `TooLong` exactly where its content is longer than the limit.
abbrev pub IsAnswer : Option (List NamedFile) → List ℕ → ℕ → FileAnswer → Type 0
IsAnswer files name limit (answer.Content octets) = (length octets ≤ limit) × IfSome files (λ all. content_of all name ≡ Some octets)
IsAnswer files name limit answer.Missing = IfSome files (λ all. content_of all name ≡ None)
IsAnswer files name limit (answer.TooLong len) = (limit < len) × IfSome files (λ all. (content : List ℕ) × (content_of all name ≡ Some content) × (length content ≡ len))
IsAnswer files name limit answer.Failed = Unit {0}
IsAnswer files name limit answer.Memory = Unit {0}

-- The answer is that the call failed.
abbrev pub has_failed : FileAnswer → Bool
has_failed answer.Failed = true
has_failed (answer.Content octets) = false
has_failed answer.Missing = false
has_failed (answer.TooLong len) = false
has_failed answer.Memory = false

-- A read that was made: the name that it was given, and whether it failed.
abbrev pub Read : Type 0
Read = List ℕ × Bool

-- What is exposed of a call for a name: that it was made, and whether it failed. One that ends
-- because memory ran out is not exposed.
abbrev pub read_of : List ℕ → FileAnswer → List Read
read_of name answer.Failed = (name, true) ∷ []
read_of name (answer.Content octets) = (name, false) ∷ []
read_of name answer.Missing = (name, false) ∷ []
read_of name (answer.TooLong len) = (name, false) ∷ []
read_of name answer.Memory = []

-- Where reads are exposed, these after the ones before.
abbrev pub with_reads : List Read → Option (List Read) → Option (List Read)
with_reads more before = option_map (λ reads. reads ++ more) before
