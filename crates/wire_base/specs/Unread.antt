-- Why the content of a file of the system is not given.
use Rattle.std.specs.Fs.{IsFile, file_type, metadata_len}
use Rattle.std.specs.Prelude.{◌≡◌, ◌<◌, ◌≤◌, ℕ, List, Result, Ok, Err, length}
use Rattle.std.specs.declared.fs.attrs.Metadata.{Metadata}
use Rattle.std.specs.declared.io.ErrorKind.{ErrorKind}
use Rattle.std.specs.declared.io.ErrorKind.TheVariants as kind
use Rattle.wire_base.specs.declared.outside.folder_files.Unread.{Unread}
use Rattle.wire_base.specs.declared.outside.folder_files.Unread.TheVariants as unread

-- What a refusal of the system says: no such name, and a name that leads through something that is
-- no folder, is a file that is missing; every other one is a fault.
abbrev pub unread_by : ErrorKind → Unread
unread_by kind.NotFound = unread.Missing
unread_by kind.NotADirectory = unread.Missing
unread_by other = unread.Failed other

-- The length of a plain file that has at most that many octets. What is no plain file is a fault,
-- and never too long.
abbrev pub IsLength : Metadata → ℕ → Result ℕ Unread → Type 0
IsLength metadata limit (Ok len) = IsFile (file_type metadata) × (len ≡ metadata_len metadata) × (len ≤ limit)
IsLength metadata limit (Err (unread.Failed why)) = ¬ IsFile (file_type metadata)
IsLength metadata limit (Err (unread.TooLong len)) = IsFile (file_type metadata) × (len ≡ metadata_len metadata) × (limit < len)
IsLength metadata limit (Err unread.Missing) = ⊥
IsLength metadata limit (Err unread.Memory) = ⊥

-- A content has at most that many octets, and what is too long has more.
abbrev pub IsWithin : ℕ → Result (List ℕ) Unread → Type 0
IsWithin limit (Ok octets) = length octets ≤ limit
IsWithin limit (Err (unread.TooLong len)) = limit < len
IsWithin limit (Err unread.Missing) = Unit {0}
IsWithin limit (Err (unread.Failed why)) = Unit {0}
IsWithin limit (Err unread.Memory) = Unit {0}
