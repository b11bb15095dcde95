-- Which files `tag verify` reads, of all octets of the input (RFC 9393, section 2.9).
use Rattle.std.specs.Prelude.{◌≡◌, ◌⊎◌, ℕ, List, [], Option, Some, None, Result, Ok, Err, length}
use Rattle.wire_base.specs.NamedFile.{Read, with_reads}
use Rattle.wire_base.specs.declared.outside.stopped.Stopped.{Stopped}
use Rattle.wire_base.specs.declared.outside.stopped.Stopped.TheVariants as stopped
use Rattle.coswid_res.specs.Listing.{listed}
use Rattle.coswid_res.specs.Verify.{AreReads, paths_read}
use Rattle.coswid_res.specs.declared.verification.verify.VerifyRefused.TheVariants as refused
use Rattle.coswid_res.specs.declared.resources.payload.Payload.{Payload}
use Rattle.coswid_tag.specs.declared.tag.Tag.{Tag}
use Rattle.coswid_codec.specs.Answers.{BeginsTag}

-- The paths of the files of a payload that are read, in order; none where there is no payload.
abbrev pub payload_paths : Option Payload → List (List ℕ)
payload_paths None = []
payload_paths (Some payload) = paths_read (listed payload)

-- The reads of these paths that a command made. Where it ended, it read each one, in order. Where
-- it stopped, it read some from the first on. The last of them failed only if a fault stopped it.
abbrev pub AreMade : {A : Type 0} → List (List ℕ) → Result A Stopped → List Read → Type 0
AreMade paths (Ok ended) reads = AreReads paths (Ok ended) reads
AreMade {A} paths (Err stopped.Fault) reads = ((path : List ℕ) × AreReads {A = A} paths (Err (refused.FileFault path)) reads) ⊎ AreReads {A = A} paths (Err refused.Memory) reads
AreMade {A} paths (Err stopped.Memory) reads = AreReads {A = A} paths (Err refused.Memory) reads

-- The reads that were made for all octets of an input: where they are a tag, those of the files of
-- its payload, and else none.
pub record AreTagReads {A : Type 0} (octets : List ℕ) (result : Result A Stopped) (reads : List Read) : Type 0 where
  pub whole : (g : Tag) → BeginsTag octets g (length octets) → AreMade (payload_paths g.payload) result reads
  pub none : ((g : Tag) → ¬ BeginsTag octets g (length octets)) → reads ≡ []

-- Between these two moments these reads were made, and no others.
abbrev pub PayloadReads : {A : Type 0} → Option Payload → Result A Stopped → Option (List Read) → Option (List Read) → Type 0
PayloadReads payload result before after = (reads : List Read) × AreMade (payload_paths payload) result reads × (after ≡ with_reads reads before)

abbrev pub TagReads : {A : Type 0} → List ℕ → Result A Stopped → Option (List Read) → Option (List Read) → Type 0
TagReads octets result before after = (reads : List Read) × AreTagReads octets result reads × (after ≡ with_reads reads before)
