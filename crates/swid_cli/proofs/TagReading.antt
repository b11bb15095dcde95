-- The reads of files that are made for a tag.
use Rattle.std.proofs.Common.{◌≡◌, ℕ, ◌+◌, ◌<◌, ◌≤◌, inr, List, [], length, Option, Some, None, Result, Ok, Err, refl, sym, ap, subst, arith}
use Rattle.std.specs.Prelude.{IfSome}
use Rattle.std.proofs.lemmas.List.{append-nil}
use Rattle.wire_base.specs.NamedFile.{Read, with_reads}
use Rattle.wire_base.specs.Passing.{Fills}
use Rattle.wire_base.specs.declared.outside.stopped.Stopped.{Stopped}
use Rattle.wire_base.specs.declared.outside.stopped.Stopped.TheVariants as stopped
use Rattle.coswid_tag.specs.declared.tag.Tag.{Tag}
use Rattle.coswid_codec.specs.Answers.{BeginsTag, IsRefusal}
use Rattle.coswid_codec.proofs.Outcomes.{begins_one_tag, item_not_refused, tag_not_faulty}
use Rattle.coswid_codec.specs.declared.read.TagRefused.{TagRefused}
use Rattle.coswid_codec.specs.declared.read.TagRefused.TheVariants as refused
use Rattle.command_text.specs.declared.answer.Answer.{Answer}
use Rattle.command_text.specs.declared.ending.Ending.{Ending}
use Rattle.command_text.specs.declared.ending.Ending.TheVariants as ending
use Rattle.swid_cli.specs.Run.{status_of}
use Rattle.swid_cli.specs.TagReads.{AreMade, AreTagReads, PayloadReads, TagReads, payload_paths}
use Rattle.swid_cli.specs.Tagging.{AnswersRefused, TAG_OCTETS}
use Rattle.swid_cli.proofs.Telling.{IsWide, read_of, told_of}

with_none : (before : Option (List Read)) → before ≡ with_reads [] before
with_none None = refl
with_none (Some reads) = ap (λ (rs : List Read). Some rs) (sym (append-nil reads))

-- ---- of paths

-- No reads are the first of any.
none_made : (A : Type 0) (paths : List (List ℕ)) (stop : Stopped) → AreMade {A = A} paths (Err stop) []
none_made A paths stopped.Fault = inr ([], paths, refl, refl)
none_made A paths stopped.Memory = ([], paths, refl, refl)

-- So are all reads.
all_made : {A : Type 0} (B : Type 0) (paths : List (List ℕ)) (value : A) (stop : Stopped) (reads : List Read) → AreMade paths (Ok value) reads → AreMade {A = B} paths (Err stop) reads
all_made B paths value stopped.Fault reads are = inr (paths, [], sym (append-nil paths), are)
all_made B paths value stopped.Memory reads are = (paths, [], sym (append-nil paths), are)

-- A stop is handed on.
still_made : (A B : Type 0) (paths : List (List ℕ)) (stop : Stopped) (reads : List Read) → AreMade {A = A} paths (Err stop) reads → AreMade {A = B} paths (Err stop) reads
still_made A B paths stopped.Fault reads are = are
still_made A B paths stopped.Memory reads are = are

-- ---- of all octets

module _ (octets : List ℕ) (before after : Option (List Read)) where
  -- They are a tag.
  pub whole_reads : {A : Type 0} (g : Tag) (used : ℕ) (result : Result A Stopped) → BeginsTag octets g used → length octets ≤ used → PayloadReads g.payload result before after → TagReads octets result before after
  whole_reads g used result begins all reads =
      let same : used ≡ length octets = omega (arith, all, begins.begins.within) in
      let whole : BeginsTag octets g (length octets) = subst (λ (n : ℕ). BeginsTag octets g n) same begins in
      let one : (h : Tag) → BeginsTag octets h (length octets) → g ≡ h = λ h tag. (begins_one_tag octets g h (length octets) (length octets) whole tag).0 in (
        reads.0,
        record {
          whole = λ h tag. subst (λ (k : Tag). AreMade (payload_paths k.payload) result reads.0) (one h tag) reads.1;
          none = λ never. absurd (never g whole);
        },
        reads.2,
      )

  -- A command that read them stopped after that.
  pub stopped_behind : {A B : Type 0} (value : A) (result : Result B Stopped) (stop : Stopped) → result ≡ Err stop → TagReads octets (Ok value) before after → TagReads octets result before after
  stopped_behind {A} {B} value result stop is reads = rw is (
    reads.0,
    record { whole = λ h tag. all_made B (payload_paths h.payload) value stop reads.0 (reads.1.whole h tag); none = reads.1.none },
    reads.2,
  )

  -- It handed the stop on.
  pub stopped_so : (A : Type 0) {B : Type 0} (result : Result B Stopped) (stop other : Stopped) → result ≡ Err stop → stop ≡ other → TagReads {A = A} octets (Err other) before after → TagReads octets result before after
  stopped_so A {B} result stop other is same reads = rw (is, same) (
    reads.0,
    record { whole = λ h tag. still_made A B (payload_paths h.payload) other reads.0 (reads.1.whole h tag); none = reads.1.none },
    reads.2,
  )

  -- It ended with another value.
  pub ended_so : {A B : Type 0} (value : A) (other : B) → TagReads octets (Ok value) before after → TagReads octets (Ok other) before after
  ended_so value other reads = (reads.0, record { whole = reads.1.whole; none = reads.1.none }, reads.2)

module _ (octets : List ℕ) (before : Option (List Read)) where
  -- A command that read no file stopped.
  pub stopped_first : {A : Type 0} (result : Result A Stopped) (stop : Stopped) → result ≡ Err stop → TagReads octets result before before
  stopped_first {A} result stop is = rw is ([], record { whole = λ h tag. none_made A (payload_paths h.payload) stop; none = λ never. refl }, with_none before)

  -- They are no tag.
  no_reads : {A : Type 0} (result : Result A Stopped) → ((g : Tag) → ¬ BeginsTag octets g (length octets)) → TagReads octets result before before
  no_reads result never = ([], record { whole = λ h tag. absurd (never h tag); none = λ none. refl }, with_none before)

  pub long_reads : {A : Type 0} (result : Result A Stopped) → TAG_OCTETS < length octets → TagReads octets result before before
  long_reads result over = no_reads result (λ h tag. omega (arith, over, tag.begins.short))

  pub more_reads : {A : Type 0} (result : Result A Stopped) (g : Tag) (used : ℕ) → BeginsTag octets g used → used < length octets → TagReads octets result before before
  more_reads result g used begins less = no_reads result (λ h tag. omega (arith, less, (begins_one_tag octets g h used (length octets) begins tag).1))

  -- They begin with no tag.
  pub refused_reads : {A : Type 0} (result : Result A Stopped) (why : TagRefused) (made : Answer) → IsRefusal octets why → AnswersRefused why made → TagReads octets result before before
  refused_reads result (refused.Cbor fault) made is answers = no_reads result (λ h tag. item_not_refused octets fault tag.item (length octets) is tag.begins)
  refused_reads result (refused.Form fault) made is answers = no_reads result (λ h tag. tag_not_faulty octets fault h (length octets) is tag)
  refused_reads result refused.Memory made is answers = absurd answers

-- ---- of an input

module _ (A : Type 0) (result : Result A Stopped) (before after : Option (List Read)) where
  -- More octets than the input may have are no tag, like those that were read of them.
  reads_wide : (reads : List Read) → IsWide TAG_OCTETS (λ octets text how. AreTagReads octets result reads)
  reads_wide reads held octets text how over more same are = record {
    whole = λ h tag. absurd (omega (arith, more, tag.begins.short));
    none = λ never. are.none (λ h tag. omega (arith, over, tag.begins.short));
  }

  pub input_reads : (told left : Option (List ℕ)) (want : ℕ) (none held : List ℕ) → want ≡ TAG_OCTETS + 1 → none ≡ [] → Fills want told left none held → TagReads held result before after
      → IfSome told (λ octets. TagReads octets result before after)
  input_reads None left want none held is empty fills reads = tt
  input_reads (Some octets) left want none held is empty fills reads =
      let read = read_of TAG_OCTETS (λ octets text how. AreTagReads octets result reads.0) want octets none held left is empty fills in
      let all = told_of TAG_OCTETS (λ octets text how. AreTagReads octets result reads.0) (reads_wide reads.0) octets left held [] ending.Whole read reads.1 in
      (reads.0, all.0, reads.2)

pub input_unread : {A : Type 0} (told : Option (List ℕ)) (before : Option (List Read)) (result : Result A Stopped) (stop : Stopped) → result ≡ Err stop → IfSome told (λ octets. TagReads octets result before before)
input_unread None before result stop is = tt
input_unread (Some octets) before result stop is = stopped_first octets before result stop is

-- The status says how the command ended.
pub ran_reads : (told : Option (List ℕ)) (before after : Option (List Read)) (result : Result Ending Stopped) (status : ℕ) → status ≡ status_of result → IfSome told (λ octets. TagReads octets result before after)
    → IfSome told (λ octets. (ended : Result Ending Stopped) × (status ≡ status_of ended) × TagReads octets ended before after)
ran_reads None before after result status is reads = tt
ran_reads (Some octets) before after result status is reads = (result, is, reads)
