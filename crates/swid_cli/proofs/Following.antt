-- A run of steps over the input.
use Rattle.std.proofs.Common.{◌≡◌, ℕ, ◌+◌, List, [], ◌++◌, drop, Option, Some, None, Result, Ok, Err, refl, sym, ap, subst, ◌∙◌, append_assoc}
use Rattle.std.specs.Prelude.{IfSome}
use Rattle.wire_base.specs.Outside.{Adds}
use Rattle.wire_base.specs.Passing.{AddsFront, WroteFront}
use Rattle.wire_base.proofs.Streams.{adds_none, adds_more}
use Rattle.swima_model.specs.declared.report.Kind.{Kind}
use Rattle.validator_core.specs.Held.{Held, empty_mirror}
use Rattle.command_text.specs.declared.ending.Ending.{Ending}
use Rattle.swid_cli.specs.declared.mirror.step.Step.TheVariants as step
use Rattle.swid_cli.specs.Run.{Ran}
use Rattle.wire_base.specs.declared.outside.stopped.Stopped.{Stopped}
use Rattle.swid_cli.specs.Steps.{TakesStep}
use Rattle.swid_cli.specs.Stream.{Printed, after_line, stream, stream_text}
use Rattle.swid_cli.proofs.Streaming.{TakesLast, ends, goes_on}

-- Of all octets that were left that many are still left, and so much was printed that, with what
-- the rest prints after it, it is the whole text.
pub record FollowsTold (kind : Kind) (octets : List ℕ) (left : Option (List ℕ)) (before after : Option (List ℕ)) (at : ℕ) (mirror : Held) : Type 0 where
  pub rest : List ℕ
  pub so_far : List ℕ
  pub still : left ≡ Some rest
  pub added : Adds before after so_far
  pub whole : after_line so_far (stream at mirror rest) ≡ stream_text kind octets

abbrev pub Follows : Kind → Option (List ℕ) → Option (List ℕ) → Option (List ℕ) → Option (List ℕ) → ℕ → Held → Type 0
Follows kind left-before left before after at mirror = (octets : List ℕ) → left-before ≡ Some octets → FollowsTold kind octets left before after at mirror

abbrev with_text : Printed → List ℕ → Printed
with_text printed text = record printed { text = text }

-- Two lines before a text are one.
lines_join : (first second : List ℕ) (printed : Printed) → after_line (first ++ second) printed ≡ after_line first (after_line second printed)
lines_join first second printed = ap (λ (text : List ℕ). with_text printed text) (append_assoc first second printed.text)

-- Nothing was taken yet.
pub begun : (kind : Kind) (left written : Option (List ℕ)) → Follows kind left left written written 0 (empty_mirror kind)
begun kind left written = λ octets told. record { rest = octets; so_far = []; still = told; added = adds_none written; whole = refl }

-- A line and what is after it.
pub goes_further : (kind : Kind) (left0 left1 left2 written0 written1 written2 : Option (List ℕ)) (at count : ℕ) (before after : Held) (text : List ℕ)
    → Follows kind left0 left1 written0 written1 at before → TakesStep at before left1 left2 (step.Goes text count) after → Adds written1 written2 text
    → Follows kind left0 left2 written0 written2 (at + count) after
goes_further kind left0 left1 left2 written0 written1 written2 at count before after text follows steps adds = λ octets told.
    let f = follows octets told in
    let on = goes_on at before f.rest text count after left1 left2 f.still steps in
    record {
      rest = drop count f.rest;
      so_far = f.so_far ++ text;
      still = on.1;
      added = adds_more written0 written1 written2 f.so_far text f.added adds;
      whole = lines_join f.so_far text (stream (at + count) after (drop count f.rest)) ∙ ap (λ (p : Printed). after_line f.so_far p) (sym on.0) ∙ f.whole;
    }

-- What was printed so far is a prefix of the text.
pub front_so_far : (kind : Kind) (octets : List ℕ) (left written0 written1 : Option (List ℕ)) (at : ℕ) (mirror : Held) → FollowsTold kind octets left written0 written1 at mirror → AddsFront written0 written1 (stream_text kind octets).text
front_so_far kind octets left written0 written1 at mirror f =
    ((stream at mirror f.rest).text, record { front = f.so_far; parts = ap (λ (p : Printed). p.text) f.whole; wrote = f.added })

-- A prefix of a line was printed after it.
pub front_of_line : (kind : Kind) (octets : List ℕ) (left1 left2 written0 written1 written2 : Option (List ℕ)) (at count : ℕ) (before after : Held) (text unwritten : List ℕ)
    → FollowsTold kind octets left1 written0 written1 at before → TakesStep at before left1 left2 (step.Goes text count) after → WroteFront written1 written2 text unwritten
    → AddsFront written0 written2 (stream_text kind octets).text
front_of_line kind octets left1 left2 written0 written1 written2 at count before after text unwritten f steps wrote =
    let on = goes_on at before f.rest text count after left1 left2 f.still steps in
    let behind = (stream (at + count) after (drop count f.rest)).text in
    let text-is : (stream at before f.rest).text ≡ text ++ behind = ap (λ (p : Printed). p.text) on.0 in (
      unwritten ++ behind,
      record {
        front = f.so_far ++ wrote.front;
        parts = append_assoc f.so_far wrote.front (unwritten ++ behind)
            ∙ ap (λ (o : List ℕ). f.so_far ++ o) (sym (append_assoc wrote.front unwritten behind) ∙ ap (λ (o : List ℕ). o ++ behind) wrote.parts ∙ sym text-is)
            ∙ ap (λ (p : Printed). p.text) f.whole;
        wrote = adds_more written0 written1 written2 f.so_far wrote.front f.added wrote.wrote;
      },
    )

-- A prefix of the last text was printed after it.
pub front_of_last : (kind : Kind) (octets : List ℕ) (left1 left2 written0 written1 written2 : Option (List ℕ)) (at : ℕ) (before : Held) (text unwritten : List ℕ) (how : Ending)
    → FollowsTold kind octets left1 written0 written1 at before → TakesLast at before left1 left2 text how → WroteFront written1 written2 text unwritten
    → AddsFront written0 written2 (stream_text kind octets).text
front_of_last kind octets left1 left2 written0 written1 written2 at before text unwritten how f steps wrote =
    let on = ends at before f.rest text how left1 left2 f.still steps in (
      unwritten,
      record {
        front = f.so_far ++ wrote.front;
        parts = append_assoc f.so_far wrote.front unwritten ∙ ap (λ (o : List ℕ). f.so_far ++ o) (wrote.parts ∙ sym on.0) ∙ ap (λ (p : Printed). p.text) f.whole;
        wrote = adds_more written0 written1 written2 f.so_far wrote.front f.added wrote.wrote;
      },
    )

-- All of the text was printed, and what it leaves is left.
all_printed : (kind : Kind) (octets : List ℕ) (left1 left2 written0 written1 written2 : Option (List ℕ)) (at : ℕ) (before : Held) (text : List ℕ) (how : Ending)
    → FollowsTold kind octets left1 written0 written1 at before → TakesLast at before left1 left2 text how → Adds written1 written2 text
    → Adds written0 written2 (stream_text kind octets).text × (how ≡ (stream_text kind octets).ending) × (left2 ≡ Some (stream_text kind octets).left)
all_printed kind octets left1 left2 written0 written1 written2 at before text how f steps adds =
    let on = ends at before f.rest text how left1 left2 f.still steps in
    let text-is : f.so_far ++ text ≡ (stream_text kind octets).text = ap (λ (o : List ℕ). f.so_far ++ o) (sym on.0) ∙ ap (λ (p : Printed). p.text) f.whole in (
      rw (← text-is) (adds_more written0 written1 written2 f.so_far text f.added adds),
      sym on.1 ∙ ap (λ (p : Printed). p.ending) f.whole,
      on.2 ∙ ap (λ (p : Printed). Some p.left) f.whole,
    )

-- What holds of all that may be reported.
if_told : (told : Option (List ℕ)) (P : List ℕ → Type 0) → ((octets : List ℕ) → told ≡ Some octets → P octets) → IfSome told P
if_told None P holds = tt
if_told (Some octets) P holds = holds octets refl

-- A command that stopped printed a prefix.
pub ran_stopped : (kind : Kind) (left-before left-after written0 written2 : Option (List ℕ)) (result : Result Ending Stopped) (stop : Stopped) → result ≡ Err stop
    → ((octets : List ℕ) → left-before ≡ Some octets → AddsFront written0 written2 (stream_text kind octets).text)
    → IfSome left-before (λ octets. Ran (stream_text kind octets) left-after written0 written2 result)
ran_stopped kind left-before left-after written0 written2 result stop is front =
    subst (λ (r : Result Ending Stopped). IfSome left-before (λ octets. Ran (stream_text kind octets) left-after written0 written2 r)) (sym is)
    (if_told left-before (λ octets. AddsFront written0 written2 (stream_text kind octets).text) front)

-- A command that ended printed all.
pub ran_whole : (kind : Kind) (left-before left1 left2 written0 written1 written2 : Option (List ℕ)) (at : ℕ) (before : Held) (text : List ℕ) (how : Ending)
    → Follows kind left-before left1 written0 written1 at before → TakesLast at before left1 left2 text how → Adds written1 written2 text
    → IfSome left-before (λ octets. Ran (stream_text kind octets) left2 written0 written2 (Ok how))
ran_whole kind left-before left1 left2 written0 written1 written2 at before text how follows steps adds =
    if_told left-before (λ octets. Ran (stream_text kind octets) left2 written0 written2 (Ok how))
    (λ octets told. all_printed kind octets left1 left2 written0 written1 written2 at before text how (follows octets told) steps adds)
