-- How a command ended decides its status.
use Rattle.std.proofs.Common.{◌≡◌, ◌≢◌, ℕ, List, Option, Some, None, Result, Ok, Err, inl, inr, ◌⊎◌, [], ◌∷◌, refl, sym, ap, ◌∙◌, arith}
use Rattle.std.specs.Prelude.{OnOk, MatchBool, IfSome, is_err, codes}
use Rattle.wire_base.specs.declared.outside.stopped.Stopped.{Stopped}
use Rattle.wire_base.specs.declared.outside.stopped.Stopped.TheVariants as stopped
use Rattle.swima_model.specs.declared.report.Kind.{Kind}
use Rattle.swima_model.specs.declared.report.Kind.TheVariants.{Ids, Full}
use Rattle.validator_core.specs.Held.{empty_mirror}
use Rattle.command_text.specs.declared.ending.Ending.{Ending}
use Rattle.command_text.specs.declared.ending.Ending.TheVariants as ending
use Rattle.swid_cli.specs.Run.{Prints, Ran, ending_status, status_of}
use Rattle.swid_cli.specs.Stream.{Printed, stream_text}
use Rattle.swid_cli.specs.Words.{IsMirror, kind_word}
use Rattle.swid_cli.proofs.Streaming.{nothing_left}

-- A text was written, or the call failed.
pub written_or : {A E : Type 0} (Text Rose Calm : Type 0) (result : Result A E) → OnOk result Text → MatchBool (is_err result) Rose Calm → Text ⊎ Rose
written_or Text Rose Calm (Ok value) text cause = inl text
written_or Text Rose Calm (Err fault) text cause = inr cause

-- Status 0 is that of an input that was not refused.
pub is_whole : (how : Ending) → ending_status how ≡ 0 → how ≡ ending.Whole
is_whole ending.Whole zero = refl
is_whole ending.Refused zero = absurd (omega arith)
is_whole ending.Findings zero = absurd (omega arith)

-- A command that ended printed all, with its status.
pub prints_of : (printed : Printed) (left-after before after : Option (List ℕ)) (result : Result Ending Stopped) (status : ℕ) → status ≡ status_of result → status ≢ 3 → status ≢ 4
    → (printed.ending ≡ ending.Whole → printed.left ≡ []) → Ran printed left-after before after result → Prints printed left-after before after status
prints_of printed left-after before after (Ok how) status is fault memory whole ran = record {
  text = ran.0;
  ending = is ∙ ap ending_status ran.1;
  left = ran.2;
  ended = λ zero. ran.2 ∙ ap (λ (o : List ℕ). Some o) (whole (sym ran.1 ∙ is_whole how (sym is ∙ zero)));
}
prints_of printed left-after before after (Err stopped.Fault) status is fault memory whole ran = absurd (fault is)
prints_of printed left-after before after (Err stopped.Memory) status is fault memory whole ran = absurd (memory is)

pub prints : (kind : Kind) (told left-after before after : Option (List ℕ)) (result : Result Ending Stopped) (status : ℕ) → status ≡ status_of result → status ≢ 3 → status ≢ 4
    → IfSome told (λ octets. Ran (stream_text kind octets) left-after before after result) → IfSome told (λ octets. Prints (stream_text kind octets) left-after before after status)
prints kind None left-after before after result status is fault memory ran = tt
prints kind (Some octets) left-after before after result status is fault memory ran =
    prints_of (stream_text kind octets) left-after before after result status is fault memory (nothing_left 0 (empty_mirror kind) octets) ran

-- Words are of one kind.
pub one_kind : (one other : Kind) (words : List (List ℕ)) → IsMirror one words → IsMirror other words → one ≡ other
one_kind Ids Ids words a b = refl
one_kind Ids Full words a b = absurd (differ (sym a ∙ b))
  where
    differ : (codes "mirror" ∷ kind_word Ids ∷ []) ≡ (codes "mirror" ∷ kind_word Full ∷ []) → ⊥
    differ e = absurd cc
one_kind Full Ids words a b = absurd (differ (sym a ∙ b))
  where
    differ : (codes "mirror" ∷ kind_word Full ∷ []) ≡ (codes "mirror" ∷ kind_word Ids ∷ []) → ⊥
    differ e = absurd cc
one_kind Full Full words a b = refl
