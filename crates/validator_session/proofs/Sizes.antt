-- A batch that a validator is writing stays within what a batch may have.
use Rattle.std.proofs.Common.{◌≡◌, ℕ, ◌+◌, ◌≤◌, ◌<◌, List, [], ◌∷◌, ◌++◌, length, sym, ap, subst, arith, length-append}
use Rattle.std.specs.Prelude.{sum_by}
use Rattle.std.proofs.lemmas.List.Sums.{sum_by-cons, sum_by_push}
use Rattle.std.proofs.lemmas.List.Elements.{All-append, All-cons, All-nil}
use Rattle.pa_attrs.specs.declared.attr.Attr.{Attr}
use Rattle.pa_attrs.specs.declared.error.PaError.{PaError}
use Rattle.pa_attrs.specs.ErrorForm.{written_error}
use Rattle.pa_attrs.specs.MessageForm.{CanBeWritten}
use Rattle.pa_attrs.proofs.Writing.{written_is_counted}
use Rattle.pb_batch.specs.declared.batch.Message.{Message}
use Rattle.pb_batch.specs.declared.batch.Message.TheVariants.{Assessment}
use Rattle.pb_batch.specs.declared.kind.BatchKind.{BatchKind}
use Rattle.pb_batch.specs.Form.{IsMessage, message_octets}
use Rattle.pb_batch.specs.Written.{IsBatch}
use Rattle.swima_request.specs.RequestForm.{written_request}
use Rattle.swima_request.proofs.Writing.{written_is_counted as request_is_counted}
use Rattle.session_rules.specs.declared.config.FollowConfig.{FollowConfig}
use Rattle.session_rules.specs.Following.{Stand}
use Rattle.session_rules.specs.FollowRules.{next_request, request_message}
use Rattle.session_rules.specs.Numbers.{next_number}
use Rattle.session_rules.specs.Messages.{attribute, error_attribute, pa_message, server_batch}
use Rattle.validator_session.specs.Sizes.{Fits}

-- A message with one short attribute.
one_can : (number kind : ℕ) (value : List ℕ) → kind < 4294967295 → length value ≤ 24 → CanBeWritten (record { id = number; attrs = attribute kind value ∷ [] })
one_can number kind value below short = record { named = (record { vendor = omega arith; kind = below }, tt); count = omega arith; within = omega (arith, short) }

message_valid : (number : ℕ) (attrs : List Attr) → IsMessage (pa_message number attrs)
message_valid number attrs = (omega arith, omega arith, omega arith, omega arith)

one_octets : (number kind : ℕ) (value : List ℕ) → length value ≤ 24 → message_octets (pa_message number (attribute kind value ∷ [])) ≤ 68
one_octets number kind value short = omega (arith, short, written_is_counted (record { id = number; attrs = attribute kind value ∷ [] }))

-- ---- answers

pub error_fits : (number : ℕ) (answers : List Message) (error : PaError) → length (written_error error) ≤ 24 → length answers < 63 → Fits answers → Fits (answers ++ pa_message number (error_attribute error ∷ []) ∷ [])
error_fits number answers error short less fits =
    let one : Message = pa_message number (error_attribute error ∷ []) in
    record {
      few = omega (arith, less, length-append answers (one ∷ []));
      valid = All-append IsMessage answers (one ∷ []) fits.valid (All-cons IsMessage one [] (message_valid number (error_attribute error ∷ [])) (All-nil IsMessage));
      short = omega (arith, fits.short, length-append answers (one ∷ []), sum_by_push message_octets answers one, one_octets number 8 (written_error error) short);
    }

-- ---- batches

pub answers_batch : (kind : BatchKind) (answers : List Message) → Fits answers → IsBatch (server_batch kind answers)
answers_batch kind answers fits = record { valid = fits.valid; few = omega (arith, fits.few); short = omega (arith, fits.few, fits.short) }

request_can : (c : FollowConfig) (s : Stand) (number : ℕ) (value : List ℕ) → value ≡ written_request (next_request c s) → CanBeWritten (record { id = number; attrs = attribute 13 value ∷ [] })
request_can c s number value is = one_can number 13 value (omega arith) (omega (arith, ap (λ (o : List ℕ). length o) is, request_is_counted (next_request c s)))

pub request_written : (c : FollowConfig) (s : Stand) (number : ℕ) (value : List ℕ) (attrs : List Attr) → value ≡ written_request (next_request c s) → attrs ≡ attribute 13 value ∷ [] → CanBeWritten (record { id = number; attrs = attrs })
request_written c s number value attrs is same = subst (λ (all : List Attr). CanBeWritten (record { id = number; attrs = all })) (sym same) (request_can c s number value is)

pub request_batch : (c : FollowConfig) (s : Stand) (kind : BatchKind) (answers : List Message) → Fits answers → IsBatch (server_batch kind (answers ++ request_message c s ∷ []))
request_batch c s kind answers fits =
    let value : List ℕ = written_request (next_request c s) in
    let short : length value ≤ 24 = omega (arith, request_is_counted (next_request c s)) in
    let one : Message = request_message c s in
    record {
      valid = All-append IsMessage answers (one ∷ []) fits.valid (All-cons IsMessage one [] (message_valid (next_number s.numbered) (attribute 13 value ∷ [])) (All-nil IsMessage));
      few = omega (arith, fits.few, length-append answers (one ∷ []));
      short = omega (arith, fits.few, fits.short, sum_by_push message_octets answers one, one_octets (next_number s.numbered) 13 value short);
    }

pub assessment_batch : (kind : BatchKind) (answers : List Message) → Fits answers → IsBatch (server_batch kind (Assessment 4 ∷ answers))
assessment_batch kind answers fits =
    let all : sum_by message_octets (server_batch kind (Assessment 4 ∷ answers)).messages ≡ 16 + sum_by message_octets answers = sum_by-cons message_octets (Assessment 4) answers in
    record {
      valid = All-cons IsMessage (Assessment 4) answers (omega arith) fits.valid;
      few = omega (arith, fits.few);
      short = omega (arith, all, fits.few, fits.short);
    }

pub close_batch : (kind : BatchKind) → IsBatch (server_batch kind [])
close_batch kind = record { valid = All-nil IsMessage; few = omega arith; short = omega arith }
