-- The Error that refuses a message is short.
use Rattle.std.proofs.Common.{◌≡◌, ℕ, ◌≤◌, ◌<◌, Bool, true, false, cond, List, Some, None, Result, Ok, Err, length, refl, sym, subst, arith}
use Rattle.std.specs.Prelude.{◌==◌, ◌^◌}
use Rattle.pa_attrs.specs.declared.attr.PlacedAttr.{PlacedAttr}
use Rattle.pa_attrs.specs.declared.error.PaError.{PaError}
use Rattle.pa_attrs.specs.declared.fault.PaFault.{PaFault}
use Rattle.pa_attrs.specs.ErrorForm.{error_of, invalid_error, unsupported_error, version_error, written_error}
use Rattle.pa_attrs.specs.MessageReading.{message_of, value_fault}
use Rattle.pa_attrs.proofs.Reported.{fault_is_reported}
use Rattle.session_rules.specs.declared.word.ValidatorWord.{ValidatorWord as Word}
use Rattle.session_rules.specs.Saying.{Said, Says, Refused, read_says, refused_by, says, values_say, words_of}
use Rattle.session_rules.specs.Taking.{SUPPORTED, word_of}

abbrev pub IsShort : Said Word → Type 0
IsShort (Says words) = Unit {0}
IsShort (Refused (Some error)) = (error.vendor < 2 ^ 24) × (length (written_error error) ≤ 24)
IsShort (Refused None) = Unit {0}

ietf : (fault : PaFault) → (error_of fault).vendor ≡ 0
ietf fault = by_code (fault.code == 2) (fault.code == 3)
  where
    by_code : (version unsupported : Bool) → (cond version (version_error fault.header) (cond unsupported (unsupported_error fault.header fault.first) (invalid_error fault.header fault.offset))).vendor ≡ 0
    by_code true unsupported = refl
    by_code false true = refl
    by_code false false = refl

refusal : (fault : PaFault) → length (written_error (error_of fault)) ≤ 24 → IsShort (refused_by fault)
refusal fault short = by_answer fault.answer
  where
    by_answer : (answer : Bool) → IsShort (refused_by (record fault { answer = answer }))
    by_answer true = (omega (arith, ietf fault), short)
    by_answer false = tt

values : (body : List ℕ) (attrs : List PlacedAttr) (words : Result (List Word) ℕ) → IsShort (values_say body attrs words)
values body attrs (Ok words) = tt
values body attrs (Err place) = refusal (value_fault body attrs place) (fault_is_reported.value body attrs place).short

message : (body : List ℕ) (read : Result (ℕ × List PlacedAttr) PaFault) → message_of SUPPORTED body ≡ read → IsShort (read_says word_of body read)
message body (Ok attrs) is = values body attrs.1 (words_of word_of attrs.1)
message body (Err fault) is = refusal fault (fault_is_reported.message SUPPORTED body fault is).short

short_said : (body : List ℕ) → IsShort (says SUPPORTED word_of body)
short_said body = message body (message_of SUPPORTED body) refl

-- So is the Error of a message that is refused by one.
pub short_error : (body : List ℕ) (error : PaError) → Refused (Some error) ≡ says SUPPORTED word_of body → (error.vendor < 2 ^ 24) × (length (written_error error) ≤ 24)
short_error body error is = subst (λ (said : Said Word). IsShort said) (sym is) (short_said body)
