-- A message says no more words than it may have attributes, and what refuses it is short.
use Rattle.std.proofs.Common.{◌≡◌, ℕ, suc, ◌≤◌, Bool, true, false, cond, List, [], ◌∷◌, Result, Ok, Err, length, refl, sym, ap, ◌∙◌, arith}
use Rattle.std.specs.Prelude.{◌==◌}
use Rattle.pa_attrs.specs.declared.attr.PlacedAttr.{PlacedAttr}
use Rattle.pa_attrs.specs.declared.fault.PaFault.{PaFault}
use Rattle.pa_attrs.specs.ErrorForm.{error_of, invalid_error, unsupported_error, version_error, written_error}
use Rattle.pa_attrs.specs.MessageReading.{message_of, value_fault}
use Rattle.pa_attrs.proofs.AttrsRead.{attrs_read}
use Rattle.pa_attrs.proofs.Reported.{fault_is_reported}
use Rattle.session_rules.specs.declared.word.CollectorWord.{CollectorWord as Word}
use Rattle.session_rules.specs.Answering.{SUPPORTED, word_of}
use Rattle.session_rules.specs.Saying.{and_words, read_says, refused_by, says, values_say, words_of}
use Rattle.collector_session.specs.Words.{FewWords}

-- ---- words

added : (one : Result Word ℕ) (later : Result (List Word) ℕ) (words : List Word) → and_words one later ≡ Ok words → (rest : List Word) × (later ≡ Ok rest) × (length words ≡ suc (length rest))
added (Ok word) (Ok rest) words is = let same : word ∷ rest ≡ words = cc in (rest, refl, ap (λ (ws : List Word). length ws) (sym same))
added (Ok word) (Err place) words is = absurd cc
added (Err place) later words is = absurd cc

as_many : (attrs : List PlacedAttr) (words : List Word) → words_of word_of attrs ≡ Ok words → length words ≡ length attrs
as_many [] words is = let same : [] ≡ words = cc in ap (λ (ws : List Word). length ws) (sym same)
as_many (attr ∷ attrs) words is =
    let rest = added (word_of attr) (words_of word_of attrs) words is in
    rest.2 ∙ ap (λ (n : ℕ). suc n) (as_many attrs rest.0 rest.1)

-- ---- refusals

ietf : (fault : PaFault) → (error_of fault).vendor ≡ 0
ietf fault = by_code (fault.code == 2) (fault.code == 3)
  where
    by_code : (version unsupported : Bool) → (cond version (version_error fault.header) (cond unsupported (unsupported_error fault.header fault.first) (invalid_error fault.header fault.offset))).vendor ≡ 0
    by_code true unsupported = refl
    by_code false true = refl
    by_code false false = refl

refusal_few : (fault : PaFault) → length (written_error (error_of fault)) ≤ 24 → FewWords (refused_by fault)
refusal_few fault short = by_answer fault.answer
  where
    by_answer : (answer : Bool) → FewWords (refused_by (record fault { answer = answer }))
    by_answer true = (omega (arith, ietf fault), short)
    by_answer false = tt

-- ---- a message

values_few : (body : List ℕ) (attrs : List PlacedAttr) (words : Result (List Word) ℕ) → length attrs ≤ 64 → words_of word_of attrs ≡ words → FewWords (values_say body attrs words)
values_few body attrs (Ok words) few is = omega (arith, few, as_many attrs words is)
values_few body attrs (Err place) few is = refusal_few (value_fault body attrs place) (fault_is_reported.value body attrs place).short

message_few : (body : List ℕ) (message : Result (ℕ × List PlacedAttr) PaFault) → message_of SUPPORTED body ≡ message → FewWords (read_says word_of body message)
message_few body (Ok message) is = values_few body message.1 (words_of word_of message.1) (attrs_read SUPPORTED body message.0 message.1 is).few refl
message_few body (Err fault) is = refusal_few fault (fault_is_reported.message SUPPORTED body fault is).short

pub few_words : (body : List ℕ) → FewWords (says SUPPORTED word_of body)
few_words body = message_few body (message_of SUPPORTED body) refl
