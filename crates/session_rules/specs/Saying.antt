-- What a message of a batch says to an end, by what the end reads of each attribute: its words, or
-- a refusal (RFC 5792, section 4.2.8).
use Rattle.std.specs.Prelude.{◌==◌, ◌&&◌, ℕ, List, [], ◌∷◌, Option, Some, None, Result, Ok, Err, if◌then◌else◌}
use Rattle.pa_attrs.specs.declared.attr.PlacedAttr.{PlacedAttr}
use Rattle.pa_attrs.specs.declared.error.PaError.{PaError}
use Rattle.pa_attrs.specs.declared.fault.PaFault.{PaFault}
use Rattle.pa_attrs.specs.ErrorForm.{error_of}
use Rattle.pa_attrs.specs.MessageReading.{message_of, value_fault}
use Rattle.pa_attrs.specs.Numbers.{IETF}
use Rattle.pb_batch.specs.declared.batch.Message.{Message}
use Rattle.pb_batch.specs.declared.batch.Message.TheVariants.{Pa}
use Rattle.swima_request.specs.AttributeTypes.{SWIMA_ATTRIBUTES}

-- The body of a PB-PA message, where it is one of RFC 8412.
abbrev pub if_swima : ℕ → ℕ → List ℕ → Option (List ℕ)
if_swima vendor subtype body = if (vendor == IETF) && (subtype == SWIMA_ATTRIBUTES) then Some body else None

-- The PA-TNC message that such a message carries. All other messages are passed over.
abbrev pub swima_body : Message → Option (List ℕ)
swima_body (Pa excl vendor subtype collector validator body) = if_swima vendor subtype body
swima_body message = None

-- What a message says.
--   Says words      a word of each attribute, in order
--   Refused error   nothing, since it has a fault; the Error reports that to the sender
pub data Said (W : Type 0) : Type 0 where
  Says : List W → Said W
  Refused : Option PaError → Said W

-- A word before others.
abbrev pub and_words : {W : Type 0} → Result W ℕ → Result (List W) ℕ → Result (List W) ℕ
and_words (Ok word) (Ok words) = Ok (word ∷ words)
and_words (Ok word) (Err place) = Err place
and_words (Err place) later = Err place

-- The words of attributes, or the place of the first fault of a value.
abbrev pub words_of : {W : Type 0} → (PlacedAttr → Result W ℕ) → List PlacedAttr → Result (List W) ℕ
words_of read [] = Ok []
words_of read (attribute ∷ attributes) = and_words (read attribute) (words_of read attributes)

-- A refusal, with the Error where the fault is answered.
abbrev pub refused_by : {W : Type 0} → PaFault → Said W
refused_by fault = Refused (if fault.answer then Some (error_of fault) else None)

-- What a message with these attributes says. A fault of a value refuses it too.
abbrev pub values_say : {W : Type 0} → List ℕ → List PlacedAttr → Result (List W) ℕ → Said W
values_say body attributes (Ok words) = Says words
values_say body attributes (Err place) = refused_by (value_fault body attributes place)

-- Faults of the message come before those of values.
abbrev pub read_says : {W : Type 0} → (PlacedAttr → Result W ℕ) → List ℕ → Result (ℕ × List PlacedAttr) PaFault → Said W
read_says read body (Ok message) = values_say body message.1 (words_of read message.1)
read_says read body (Err fault) = refused_by fault

-- What a PA-TNC message says, where these attribute types are supported.
abbrev pub says : {W : Type 0} → List ℕ → (PlacedAttr → Result W ℕ) → List ℕ → Said W
says supported read body = read_says read body (message_of supported body)
