-- A PA-TNC message (RFC 5792, section 3.6): a header, and attributes one after another.
use Rattle.std.specs.Prelude.{◌≤◌, ◌+◌, ℕ, List, ◌∷◌, length, sum_by}
use Rattle.std.specs.List.{flat_map, AllByRecursion}
use Rattle.wire_base.specs.Layout.{Field, Number, Reserved, Form}
use Rattle.wire_base.specs.Written.{written}
use Rattle.pa_attrs.specs.declared.attr.Attr.{Attr}
use Rattle.pa_attrs.specs.declared.attr.PaMessage.{PaMessage}
use Rattle.pa_attrs.specs.Numbers.{VERSION, HEADER, MESSAGE_HEADER, MOST_ATTRIBUTES, MOST_OCTETS}
use Rattle.pa_attrs.specs.AttrForm.{IsNamed, attr_fields}

-- A message.
abbrev pub message_fields : PaMessage → List Field
message_fields message =
    Number 1 VERSION  -- Version
    ∷ Reserved 3  -- Reserved
    ∷ Number 4 message.id  -- Message Identifier
    ∷ flat_map attr_fields message.attrs

-- A message may have that many octets: its attributes are named and not too many, and the octets
-- not either.
pub record IsMessage (message : PaMessage) (octets : ℕ) : Type 0 where
  pub named : AllByRecursion IsNamed message.attrs
  pub count : length message.attrs ≤ MOST_ATTRIBUTES
  pub within : octets ≤ MOST_OCTETS

-- The octets are the message.
pub record MessageForm (message : PaMessage) (octets : List ℕ) : Type 0 where
  pub form : Form (message_fields message) octets
  pub may_be : IsMessage message (length octets)

-- What is written of a message.
abbrev pub written_message : PaMessage → List ℕ
written_message message = written (message_fields message)

-- How many octets it has.
abbrev pub message_octets : PaMessage → ℕ
message_octets message = MESSAGE_HEADER + sum_by (λ (attr : Attr). HEADER + length attr.value) message.attrs

-- A message that can be written.
abbrev pub CanBeWritten : PaMessage → Type 0
CanBeWritten message = IsMessage message (message_octets message)
