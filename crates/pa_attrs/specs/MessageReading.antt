-- Reading a message (RFC 5792, section 3.6) whole: its attributes with their places, or its first
-- fault.
use Rattle.std.specs.Prelude.{◌≡◌, ◌==◌, ◌&&◌, ◌≤◌, ◌+◌, ◌-◌, ℕ, zero, suc, Bool, true, not, List, [], ◌∷◌, ◌++◌, Option, Some, None, Result, Ok, Err, length, take, drop, filter, replicate, slice_index, slice_range, nat_lt, if◌then◌else◌}
use Rattle.std.specs.List.{Contains, AllByRecursion, list_any}
use Rattle.wire_base.specs.Numbers.{number_of}
use Rattle.pa_attrs.specs.declared.attr.PlacedAttr.{PlacedAttr}
use Rattle.pa_attrs.specs.declared.fault.AttrFault.{AttrFault}
use Rattle.pa_attrs.specs.declared.fault.PaFault.{PaFault}
use Rattle.pa_attrs.specs.declared.header.Header.{Header}
use Rattle.wire_base.specs.declared.layout.field_refused.Refused.{Refused}
use Rattle.wire_base.specs.declared.layout.field_refused.Refused.TheVariants as refused
use Rattle.pa_attrs.specs.declared.read.PaRead.{PaRead}
use Rattle.pa_attrs.specs.declared.read.PaRead.TheVariants as read
use Rattle.pa_attrs.specs.Numbers.{VERSION, MESSAGE_HEADER, HEADER, IETF, ERROR, INVALID_PARAMETER, VERSION_NOT_SUPPORTED, UNSUPPORTED_ATTRIBUTE, MOST_ATTRIBUTES}
use Rattle.pa_attrs.specs.Header.{attr_of}
use Rattle.pa_attrs.specs.Faults.{Row, row, first_shown, is_supported, message_header}

-- ---- attributes one after another

-- What has the first fault: where it begins, the octets of the message from there on, and the
-- fault.
pub record Broken : Type 0 where
  pub at : ℕ
  pub octets : List ℕ
  pub fault : AttrFault

-- The attributes that stand whole before the first fault, and what has it.
abbrev pub Walked : Type 0
Walked = List PlacedAttr × Option Broken

-- An attribute before others.
abbrev pub in_front : PlacedAttr → Walked → Walked
in_front attr others = (attr ∷ others.0, others.1)

-- The attribute with the header that stands first in octets that begin at `at`.
abbrev pub placed : ℕ → Header → List ℕ → PlacedAttr
placed at h octets = record { at = at + HEADER; attr = attr_of h octets }

-- An attribute and those after it, or its fault.
abbrev pub and_others : (ℕ → List ℕ → Walked) → ℕ → List ℕ → Result Header AttrFault → Walked
and_others others at octets (Ok h) = in_front (placed at h octets) (others (at + h.length) (drop h.length octets))
and_others others at octets (Err fault) = ([], Some (record { at = at; octets = octets; fault = fault }))

-- The attributes of octets that begin at `at`, where that many have room; there are none in no
-- octets.
abbrev pub one_more : (ℕ → List ℕ → Walked) → List ℕ → ℕ → ℕ → List ℕ → Walked
one_more others supported room at octets = if length octets == 0 then ([], None) else and_others others at octets (message_header supported room octets)

unfoldable pub attributes : List ℕ → ℕ → ℕ → List ℕ → Walked
attributes supported zero at octets = one_more (λ at rest. ([], None)) supported 0 at octets
attributes supported (suc room) at octets = one_more (attributes supported room) supported (suc room) at octets

-- ---- what is reported of a fault

-- The attribute is a PA-TNC Error.
abbrev pub is_error : PlacedAttr → Bool
is_error placed = (placed.attr.vendor == IETF) && (placed.attr.kind == ERROR)

-- Which faults are answered: no Error answers an Error (RFC 5792, section 4.2.8). The sender
-- learns of a fault of the framing after these attributes, and of one in a value where these are
-- all that the message has, where none of them is a PA-TNC Error. A fault of the message's own
-- header is always reported.
abbrev pub is_answered : List PlacedAttr → Bool
is_answered attrs = not (list_any is_error attrs)

-- The first 8 of the octets, with 0 in place of those that are not there.
abbrev pub first_octets : List ℕ → List ℕ
first_octets octets = take 8 octets ++ replicate (8 - length octets) 0

-- The first octets of an attribute are part of the fault where it is not supported.
abbrev pub first_told : ℕ → List ℕ → List ℕ
first_told code octets = if code == UNSUPPORTED_ATTRIBUTE then first_octets octets else replicate 8 0

-- The fault of a message, and whether it is answered.
abbrev pub fault_of : List ℕ → Bool → Broken → PaFault
fault_of octets answer broken = record {
  code = broken.fault.code;
  offset = broken.at + broken.fault.at;
  header = first_octets octets;
  first = first_told broken.fault.code broken.octets;
  answer = answer;
}

-- The fault of a value at a place, in a message with these attributes.
abbrev pub value_fault : List ℕ → List PlacedAttr → ℕ → PaFault
value_fault octets attrs offset = record {
  code = INVALID_PARAMETER;
  offset = offset;
  header = first_octets octets;
  first = replicate 8 0;
  answer = is_answered attrs;
}

-- ---- a message

-- The attribute is supported, by a list of types of vendor 0.
abbrev pub supports : List ℕ → PlacedAttr → Bool
supports supported placed = is_supported supported placed.attr.vendor placed.attr.kind

-- The attributes that are supported, unless there is a fault.
abbrev pub kept : List ℕ → List ℕ → List PlacedAttr → Option Broken → Result (List PlacedAttr) PaFault
kept supported octets attrs None = Ok (filter (supports supported) attrs)
kept supported octets attrs (Some broken) = Err (fault_of octets (is_answered attrs) broken)

-- The attributes of a message after its header.
abbrev pub attrs_of : List ℕ → List ℕ → Result (List PlacedAttr) PaFault
attrs_of supported octets =
    let walked : Walked = attributes supported MOST_ATTRIBUTES MESSAGE_HEADER (drop MESSAGE_HEADER octets) in kept supported octets walked.0 walked.1

-- The rows on the header of a message, which go before those on attributes.
abbrev pub start_rows : List ℕ → List Row
start_rows octets =
    row (nat_lt (length octets) MESSAGE_HEADER) INVALID_PARAMETER 0
    ∷ row (not (slice_index octets 0 == VERSION)) VERSION_NOT_SUPPORTED 0
    ∷ []

-- The message identifier, with the attributes.
abbrev pub with_id : List ℕ → Result (List PlacedAttr) PaFault → Result (ℕ × List PlacedAttr) PaFault
with_id octets (Ok attrs) = Ok (number_of (slice_range octets 4 8), attrs)
with_id octets (Err fault) = Err fault

-- A message, unless its header has a fault.
abbrev pub unless_start : Option AttrFault → List ℕ → List ℕ → Result (ℕ × List PlacedAttr) PaFault
unless_start (Some fault) supported octets = Err (fault_of octets true (record { at = 0; octets = octets; fault = fault }))
unless_start None supported octets = with_id octets (attrs_of supported octets)

-- The identifier of the message and its attributes that are supported, or its first fault.
unfoldable pub message_of : List ℕ → List ℕ → Result (ℕ × List PlacedAttr) PaFault
message_of supported octets = unless_start (first_shown (start_rows octets)) supported octets

-- ---- what calls give

-- A call gave this, except running out of memory, of which nothing is said.
abbrev pub Answers : {A : Type 0} → Result A (Refused PaFault) → Result A PaFault → Type 0
Answers (Ok value) message = message ≡ Ok value
Answers (Err (refused.Fault fault)) message = message ≡ Err fault
Answers (Err refused.Memory) message = Unit {0}

-- So for what `read_message` answers.
abbrev pub Reads : PaRead → Result (ℕ × List PlacedAttr) PaFault → Type 0
Reads (read.Ok id attrs) message = message ≡ Ok (id, attrs)
Reads (read.Refused fault) message = message ≡ Err fault
Reads read.Memory message = Unit {0}

-- ---- the attributes of a message that was read

-- They have this property, where the call answered a message.
abbrev pub OnRead : PaRead → (List PlacedAttr → Type 0) → Type 0
OnRead (read.Ok id attrs) holds = holds attrs
OnRead (read.Refused fault) holds = Unit {0}
OnRead read.Memory holds = Unit {0}

-- The value of each lies in a message of this many octets.
abbrev pub LieWithin : ℕ → List PlacedAttr → Type 0
LieWithin count attrs = AllByRecursion (λ (placed : PlacedAttr). placed.at + length placed.attr.value ≤ count) attrs

-- Each is of vendor 0 and of a type in the list.
abbrev pub AreSupported : List ℕ → List PlacedAttr → Type 0
AreSupported supported attrs = AllByRecursion (λ (placed : PlacedAttr). (placed.attr.vendor ≡ IETF) × Contains supported placed.attr.kind) attrs
