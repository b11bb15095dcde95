-- What is written of a message, attribute by attribute.
use Rattle.std.proofs.Common.{◌≡◌, ℕ, ◌+◌, ◌<◌, ◌≤◌, ◌^◌, List, [], ◌∷◌, ◌++◌, length, get_or, refl, sym, ap, ◌∙◌, arith, length-append}
use Rattle.std.specs.List.{flat_map, sum_by}
use Rattle.std.proofs.lemmas.List.Sums.{get_or-le-sum_by, sum_by-cons}
use Rattle.wire_base.specs.Numbers.{octets_of}
use Rattle.wire_base.specs.Written.{written}
use Rattle.wire_base.proofs.Spelled.{length-octets_of}
use Rattle.wire_base.proofs.WrittenLaws.{written-flat_map}
use Rattle.pa_attrs.specs.declared.attr.Attr.{Attr}
use Rattle.pa_attrs.specs.declared.attr.PaMessage.{PaMessage}
use Rattle.pa_attrs.specs.Numbers.{HEADER, MOST_OCTETS}
use Rattle.pa_attrs.specs.AttrForm.{attr_fields}
use Rattle.pa_attrs.specs.Laws.{WrittenIsCounted}
use Rattle.pa_attrs.specs.MessageForm.{CanBeWritten, IsMessage, message_octets, written_message}

-- What is written of an attribute.
abbrev pub written_attr : Attr → List ℕ
written_attr attr = written (attr_fields attr)

-- What is written of the header of a message.
abbrev pub head : ℕ → List ℕ
head id = octets_of 1 1 ++ octets_of 3 0 ++ octets_of 4 id

-- A message is its header, and its attributes.
pub message_written : (message : PaMessage) → written_message message ≡ head message.id ++ flat_map written_attr message.attrs
unfolding written octets_of
message_written message = ap (λ (o : List ℕ). head message.id ++ o) (written-flat_map attr_fields message.attrs)

-- An attribute has the octets of a header, and those of its value.
pub length-written_attr : (attr : Attr) → length (written_attr attr) ≡ HEADER + length attr.value
unfolding written
length-written_attr attr =
    let vendor : List ℕ = octets_of 3 attr.vendor in
    let kind : List ℕ = octets_of 4 attr.kind in
    let len : List ℕ = octets_of 4 (HEADER + length attr.value) in
    omega (
      arith,
      length-append (vendor) (kind ++ (len ++ (attr.value ++ []))),
      length-append kind (len ++ (attr.value ++ [])),
      length-append len (attr.value ++ []),
      length-append attr.value [],
      length-octets_of 3 attr.vendor,
      length-octets_of 4 attr.kind,
      length-octets_of 4 (HEADER + length attr.value),
    )

-- Attributes have the octets that are counted.
length-attrs : (attrs : List Attr) → length (flat_map written_attr attrs) ≡ sum_by (λ (attr : Attr). HEADER + length attr.value) attrs
length-attrs [] = refl
length-attrs (attr ∷ attrs) =
    let octets : Attr → ℕ = λ a. HEADER + length a.value in
    let one : sum_by octets (attr ∷ attrs) ≡ (12 + length attr.value) + sum_by octets attrs = sum_by-cons octets attr attrs in
    let others : length (flat_map written_attr attrs) ≡ sum_by octets attrs = length-attrs attrs in
    let both : length (flat_map written_attr (attr ∷ attrs)) ≡ length (written_attr attr) + length (flat_map written_attr attrs) = length-append (written_attr attr) (flat_map written_attr attrs) in
    let total : length (flat_map written_attr (attr ∷ attrs)) ≡ (12 + length attr.value) + sum_by octets attrs = omega (arith, both, others, length-written_attr attr) in
    total ∙ sym one

-- So does a message.
pub written_is_counted : WrittenIsCounted
written_is_counted message =
    let id : List ℕ = octets_of 4 message.id in
    ap (λ (o : List ℕ). length o) (message_written message)
    ∙ omega (
      arith,
      length-append (head message.id) (flat_map written_attr message.attrs),
      length-append (octets_of 1 1 ++ octets_of 3 0) id,
      length-append (octets_of 1 1) (octets_of 3 0),
      length-octets_of 1 1,
      length-octets_of 3 0,
      length-octets_of 4 message.id,
      length-attrs message.attrs,
    )

-- A message that can be written is one.
pub written_may_be : (message : PaMessage) → CanBeWritten message → IsMessage message (length (written_message message))
written_may_be message can = record { named = can.named; count = can.count; within = omega (arith, can.within, written_is_counted message) }

-- Each attribute of a message has a length that fits its field.
pub length_fits : (message : PaMessage) (i : ℕ) (d : Attr) → message_octets message ≤ MOST_OCTETS → i < length message.attrs → 12 + length (get_or message.attrs i d).value < 2 ^ 32
length_fits message i d within lt = omega (arith, within, get_or-le-sum_by (λ (attr : Attr). HEADER + length attr.value) message.attrs i d lt)
