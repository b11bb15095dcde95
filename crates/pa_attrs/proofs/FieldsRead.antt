-- What is read field by field is what the definitions say of the octets.
use Rattle.std.proofs.Common.{◌≡◌, ℕ, ◌≤◌, ◌<◌, true, List, ◌++◌, length, take, drop, get_or, slice_range, Result, Ok, Err, refl, sym, ap, ◌∙◌, inl, inr, arith}
use Rattle.std.proofs.lemmas.Bool.{cases_lt, le-ltb, lt-ltb, ne_eqb, eq-eqb}
use Rattle.std.proofs.lemmas.List.{length-take-le, take-append-drop}
use Rattle.wire_base.specs.Layout.{is_set}
use Rattle.wire_base.specs.Numbers.{number_of}
use Rattle.wire_base.specs.Reading.{GivesExactly, value_alone}
use Rattle.wire_base.specs.declared.layout.field_refused.FieldRefused.{FieldRefused}
use Rattle.wire_base.specs.declared.layout.field_refused.FieldRefused.TheVariants as field
use Rattle.wire_base.proofs.FieldsAt.{IsTorn, one_octet, then_octets, then_value, then_placed, octets_or_torn, number_or_torn}
use Rattle.wire_base.specs.declared.layout.field_refused.Refused.{Refused}
use Rattle.wire_base.specs.declared.layout.field_refused.Refused.TheVariants as refused
use Rattle.pa_attrs.specs.declared.attr.PlacedAttr.{PlacedAttr}
use Rattle.pa_attrs.specs.declared.fault.PaFault.{PaFault}
use Rattle.pa_attrs.specs.declared.header.Header.{Header}
use Rattle.pa_attrs.specs.declared.header.HeaderFields.{HeaderFields}
use Rattle.pa_attrs.specs.Header.{header_of, placed_header, read_header_fields, read_start}
use Rattle.pa_attrs.specs.Faults.{fault}
use Rattle.pa_attrs.specs.MessageReading.{Answers, attrs_of, fault_of, message_of, with_id}
use Rattle.pa_attrs.specs.Numbers.{INVALID_PARAMETER, VERSION_NOT_SUPPORTED, NOSKIP}
use Rattle.pa_attrs.proofs.Headers.{header_front}

-- ---- the header of an attribute

header_there : (octets : List ℕ) → 12 ≤ length octets → value_alone (read_header_fields (record { at = 0; octets = octets })) ≡ Ok (placed_header (header_of octets))
unfolding read_header_fields
header_there octets long =
    ap value_alone
    (then_value 1 0 0 octets _ (get_or octets 0 0) (omega arith) (one_octet octets 0 (omega arith))
    ∙ then_placed 3 1 0 octets _ (header_of octets).vendor (omega arith) refl
    ∙ then_placed 4 4 0 octets _ (header_of octets).kind (omega arith) refl
    ∙ then_placed 4 8 0 octets _ (header_of octets).length long refl)

-- The first 12 octets have the header of all.
header_first : (octets : List ℕ) → 12 ≤ length octets → header_of (take 12 octets) ≡ header_of octets
header_first octets long =
    let all : take 12 octets ++ drop 12 octets ≡ octets = take-append-drop 12 octets in
    sym (header_front (take 12 octets) (drop 12 octets) (omega (arith, length-take-le 12 octets long))) ∙ ap header_of all

pub header_read : (octets : List ℕ) → 12 ≤ length octets → value_alone (read_header_fields (record { at = 0; octets = take 12 octets })) ≡ Ok (placed_header (header_of octets))
header_read octets long =
    header_there (take 12 octets) (omega (arith, length-take-le 12 octets long)) ∙ ap (λ (h : Header). Ok (placed_header h)) (header_first octets long)

pub fields_read : (octets : List ℕ) (r : Result HeaderFields FieldRefused) → 12 ≤ length octets
    → GivesExactly {X = HeaderFields} {Y = HeaderFields} (λ x. x) r (value_alone (read_header_fields (record { at = 0; octets = take 12 octets }))) → r ≡ Ok (placed_header (header_of octets))
fields_read octets (Ok fields) long gives =
    let said : Result HeaderFields ℕ = value_alone (read_header_fields (record { at = 0; octets = take 12 octets })) in
    let same : Ok fields ≡ Ok (placed_header (header_of octets)) = sym gives ∙ header_read octets long in
    let is : fields ≡ placed_header (header_of octets) = cc in
    ap (λ (f : HeaderFields). Ok f) is
fields_read octets (Err (field.Fault place)) long gives =
    let same : Err place ≡ Ok (placed_header (header_of octets)) = sym gives ∙ header_read octets long in absurd cc
fields_read octets (Err field.Memory) long gives = absurd gives

pub fields_are : (octets : List ℕ) (r : Result HeaderFields FieldRefused) (got : HeaderFields) → 12 ≤ length octets
    → GivesExactly {X = HeaderFields} {Y = HeaderFields} (λ x. x) r (value_alone (read_header_fields (record { at = 0; octets = take 12 octets }))) → r ≡ Ok got → got ≡ placed_header (header_of octets)
fields_are octets r got long gives is = same_ok r got (placed_header (header_of octets)) is (fields_read octets r long gives)
  where
    same_ok : (r : Result HeaderFields FieldRefused) (a b : HeaderFields) → r ≡ Ok a → r ≡ Ok b → a ≡ b
    same_ok r a b one other = cc

-- ---- the header of a message

start_there : (octets : List ℕ) → 8 ≤ length octets → value_alone (read_start (record { at = 0; octets = octets })) ≡ Ok (get_or octets 0 0, number_of (slice_range octets 4 8))
unfolding read_start
start_there octets long =
    ap value_alone
    (then_value 1 0 0 octets _ (get_or octets 0 0) (omega arith) (one_octet octets 0 (omega arith))
    ∙ then_octets 3 1 0 octets _ (omega arith)
    ∙ then_value 4 4 0 octets _ (number_of (slice_range octets 4 8)) long refl)

start_torn : (octets : List ℕ) → length octets < 8 → IsTorn (value_alone (read_start (record { at = 0; octets = octets })))
unfolding read_start
start_torn octets short =
    let torn = number_or_torn 1 0 0 octets _ (omega arith) (λ a. octets_or_torn 3 1 0 octets _ a (λ b. number_or_torn 4 4 0 octets _ b (λ c. absurd (omega (arith, short, c))))) in
    (torn.0, ap value_alone torn.1)

torn_not_ok : {A : Type 0} (r : Result A ℕ) (value : A) → IsTorn r → r ≡ Ok value → ⊥
torn_not_ok r value torn e = let same : Ok value ≡ Err torn.0 = sym e ∙ torn.1 in absurd cc

ok_not_err : {A : Type 0} (r : Result A ℕ) (value : A) (place : ℕ) → r ≡ Ok value → r ≡ Err place → ⊥
ok_not_err r value place ok err = absurd cc

-- Where they were read, all of the header is there; where they were not, it is not.
pub start_read : (octets : List ℕ) (start : ℕ × ℕ) → value_alone (read_start (record { at = 0; octets = octets })) ≡ Ok start → (8 ≤ length octets) × (start.0 ≡ get_or octets 0 0) × (start.1 ≡ number_of (slice_range octets 4 8))
start_read octets start e =
    elim (cases_lt (length octets) 8) [
      | inl short ↦ absurd (torn_not_ok (value_alone (read_start (record { at = 0; octets = octets }))) start (start_torn octets short) e)
      | inr long ↦
          let same : Ok start ≡ Ok (get_or octets 0 0, number_of (slice_range octets 4 8)) = sym e ∙ start_there octets long in
          let is : start ≡ (get_or octets 0 0, number_of (slice_range octets 4 8)) = cc in
          (long, ap (λ (p : ℕ × ℕ). p.0) is, ap (λ (p : ℕ × ℕ). p.1) is)
    ]

pub start_unread : (octets : List ℕ) (place : ℕ) → value_alone (read_start (record { at = 0; octets = octets })) ≡ Err place → length octets < 8
start_unread octets place e =
    elim (cases_lt (length octets) 8) [
      | inl short ↦ short
      | inr long ↦ absurd (ok_not_err (value_alone (read_start (record { at = 0; octets = octets }))) (get_or octets 0 0, number_of (slice_range octets 4 8)) place (start_there octets long) e)
    ]

-- ---- a message by its header

-- Its header is not all there.
pub message_none : (supported octets : List ℕ) (e : FieldRefused) → GivesExactly {X = ℕ × ℕ} {Y = ℕ × ℕ} (λ x. x) (Err e) (value_alone (read_start (record { at = 0; octets = octets })))
    → message_of supported octets ≡ Err (fault_of octets true (record { at = 0; octets = octets; fault = fault INVALID_PARAMETER 0 }))
unfolding message_of
message_none supported octets (field.Fault place) gives = rw (lt-ltb (length octets) 8 (start_unread octets place gives)) refl
message_none supported octets field.Memory gives = absurd gives

-- It is of another version.
pub message_version : (supported octets : List ℕ) (start : ℕ × ℕ) → value_alone (read_start (record { at = 0; octets = octets })) ≡ Ok start → (start.0 ≡ 1 → ⊥)
    → message_of supported octets ≡ Err (fault_of octets true (record { at = 0; octets = octets; fault = fault VERSION_NOT_SUPPORTED 0 }))
unfolding message_of
message_version supported octets start e other =
    let s = start_read octets start e in
    rw (le-ltb (length octets) 8 s.0, ne_eqb (get_or octets 0 0) 1 (λ one. other (s.1 ∙ one))) refl

-- It has no fault.
pub message_good : (supported octets : List ℕ) (start : ℕ × ℕ) → value_alone (read_start (record { at = 0; octets = octets })) ≡ Ok start → start.0 ≡ 1
    → (message_of supported octets ≡ with_id octets (attrs_of supported octets)) × (start.1 ≡ number_of (slice_range octets 4 8)) × (8 ≤ length octets)
unfolding message_of
message_good supported octets start e one =
    let s = start_read octets start e in
    (rw (le-ltb (length octets) 8 s.0, eq-eqb (get_or octets 0 0) 1 (sym s.1 ∙ one)) refl, s.2, s.0)

-- A fault of the attributes is that of the message.
pub message_err : (octets : List ℕ) (read : Result (List PlacedAttr) PaFault) (m : Result (ℕ × List PlacedAttr) PaFault) (e : Refused PaFault) → m ≡ with_id octets read
    → Answers {A = List PlacedAttr} (Err e) read → Answers {A = ℕ × List PlacedAttr} (Err e) m
message_err octets read m (refused.Fault f) is fails = is ∙ ap (λ (r : Result (List PlacedAttr) PaFault). with_id octets r) fails
message_err octets read m refused.Memory is fails = tt

-- Its attributes and its identifier are those of the message.
pub message_ok : (octets : List ℕ) (read : Result (List PlacedAttr) PaFault) (m : Result (ℕ × List PlacedAttr) PaFault) (id : ℕ) (attrs : List PlacedAttr) → m ≡ with_id octets read
    → read ≡ Ok attrs → id ≡ number_of (slice_range octets 4 8) → m ≡ Ok (id, attrs)
message_ok octets read m id attrs is reads said =
    is ∙ ap (λ (r : Result (List PlacedAttr) PaFault). with_id octets r) reads ∙ ap (λ (n : ℕ). Ok (n, attrs)) (sym said)
