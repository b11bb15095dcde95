-- Octets have exactly one of a value and a fault.
use Rattle.std.proofs.Common.{◌≡◌, ℕ, ◌⊎◌, inl, inr, List, Result, Ok, Err, refl, sym, ap, ◌∙◌}
use Rattle.wire_base.proofs.FormOrFault.{one_of_two}
use Rattle.pa_attrs.specs.declared.attr.Attr.{Attr}
use Rattle.pa_attrs.specs.declared.attr.PlacedAttr.{PlacedAttr}
use Rattle.pa_attrs.specs.declared.fault.AttrFault.{AttrFault}
use Rattle.pa_attrs.specs.declared.fault.PaFault.{PaFault}
use Rattle.pa_attrs.specs.ErrorForm.{read_error}
use Rattle.pa_attrs.specs.FirstFault.{IsFault}
use Rattle.pa_attrs.specs.Laws.{AttributeOrFault, ErrorOrFault, IsFirst, IsRead, MessageOrFault, ShowsFault}
use Rattle.pa_attrs.specs.MessageReading.{message_of}
use Rattle.pa_attrs.specs.Stream.{Front, More, Bad, Whole, front_of}
use Rattle.pa_attrs.proofs.AttrLaws.{whole_is_attribute}
use Rattle.pa_attrs.proofs.ErrorLaws.{error_is_form, error_is_torn}
use Rattle.pa_attrs.proofs.FirstFaults.{bad_is_fault, fault_is_first}
use Rattle.pa_attrs.proofs.MessageLaws.{reading_is_form}

-- ---- a message

pub message_or_fault : MessageOrFault
message_or_fault supported octets are within = record {
  one_message = λ id other attrs others this that. let same = same_message (message_of supported octets) (id, attrs) (other, others) (forms id attrs this) (forms other others that) in (ap (λ (m : ℕ × List PlacedAttr). m.0) same, ap (λ (m : ℕ × List PlacedAttr). m.1) same);
  one_fault = λ one other this that. let same : Err one ≡ Err other = sym (faults one this) ∙ faults other that in cc;
  not_both = λ id attrs fault this that. let same : Ok (id, attrs) ≡ Err fault = sym (forms id attrs this) ∙ faults fault that in absurd cc;
  not_neither = either (message_of supported octets) refl;
}
  where
    forms : (id : ℕ) (attrs : List PlacedAttr) → IsRead supported octets id attrs → message_of supported octets ≡ Ok (id, attrs)
    forms id attrs is = (reading_is_form supported octets id attrs are within).1 is

    same_message : (read : Result (ℕ × List PlacedAttr) PaFault) (one other : ℕ × List PlacedAttr) → read ≡ Ok one → read ≡ Ok other → one ≡ other
    same_message read one other this that = cc

    faults : (fault : PaFault) → IsFault supported octets fault → message_of supported octets ≡ Err fault
    faults fault is = (fault_is_first supported octets fault).1 is

    either : (read : Result (ℕ × List PlacedAttr) PaFault) → message_of supported octets ≡ read
        → ((id : ℕ) × (attrs : List PlacedAttr) × IsRead supported octets id attrs) ⊎ ((fault : PaFault) × IsFault supported octets fault)
    either (Ok message) e = inl (message.0, message.1, (reading_is_form supported octets message.0 message.1 are within).0 e)
    either (Err fault) e = inr (fault, (fault_is_first supported octets fault).0 e)

-- ---- a stream

pub attribute_or_fault : AttributeOrFault
attribute_or_fault octets are = record {
  one_attribute = λ one other len count this that. let same : Whole one len ≡ Whole other count = sym (wholes one len this) ∙ wholes other count that in (cc, cc);
  one_fault = λ one other this that. let same : Bad one ≡ Bad other = sym (bads one this) ∙ bads other that in cc;
  not_both = λ attr len fault this that. let same : Whole attr len ≡ Bad fault = sym (wholes attr len this) ∙ bads fault that in absurd cc;
  neither = (
    λ more. (
      λ attr len is. let same : Whole attr len ≡ More = sym (wholes attr len is) ∙ more in absurd cc,
      λ fault is. let same : Bad fault ≡ More = sym (bads fault is) ∙ more in absurd cc,
    ),
    λ no. more (front_of octets) refl no.0 no.1,
  );
}
  where
    wholes : (attr : Attr) (len : ℕ) → IsFirst attr len octets → front_of octets ≡ Whole attr len
    wholes attr len is = (whole_is_attribute octets attr len are).1 is

    bads : (fault : AttrFault) → ShowsFault octets fault → front_of octets ≡ Bad fault
    bads fault is = (bad_is_fault octets fault).1 is

    more : (front : Front) → front_of octets ≡ front → ((attr : Attr) (len : ℕ) → IsFirst attr len octets → ⊥) → ((fault : AttrFault) → ShowsFault octets fault → ⊥) → front_of octets ≡ More
    more More is no_attr no_fault = is
    more (Bad fault) is no_attr no_fault = absurd (no_fault fault ((bad_is_fault octets fault).0 is))
    more (Whole attr len) is no_attr no_fault = absurd (no_attr attr len ((whole_is_attribute octets attr len are).0 is))

-- ---- an Error

pub error_or_fault : ErrorOrFault
error_or_fault = one_of_two read_error error_is_form (λ base octets place are. error_is_torn base octets place)
