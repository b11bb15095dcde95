-- What a message without a fault is read as has the message's form, and what has the form is read
-- as the message.
use Rattle.std.proofs.Common.{◌≡◌, ℕ, ◌+◌, ◌≤◌, ◌<◌, Bool, true, false, ◌&&◌, not, ltb, IsTrue, List, [], ◌∷◌, length, get_or, slice_range, Ok, refl, sym, ap, subst, ◌∙◌, arith}
use Rattle.std.proofs.lemmas.Bool.{ltb-false, leb-true, eqb-true, or_parts}
use Rattle.std.proofs.lemmas.List.{append-nil}
use Rattle.wire_base.specs.Layout.{AreOctets, Field, Number, Flags, AreFlags, is_set}
use Rattle.wire_base.specs.FaultTable.{first_shown}
use Rattle.pb_batch.specs.declared.batch.Message.{Message}
use Rattle.pb_batch.specs.declared.kind.MessageType.{MessageType}
use Rattle.pb_batch.specs.declared.kind.MessageType.TheVariants as type
use Rattle.pb_batch.specs.Types.{is_known}
use Rattle.pb_batch.specs.Form.{NO_VENDOR, NO_TYPE, FLAG, MessageForm}
use Rattle.pb_batch.specs.Faults.{number, noskip_in, vendor_in, kind_in, length_in, type_in, may_have, value_rows}
use Rattle.pb_batch.specs.Front.{message_of_type, value_of}
use Rattle.wire_base.proofs.FaultTables.{NoneShow, unless_ok, none_show}
use Rattle.pb_batch.proofs.Fields.{Stands, length-between, between_split, number_forth, flags_forth, reserved_forth, end_forth}
use Rattle.pb_batch.proofs.Heads.{HeadIs, type_pa, type_assessment, type_recommendation, type_error, number_below, below_last}

-- ---- what is read has the form

-- A message of at least that many octets has the rest after them.
behind_fields : (rest : List ℕ) (fields count : ℕ) → fields ≤ count → count ≤ length rest → fields + length (slice_range rest fields count) ≡ count
behind_fields rest fields count least there = omega (arith, least, length-between rest fields count there)

-- The fields of the head, and those after them.
head_forth : {vendor kind count n : ℕ} {rest : List ℕ} {fields : List Field} (flags : List (ℕ × Bool)) → AreOctets rest → n ≤ length rest → 12 ≤ n
    → AreFlags (get_or rest 0 0) flags → vendor_in rest ≡ vendor → kind_in rest ≡ kind → length_in rest ≡ count → Stands rest fields 12 n
    → Stands rest (Flags flags ∷ Number 3 vendor ∷ Number 4 kind ∷ Number 4 count ∷ fields) 0 n
head_forth {vendor = vendor} {kind = kind} {count = count} flags are there long flagged is_vendor is_kind is_count behind =
    flags_forth flags there (omega (arith, long)) flagged
    (number_forth 3 vendor are there (omega (arith, long)) is_vendor
    (number_forth 4 kind are there (omega (arith, long)) is_kind
    (number_forth 4 count are there (omega (arith, long)) is_count behind)))

pa_forth : (place : ℕ) (rest : List ℕ) → AreOctets rest → HeadIs rest → type_in rest ≡ type.Pa → NoneShow (value_rows type.Pa place rest) → MessageForm (message_of_type type.Pa rest) (slice_range rest 0 (length_in rest))
pa_forth place rest are h is none =
    let t = type_pa (vendor_in rest) (kind_in rest) is in
    let may : may_have type.Pa (length_in rest) ≡ true = sym (ap (λ (x : MessageType). may_have x (length_in rest)) is) ∙ h.may in
    let least : 24 ≤ length_in rest = leb-true 24 (length_in rest) may in
    let within : 24 ≤ length rest = omega (arith, least, h.within) in
    let vendor : number rest 13 3 < NO_VENDOR = below_last (number rest 13 3) NO_VENDOR (omega (arith, number_below 3 13 rest are (omega (arith, within)))) none.0 in
    let subtype : number rest 16 4 < NO_TYPE = below_last (number rest 16 4) NO_TYPE (omega (arith, number_below 4 16 rest are (omega (arith, within)))) none.1.0 in
    let value =
    flags_forth ((FLAG, is_set (get_or rest 12 0) FLAG) ∷ []) within (omega arith) (refl, tt)
    (number_forth 3 (number rest 13 3) are within (omega arith) refl
    (number_forth 4 (number rest 16 4) are within (omega arith) refl
    (number_forth 2 (number rest 20 2) are within (omega arith) refl
    (number_forth 2 (number rest 22 2) are within (omega arith) refl
    (end_forth rest 24))))) in
    record {
      valid = (vendor, subtype, omega (arith, number_below 2 20 rest are (omega (arith, within))), omega (arith, number_below 2 22 rest are (omega (arith, within))));
      head = slice_range rest 0 24;
      joined = between_split rest 0 24 (length_in rest) (omega arith) least;
      fields = (head_forth [] are within (omega arith) tt t.0 t.1 (sym (behind_fields rest 24 (length_in rest) least h.within)) value).form;
    }

assessment_forth : (place : ℕ) (rest : List ℕ) → AreOctets rest → HeadIs rest → type_in rest ≡ type.Assessment → NoneShow (value_rows type.Assessment place rest)
    → MessageForm (message_of_type type.Assessment rest) (slice_range rest 0 (length_in rest))
assessment_forth place rest are h is none =
    let t = type_assessment (vendor_in rest) (kind_in rest) is in
    let may : may_have type.Assessment (length_in rest) ≡ true = sym (ap (λ (x : MessageType). may_have x (length_in rest)) is) ∙ h.may in
    let count : length_in rest ≡ 16 = eqb-true (length_in rest) 16 may in
    let within : 16 ≤ length rest = omega (arith, count, h.within) in
    record {
      valid = ltb-false 4 (number rest 12 4) none.0;
      head = slice_range rest 0 16;
      joined = ap (λ (n : ℕ). slice_range rest 0 n) count ∙ sym (append-nil (slice_range rest 0 16));
      fields = (head_forth [] are within (omega arith) tt t.0 t.1 count (number_forth 4 (number rest 12 4) are within (omega arith) refl (end_forth rest 16))).form;
    }

recommendation_forth : (place : ℕ) (rest : List ℕ) → AreOctets rest → HeadIs rest → type_in rest ≡ type.Recommendation → NoneShow (value_rows type.Recommendation place rest)
    → MessageForm (message_of_type type.Recommendation rest) (slice_range rest 0 (length_in rest))
recommendation_forth place rest are h is none =
    let t = type_recommendation (vendor_in rest) (kind_in rest) is in
    let may : may_have type.Recommendation (length_in rest) ≡ true = sym (ap (λ (x : MessageType). may_have x (length_in rest)) is) ∙ h.may in
    let count : length_in rest ≡ 16 = eqb-true (length_in rest) 16 may in
    let within : 16 ≤ length rest = omega (arith, count, h.within) in
    let code = or_parts (ltb (number rest 14 2) 1) (ltb 3 (number rest 14 2)) none.0 in
    let value = reserved_forth 2 within (omega arith) (number_forth 2 (number rest 14 2) are within (omega arith) refl (end_forth rest 16)) in
    record {
      valid = (ltb-false (number rest 14 2) 1 code.0, ltb-false 3 (number rest 14 2) code.1);
      head = slice_range rest 0 16;
      joined = ap (λ (n : ℕ). slice_range rest 0 n) count ∙ sym (append-nil (slice_range rest 0 16));
      fields = (head_forth [] are within (omega arith) tt t.0 t.1 count value).form;
    }

error_forth : (rest : List ℕ) → AreOctets rest → HeadIs rest → type_in rest ≡ type.Error → MessageForm (message_of_type type.Error rest) (slice_range rest 0 (length_in rest))
error_forth rest are h is =
    let t = type_error (vendor_in rest) (kind_in rest) is in
    let may : may_have type.Error (length_in rest) ≡ true = sym (ap (λ (x : MessageType). may_have x (length_in rest)) is) ∙ h.may in
    let least : 20 ≤ length_in rest = leb-true 20 (length_in rest) may in
    let within : 20 ≤ length rest = omega (arith, least, h.within) in
    let value =
    flags_forth ((FLAG, is_set (get_or rest 12 0) FLAG) ∷ []) within (omega arith) (refl, tt)
    (number_forth 3 (number rest 13 3) are within (omega arith) refl
    (number_forth 2 (number rest 16 2) are within (omega arith) refl
    (reserved_forth 2 within (omega arith) (end_forth rest 20)))) in
    record {
      valid = (omega (arith, number_below 3 13 rest are (omega (arith, within))), omega (arith, number_below 2 16 rest are (omega (arith, within))));
      head = slice_range rest 0 20;
      joined = between_split rest 0 20 (length_in rest) (omega arith) least;
      fields = (head_forth [] are within (omega arith) tt t.0 t.1 (sym (behind_fields rest 20 (length_in rest) least h.within)) value).form;
    }

-- NOSKIP stands only on a type that has to be known.
only_known : (noskip known : Bool) → (noskip && not known) ≡ false → noskip ≡ true → IsTrue known
only_known true true e set = refl
only_known true false e set = absurd cc
only_known false known e set = absurd cc

other_forth : (rest : List ℕ) → AreOctets rest → HeadIs rest → type_in rest ≡ type.Other → MessageForm (message_of_type type.Other rest) (slice_range rest 0 (length_in rest))
other_forth rest are h is =
    let may : may_have type.Other (length_in rest) ≡ true = sym (ap (λ (x : MessageType). may_have x (length_in rest)) is) ∙ h.may in
    let least : 12 ≤ length_in rest = leb-true 12 (length_in rest) may in
    let vendor : vendor_in rest < NO_VENDOR = below_last (vendor_in rest) NO_VENDOR (omega (arith, number_below 3 1 rest are (omega (arith, h.long)))) h.vendor in
    let kind : kind_in rest < NO_TYPE = below_last (kind_in rest) NO_TYPE (omega (arith, number_below 4 4 rest are (omega (arith, h.long)))) h.kind in
    record {
      valid = (vendor, kind, is, only_known (noskip_in rest) (is_known (vendor_in rest) (kind_in rest)) h.known);
      head = slice_range rest 0 12;
      joined = between_split rest 0 12 (length_in rest) (omega arith) least;
      fields = (head_forth ((FLAG, noskip_in rest) ∷ []) are h.long (omega arith) (refl, tt) refl refl (sym (behind_fields rest 12 (length_in rest) least h.within)) (end_forth rest 12)).form;
    }

message_forth_by : (t : MessageType) (place : ℕ) (rest : List ℕ) → AreOctets rest → HeadIs rest → type_in rest ≡ t → NoneShow (value_rows t place rest) → MessageForm (message_of_type t rest) (slice_range rest 0 (length_in rest))
message_forth_by type.Pa place rest are h is none = pa_forth place rest are h is none
message_forth_by type.Assessment place rest are h is none = assessment_forth place rest are h is none
message_forth_by type.Recommendation place rest are h is none = recommendation_forth place rest are h is none
message_forth_by type.Error place rest are h is none = error_forth rest are h is
message_forth_by type.Other place rest are h is none = other_forth rest are h is

-- A message without a fault has its form.
pub message_forth : (place : ℕ) (rest : List ℕ) (m : Message) → AreOctets rest → HeadIs rest → value_of place rest (type_in rest) ≡ Ok m → MessageForm m (slice_range rest 0 (length_in rest))
message_forth place rest m are h ok =
    let o = unless_ok (first_shown (value_rows (type_in rest) place rest)) (message_of_type (type_in rest) rest) m ok in
    subst (λ (x : Message). MessageForm x (slice_range rest 0 (length_in rest))) o.1 (message_forth_by (type_in rest) place rest are h refl (none_show (value_rows (type_in rest) place rest) o.0))
