-- What is read field by field is what the tables of faults say of the octets.
use Rattle.std.proofs.Common.{◌≡◌, ℕ, ◌+◌, ◌-◌, ◌≤◌, ◌<◌, Bool, true, false, cond, eqb, ltb, ◌||◌, IsTrue, not, List, ◌∷◌, length, take, drop, get_or, slice_range, Some, None, Result, Ok, Err, refl, sym, ap, subst, ◌∙◌, inl, inr, arith}
use Rattle.std.proofs.lemmas.Bool.{cases_lt, eqb-true, leb-true, le-ltb, lt-ltb, ne_eqb}
use Rattle.std.proofs.lemmas.List.{drop-take, take-take, length-take-le}
use Rattle.wire_base.specs.FaultTable.{unless}
use Rattle.wire_base.specs.Layout.{is_set}
use Rattle.wire_base.specs.Numbers.{number_of}
use Rattle.wire_base.specs.Reading.{Rest, value_alone}
use Rattle.wire_base.specs.declared.layout.field_refused.FieldRefused.{FieldRefused}
use Rattle.wire_base.specs.declared.layout.field_refused.FieldRefused.TheVariants as field
use Rattle.wire_base.specs.Reading.{Gives as GivesRead, GivesExactly}
use Rattle.wire_base.proofs.FieldsAt.{IsTorn, rest_from, one_octet, then_octets, then_value, then_placed, then_meaning, last_remaining, octets_or_torn, placed_or_torn}
use Rattle.pb_batch.specs.declared.batch.Message.{Message}
use Rattle.pb_batch.specs.declared.batch.Message.TheVariants.{Pa, Assessment, Recommendation, Error, Frame}
use Rattle.pb_batch.specs.declared.batch_header.Header.{Header}
use Rattle.pb_batch.specs.declared.batch_header.HeaderFields.{HeaderFields}
use Rattle.pb_batch.specs.declared.fault.PbFault.{PbFault}
use Rattle.pb_batch.specs.declared.kind.MessageType.{MessageType}
use Rattle.pb_batch.specs.declared.kind.MessageType.TheVariants as type
use Rattle.pb_batch.specs.declared.message_head.HeadFields.{HeadFields}
use Rattle.pb_batch.specs.declared.message_head.MessageHead.{MessageHead}
use Rattle.pb_batch.specs.FieldReading.{checked_header, checked_head, head_said, read_header_fields, read_head_fields, read_message, read_typed, read_pa, read_assessment, read_recommendation, read_error, read_frame, unless_so, is_no_vendor, is_no_type}
use Rattle.pb_batch.specs.Form.{FLAG, NO_VENDOR, NO_TYPE}
use Rattle.pb_batch.specs.Faults.{INVALID_PARAMETER, fault, batch_length, vendor_in, kind_in, length_in, number, may_have}
use Rattle.pb_batch.specs.Front.{head_in, head_of, header_seen, value_of, when_there}
use Rattle.pb_batch.specs.Gives.{Gives, refused_of}
use Rattle.pb_batch.specs.Types.{type_of}

torn_not_ok : {A : Type 0} (r : Result A ℕ) (value : A) → IsTorn r → r ≡ Ok value → ⊥
torn_not_ok r value torn e = let same : Ok value ≡ Err torn.0 = sym e ∙ torn.1 in absurd cc

-- ---- the header of a batch

-- What its fields say.
abbrev pub header_fields_in : List ℕ → HeaderFields
header_fields_in octets = record {
  version = record { at = 0; value = get_or octets 0 0 };
  flags = record { at = 1; value = get_or octets 1 0 };
  kind = record { at = 3; value = get_or octets 3 0 };
  length = record { at = 4; value = batch_length octets };
}

header_there : (octets : List ℕ) → 8 ≤ length octets → value_alone (read_header_fields (record { at = 0; octets = octets })) ≡ Ok (header_fields_in octets)
unfolding read_header_fields
header_there octets long =
    ap value_alone
    (then_placed 1 0 0 octets _ (get_or octets 0 0) (omega arith) (one_octet octets 0 (omega arith))
    ∙ then_placed 1 1 0 octets _ (get_or octets 1 0) (omega arith) (one_octet octets 1 (omega arith))
    ∙ then_octets 1 2 0 octets _ (omega arith)
    ∙ then_placed 1 3 0 octets _ (get_or octets 3 0) (omega arith) (one_octet octets 3 (omega arith))
    ∙ then_placed 4 4 0 octets _ (batch_length octets) long refl)

header_torn : (octets : List ℕ) → length octets < 8 → IsTorn (value_alone (read_header_fields (record { at = 0; octets = octets })))
unfolding read_header_fields
header_torn octets short =
    let torn =
    placed_or_torn 1 0 0 octets _ (omega arith) (λ a. placed_or_torn 1 1 0 octets _ a (λ b. octets_or_torn 1 2 0 octets _ b (λ c. placed_or_torn 1 3 0 octets _ c (λ d. placed_or_torn 4 4 0 octets _ d (λ e. absurd (omega (arith, short, e))))))) in
    (torn.0, ap value_alone torn.1)

-- Where they were read, all of the header is there; where they were not, it is not.
pub header_read : (octets : List ℕ) (fields : HeaderFields) → value_alone (read_header_fields (record { at = 0; octets = octets })) ≡ Ok fields → (8 ≤ length octets) × (header_fields_in octets ≡ fields)
header_read octets fields e =
    elim (cases_lt (length octets) 8) [
      | inl short ↦ absurd (torn_not_ok (value_alone (read_header_fields (record { at = 0; octets = octets }))) fields (header_torn octets short) e)
      | inr long ↦ let same : Ok (header_fields_in octets) ≡ Ok fields = sym (header_there octets long) ∙ e in (long, cc)
    ]

pub header_unread : (octets : List ℕ) (place : ℕ) → value_alone (read_header_fields (record { at = 0; octets = octets })) ≡ Err place → length octets < 8
header_unread octets place e =
    elim (cases_lt (length octets) 8) [
      | inl short ↦ short
      | inr long ↦ let same : Ok (header_fields_in octets) ≡ Err place = sym (header_there octets long) ∙ e in absurd cc
    ]

-- ---- what a header that was read says

gives_torn : {A : Type 0} (e : FieldRefused) (said : Result A ℕ) → GivesExactly {X = A} {Y = A} (λ r. r) (Err e) said → IsTorn said
gives_torn (field.Fault place) said gives = (place, gives)
gives_torn field.Memory said gives = absurd gives

pub header_none : (s : Bool) (octets : List ℕ) (e : FieldRefused) → GivesExactly {X = HeaderFields} {Y = HeaderFields} (λ r. r) (Err e) (value_alone (read_header_fields (record { at = 0; octets = octets })))
    → Ok None ≡ header_seen s octets
header_none s octets e gives =
    let torn = gives_torn e (value_alone (read_header_fields (record { at = 0; octets = octets }))) gives in
    rw (lt-ltb (length octets) 8 (header_unread octets torn.0 torn.1)) refl

header_checked : (s : Bool) (octets : List ℕ) (fields : HeaderFields) → value_alone (read_header_fields (record { at = 0; octets = octets })) ≡ Ok fields → when_there (checked_header s fields) ≡ header_seen s octets
header_checked s octets fields e =
    let h = header_read octets fields e in
    rw (le-ltb (length octets) 8 h.0) (ap (λ (f : HeaderFields). when_there (checked_header s f)) (sym h.1))

pub header_some : (s : Bool) (octets : List ℕ) (fields : HeaderFields) (h : Header) → value_alone (read_header_fields (record { at = 0; octets = octets })) ≡ Ok fields → Ok h ≡ checked_header s fields
    → Ok (Some h) ≡ header_seen s octets
header_some s octets fields h e is = ap when_there is ∙ header_checked s octets fields e

pub header_err : (s : Bool) (octets : List ℕ) (fields : HeaderFields) (f : PbFault) → value_alone (read_header_fields (record { at = 0; octets = octets })) ≡ Ok fields → Err f ≡ checked_header s fields
    → Err f ≡ header_seen s octets
header_err s octets fields f e is = ap when_there is ∙ header_checked s octets fields e

-- ---- the head of a message

-- What its fields say, where the first stands at `first`.
abbrev pub head_fields_from : ℕ → ℕ → List ℕ → HeadFields
head_fields_from first at rest = record {
  flags = record { at = first; value = get_or rest 0 0 };
  vendor = record { at = at + 1; value = vendor_in rest };
  kind = record { at = at + 4; value = kind_in rest };
  length = record { at = at + 8; value = length_in rest };
}

abbrev pub head_fields_in : ℕ → List ℕ → HeadFields
head_fields_in at rest = head_fields_from at at rest

-- All octets are those from the first on.
abbrev all_at : ℕ → List ℕ → Rest
all_at at octets = record { at = at; octets = octets }

all_from : (at : ℕ) (octets : List ℕ) → all_at at octets ≡ rest_from at octets 0
all_from at octets = let same : at ≡ at + 0 = omega arith in ap (λ (n : ℕ). all_at n octets) same

head_from : (at : ℕ) (rest : List ℕ) → 12 ≤ length rest → value_alone (read_head_fields (rest_from at rest 0)) ≡ Ok (head_fields_from (at + 0) at rest)
unfolding read_head_fields
head_from at rest long =
    ap value_alone
    (then_placed 1 0 at rest _ (get_or rest 0 0) (omega arith) (one_octet rest 0 (omega arith))
    ∙ then_placed 3 1 at rest _ (vendor_in rest) (omega arith) refl
    ∙ then_placed 4 4 at rest _ (kind_in rest) (omega arith) refl
    ∙ then_placed 4 8 at rest _ (length_in rest) long refl)

head_there : (at : ℕ) (rest : List ℕ) → 12 ≤ length rest → value_alone (read_head_fields (record { at = at; octets = rest })) ≡ Ok (head_fields_in at rest)
head_there at rest long =
    let same : at + 0 ≡ at = omega arith in
    ap (λ (r : Rest). value_alone (read_head_fields r)) (all_from at rest) ∙ head_from at rest long ∙ ap (λ (n : ℕ). Ok (head_fields_from n at rest)) same

torn_from : (at : ℕ) (rest : List ℕ) → length rest < 12 → IsTorn (value_alone (read_head_fields (rest_from at rest 0)))
unfolding read_head_fields
torn_from at rest short =
    let torn =
    placed_or_torn 1 0 at rest _ (omega arith) (λ a. placed_or_torn 3 1 at rest _ a (λ b. placed_or_torn 4 4 at rest _ b (λ c. placed_or_torn 4 8 at rest _ c (λ d. absurd (omega (arith, short, d)))))) in
    (torn.0, ap value_alone torn.1)

head_torn : (at : ℕ) (rest : List ℕ) → length rest < 12 → IsTorn (value_alone (read_head_fields (record { at = at; octets = rest })))
head_torn at rest short =
    let torn = torn_from at rest short in
    (torn.0, ap (λ (r : Rest). value_alone (read_head_fields r)) (all_from at rest) ∙ torn.1)

-- Where they were read, all of the head is there; where they were not, it is not.
pub head_read : (at : ℕ) (rest : List ℕ) (fields : HeadFields) → value_alone (read_head_fields (record { at = at; octets = rest })) ≡ Ok fields → (12 ≤ length rest) × (head_fields_in at rest ≡ fields)
head_read at rest fields e =
    elim (cases_lt (length rest) 12) [
      | inl short ↦ absurd (torn_not_ok (value_alone (read_head_fields (record { at = at; octets = rest }))) fields (head_torn at rest short) e)
      | inr long ↦ let same : Ok (head_fields_in at rest) ≡ Ok fields = sym (head_there at rest long) ∙ e in (long, cc)
    ]

pub head_unread : (at : ℕ) (rest : List ℕ) (place : ℕ) → value_alone (read_head_fields (record { at = at; octets = rest })) ≡ Err place → length rest < 12
head_unread at rest place e =
    elim (cases_lt (length rest) 12) [
      | inl short ↦ short
      | inr long ↦ let same : Ok (head_fields_in at rest) ≡ Err place = sym (head_there at rest long) ∙ e in absurd cc
    ]

-- ---- what a head that was read says

pub head_none : (left at : ℕ) (rest : List ℕ) (e : FieldRefused) → GivesExactly {X = HeadFields} {Y = HeadFields} (λ r. r) (Err e) (value_alone (read_head_fields (record { at = at; octets = rest }))) → 0 < left
    → Err (fault INVALID_PARAMETER at) ≡ head_of left at rest
head_none left at rest e gives some =
    let torn = gives_torn e (value_alone (read_head_fields (record { at = at; octets = rest }))) gives in
    rw (ne_eqb left 0 (λ none. omega (arith, none, some)), lt-ltb (length rest) 12 (head_unread at rest torn.0 torn.1)) refl

pub head_checked : (left at : ℕ) (rest : List ℕ) (fields : HeadFields) → value_alone (read_head_fields (record { at = at; octets = rest })) ≡ Ok fields → 0 < left
    → checked_head (length rest) fields ≡ head_of left at rest
head_checked left at rest fields e some =
    let h = head_read at rest fields e in
    rw (ne_eqb left 0 (λ none. omega (arith, none, some)), le-ltb (length rest) 12 h.0) (ap (λ (f : HeadFields). checked_head (length rest) f) (sym h.1))

pub head_is_said : (at : ℕ) (rest : List ℕ) (fields : HeadFields) → value_alone (read_head_fields (record { at = at; octets = rest })) ≡ Ok fields → head_said fields ≡ head_in rest
head_is_said at rest fields e = ap head_said (sym (head_read at rest fields e).1)

-- ---- values

-- Octets that are among the first are the same without those after them.
slice_take : (len k n : ℕ) (rest : List ℕ) → k ≤ n → n ≤ len → slice_range (take len rest) k n ≡ slice_range rest k n
slice_take len k n rest from to =
    let whole : len ≡ k + (len - k) = omega (arith, from, to) in
    ap (λ (c : ℕ). take (n - k) (drop k (take c rest))) whole ∙ ap (λ (o : List ℕ). take (n - k) o) (drop-take k (len - k) rest) ∙ take-take (n - k) (len - k) (drop k rest) (omega (arith, from, to))

rest_take : (len k : ℕ) (rest : List ℕ) → k ≤ len → drop k (take len rest) ≡ slice_range rest k len
rest_take len k rest from =
    let whole : len ≡ k + (len - k) = omega (arith, from) in
    ap (λ (c : ℕ). drop k (take c rest)) whole ∙ drop-take k (len - k) rest

-- The fault of a value.
abbrev pub in_batch : Result Message ℕ → Result Message PbFault
in_batch (Ok m) = Ok m
in_batch (Err place) = Err (fault INVALID_PARAMETER place)

-- A message of that many octets, which begin what is left from the place on.
module _ (at len : ℕ) (rest : List ℕ) (there : len ≤ length rest) where
  message : List ℕ
  message = take len rest

  all : length (take len rest) ≡ len
  all = length-take-le len rest there

  number_there : (k size : ℕ) → k + size ≤ len → number_of (slice_range (take len rest) k (k + size)) ≡ number rest k size
  number_there k size fits = ap (λ (o : List ℕ). number_of o) (slice_take len k (k + size) rest (omega arith) fits)

  octet_there : (k : ℕ) → k + 1 ≤ len → number_of (slice_range (take len rest) k (k + 1)) ≡ get_or rest k 0
  octet_there k fits = number_there k 1 fits ∙ one_octet rest k (omega (arith, fits, there))

  -- A PB-PA message, by whether its vendor and its type stand for none.
  pa_read : (no_vendor no_type : Bool) → eqb (number rest 13 3) NO_VENDOR ≡ no_vendor → eqb (number rest 16 4) NO_TYPE ≡ no_type → 24 ≤ len
      → in_batch (value_alone (read_pa (rest_from at (take len rest) 12)))
      ≡ unless (cond no_vendor (Some (fault 1 (at + 13))) (cond no_type (Some (fault 1 (at + 16))) None))
      (Pa (is_set (get_or rest 12 0) FLAG) (number rest 13 3) (number rest 16 4) (number rest 20 2) (number rest 22 2) (slice_range rest 24 len))
  unfolding read_pa
  pa_read true no_type v k few =
      ap (λ (r : Result (Message × Rest) ℕ). in_batch (value_alone r))
      (then_value 1 12 at (take len rest) _ (get_or rest 12 0) (omega (arith, all, few)) (octet_there 12 (omega (arith, few)))
      ∙ then_meaning (unless_so is_no_vendor) 3 13 at (take len rest) _ (number rest 13 3) (omega (arith, all, few)) (number_there 13 3 (omega (arith, few))))
      ∙ rw v refl
  pa_read false true v k few =
      ap (λ (r : Result (Message × Rest) ℕ). in_batch (value_alone r))
      (then_value 1 12 at (take len rest) _ (get_or rest 12 0) (omega (arith, all, few)) (octet_there 12 (omega (arith, few)))
      ∙ then_meaning (unless_so is_no_vendor) 3 13 at (take len rest) _ (number rest 13 3) (omega (arith, all, few)) (number_there 13 3 (omega (arith, few))))
      ∙ rw v
      (ap (λ (r : Result (Message × Rest) ℕ). in_batch (value_alone r)) (then_meaning (unless_so is_no_type) 4 16 at (take len rest) _ (number rest 16 4) (omega (arith, all, few)) (number_there 16 4 (omega (arith, few))))
      ∙ rw k refl)
  pa_read false false v k few =
      ap (λ (r : Result (Message × Rest) ℕ). in_batch (value_alone r))
      (then_value 1 12 at (take len rest) _ (get_or rest 12 0) (omega (arith, all, few)) (octet_there 12 (omega (arith, few)))
      ∙ then_meaning (unless_so is_no_vendor) 3 13 at (take len rest) _ (number rest 13 3) (omega (arith, all, few)) (number_there 13 3 (omega (arith, few))))
      ∙ rw v
      (ap (λ (r : Result (Message × Rest) ℕ). in_batch (value_alone r)) (then_meaning (unless_so is_no_type) 4 16 at (take len rest) _ (number rest 16 4) (omega (arith, all, few)) (number_there 16 4 (omega (arith, few))))
      ∙ rw k
      (ap (λ (r : Result (Message × Rest) ℕ). in_batch (value_alone r))
      (then_value 2 20 at (take len rest) _ (number rest 20 2) (omega (arith, all, few)) (number_there 20 2 (omega (arith, few)))
      ∙ then_value 2 22 at (take len rest) _ (number rest 22 2) (omega (arith, all, few)) (number_there 22 2 (omega (arith, few))))
      ∙ ap in_batch (last_remaining 24 at (take len rest) (Pa (is_set (get_or rest 12 0) FLAG) (number rest 13 3) (number rest 16 4) (number rest 20 2) (number rest 22 2)) (slice_range rest 24 len) (rest_take len 24 rest few))))

  -- A PB-Assessment-Result, by whether it is beyond the last.
  assessment_read : (bad : Bool) → ltb 4 (number rest 12 4) ≡ bad → 16 ≤ len
      → in_batch (value_alone (read_assessment (rest_from at (take len rest) 12))) ≡ unless (cond bad (Some (fault 1 (at + 12))) None) (Assessment (number rest 12 4))
  unfolding read_assessment
  assessment_read true b few =
      ap (λ (r : Result (Message × Rest) ℕ). in_batch (value_alone r)) (then_meaning (unless_so (λ n. ltb 4 n)) 4 12 at (take len rest) _ (number rest 12 4) (omega (arith, all, few)) (number_there 12 4 (omega (arith, few)))) ∙ rw b refl
  assessment_read false b few =
      ap (λ (r : Result (Message × Rest) ℕ). in_batch (value_alone r)) (then_meaning (unless_so (λ n. ltb 4 n)) 4 12 at (take len rest) _ (number rest 12 4) (omega (arith, all, few)) (number_there 12 4 (omega (arith, few)))) ∙ rw b refl

  -- A PB-Access-Recommendation, by whether there is none of the code.
  recommendation_read : (bad : Bool) → (ltb (number rest 14 2) 1 || ltb 3 (number rest 14 2)) ≡ bad → 16 ≤ len
      → in_batch (value_alone (read_recommendation (rest_from at (take len rest) 12))) ≡ unless (cond bad (Some (fault 1 (at + 14))) None) (Recommendation (number rest 14 2))
  unfolding read_recommendation
  recommendation_read true b few =
      ap (λ (r : Result (Message × Rest) ℕ). in_batch (value_alone r))
      (then_octets 2 12 at (take len rest) _ (omega (arith, all, few))
      ∙ then_meaning (unless_so (λ n. ltb n 1 || ltb 3 n)) 2 14 at (take len rest) _ (number rest 14 2) (omega (arith, all, few)) (number_there 14 2 (omega (arith, few)))) ∙ rw b refl
  recommendation_read false b few =
      ap (λ (r : Result (Message × Rest) ℕ). in_batch (value_alone r))
      (then_octets 2 12 at (take len rest) _ (omega (arith, all, few))
      ∙ then_meaning (unless_so (λ n. ltb n 1 || ltb 3 n)) 2 14 at (take len rest) _ (number rest 14 2) (omega (arith, all, few)) (number_there 14 2 (omega (arith, few)))) ∙ rw b refl

  -- A PB-Error.
  error_read : 20 ≤ len → in_batch (value_alone (read_error (rest_from at (take len rest) 12))) ≡ Ok (Error (is_set (get_or rest 12 0) FLAG) (number rest 13 3) (number rest 16 2) (slice_range rest 20 len))
  unfolding read_error
  error_read few =
      ap (λ (r : Result (Message × Rest) ℕ). in_batch (value_alone r))
      (then_value 1 12 at (take len rest) _ (get_or rest 12 0) (omega (arith, all, few)) (octet_there 12 (omega (arith, few)))
      ∙ then_value 3 13 at (take len rest) _ (number rest 13 3) (omega (arith, all, few)) (number_there 13 3 (omega (arith, few)))
      ∙ then_value 2 16 at (take len rest) _ (number rest 16 2) (omega (arith, all, few)) (number_there 16 2 (omega (arith, few)))
      ∙ then_octets 2 18 at (take len rest) _ (omega (arith, all, few)))
      ∙ ap in_batch (last_remaining 20 at (take len rest) (Error (is_set (get_or rest 12 0) FLAG) (number rest 13 3) (number rest 16 2)) (slice_range rest 20 len) (rest_take len 20 rest few))

  -- Any other message.
  frame_read : (head : MessageHead) → 12 ≤ len → in_batch (value_alone (read_frame head (rest_from at (take len rest) 12))) ≡ Ok (Frame head.noskip head.vendor head.kind (slice_range rest 12 len))
  unfolding read_frame
  frame_read head few =
      ap in_batch (last_remaining 12 at (take len rest) (Frame head.noskip head.vendor head.kind) (slice_range rest 12 len) (rest_take len 12 rest few))

is_true : (b : Bool) → IsTrue b → b ≡ true
is_true true so = refl
is_true false so = absurd cc

-- A value, by the type of its message.
typed_read : (t : MessageType) (at : ℕ) (rest : List ℕ) → length_in rest ≤ length rest → may_have t (length_in rest) ≡ true
    → in_batch (value_alone (read_typed (head_in rest) t (rest_from at (take (length_in rest) rest) 12))) ≡ value_of at rest t
typed_read type.Pa at rest there may = pa_read at (length_in rest) rest there (eqb (number rest 13 3) NO_VENDOR) (eqb (number rest 16 4) NO_TYPE) refl refl (leb-true 24 (length_in rest) may)
typed_read type.Assessment at rest there may = assessment_read at (length_in rest) rest there (ltb 4 (number rest 12 4)) refl (omega (arith, eqb-true (length_in rest) 16 may))
typed_read type.Recommendation at rest there may = recommendation_read at (length_in rest) rest there (ltb (number rest 14 2) 1 || ltb 3 (number rest 14 2)) refl (omega (arith, eqb-true (length_in rest) 16 may))
typed_read type.Error at rest there may = error_read at (length_in rest) rest there (leb-true 20 (length_in rest) may)
typed_read type.Other at rest there may = frame_read at (length_in rest) rest there (head_in rest) (leb-true 12 (length_in rest) may)

-- A message of a type has at least the octets of a head.
fewest : (t : MessageType) (n : ℕ) → may_have t n ≡ true → 12 ≤ n
fewest type.Pa n may = omega (arith, leb-true 24 n may)
fewest type.Assessment n may = omega (arith, eqb-true n 16 may)
fewest type.Recommendation n may = omega (arith, eqb-true n 16 may)
fewest type.Error n may = omega (arith, leb-true 20 n may)
fewest type.Other n may = leb-true 12 n may

known_from : (at : ℕ) (rest : List ℕ) → length_in rest ≤ length rest → may_have (type_of (vendor_in rest) (kind_in rest)) (length_in rest) ≡ true
    → in_batch (value_alone (read_message (head_in rest) (rest_from at (take (length_in rest) rest) 0))) ≡ value_of at rest (type_of (vendor_in rest) (kind_in rest))
unfolding read_message
known_from at rest there so =
    let t : MessageType = type_of (vendor_in rest) (kind_in rest) in
    let few : 12 ≤ length_in rest = fewest t (length_in rest) so in
    ap (λ (r : Result (Message × Rest) ℕ). in_batch (value_alone r)) (then_octets 12 0 at (take (length_in rest) rest) _ (omega (arith, few, length-take-le (length_in rest) rest there)))
    ∙ typed_read t at rest there so

known_read : (at : ℕ) (rest : List ℕ) → length_in rest ≤ length rest → IsTrue (may_have (type_of (vendor_in rest) (kind_in rest)) (length_in rest))
    → in_batch (value_alone (read_message (head_in rest) (record { at = at; octets = take (length_in rest) rest }))) ≡ value_of at rest (type_of (vendor_in rest) (kind_in rest))
known_read at rest there may =
    let so = is_true (may_have (type_of (vendor_in rest) (kind_in rest)) (length_in rest)) may in
    ap (λ (r : Rest). in_batch (value_alone (read_message (head_in rest) r))) (all_from at (take (length_in rest) rest)) ∙ known_from at rest there so

-- A message whose head is known is read as the table of its value's faults says.
abbrev IsKnownRead : ℕ → List ℕ → MessageHead → Type 0
IsKnownRead at rest head = head.length ≤ length rest → IsTrue (may_have (type_of head.vendor head.kind) head.length)
    → in_batch (value_alone (read_message head (record { at = at; octets = take head.length rest }))) ≡ value_of at rest (type_of head.vendor head.kind)

pub value_read : (at : ℕ) (rest : List ℕ) (head : MessageHead) → head ≡ head_in rest → head.length ≤ length rest → IsTrue (may_have (type_of head.vendor head.kind) head.length)
    → in_batch (value_alone (read_message head (record { at = at; octets = take head.length rest }))) ≡ value_of at rest (type_of head.vendor head.kind)
value_read at rest head is there may = subst (λ (h : MessageHead). IsKnownRead at rest h) (sym is) (known_read at rest) there may

-- What a call gave that is what the fields say is what the table says.
pub gives_ok : (m : Message) (said : Result Message ℕ) (value : Result Message PbFault) → said ≡ Ok m → in_batch said ≡ value → value ≡ Ok m
gives_ok m said value gives is = sym is ∙ ap in_batch gives

pub gives_err : (e : FieldRefused) (said : Result Message ℕ) (value : Result Message PbFault) → GivesRead {X = Message} {Y = Message} (λ m. m) (Err e) said → in_batch said ≡ value
    → Gives {X = Message} {Y = Message} (λ m. m) (Err (refused_of e)) value
gives_err (field.Fault place) said value gives is = sym is ∙ ap in_batch gives
gives_err field.Memory said value gives is = tt
