-- The head of a message, and its place in the octets.
use Rattle.std.proofs.Common.{◌≡◌, ℕ, suc, ◌-◌, ◌+◌, ◌^◌, ◌≤◌, ◌<◌, Bool, true, false, ◌&&◌, not, cond, eqb, ltb, List, ◌++◌, length, slice_range, Ok, Option, refl, ap, subst, ◌∙◌, arith, length-append, zero-add}
use Rattle.std.proofs.lemmas.Bool.{ltb-false, le-ltb, or_parts, not-false, eqb-true, eqb-false, ne_eqb, or_from, not_from_true}
use Rattle.std.proofs.lemmas.List.{take_at}
use Rattle.wire_base.specs.Layout.{AreOctets}
use Rattle.wire_base.proofs.Spelled.{number_of-below}
use Rattle.wire_base.specs.FaultTable.{first_shown, unless}
use Rattle.pb_batch.specs.declared.kind.MessageType.{MessageType}
use Rattle.pb_batch.specs.declared.kind.MessageType.TheVariants as type
use Rattle.pb_batch.specs.declared.message_head.MessageHead.{MessageHead}
use Rattle.pb_batch.specs.declared.fault.PbFault.{PbFault}
use Rattle.pb_batch.specs.Types.{type_of, is_known}
use Rattle.pb_batch.specs.Form.{NO_VENDOR, NO_TYPE}
use Rattle.pb_batch.specs.Faults.{number, head_rows, noskip_in, vendor_in, kind_in, length_in, type_in, may_have}
use Rattle.pb_batch.specs.Front.{head_in, head_of}
use Rattle.wire_base.proofs.FaultTables.{unless_ok, none_show, show_none}
use Rattle.pb_batch.proofs.Fields.{length-between, AreOctets-between, parts_of}

-- What holds of the head of a message in which no fault shows.
pub record HeadIs (rest : List ℕ) : Type 0 where
  pub long : 12 ≤ length rest
  pub known : (noskip_in rest && not (is_known (vendor_in rest) (kind_in rest))) ≡ false
  pub vendor : eqb (vendor_in rest) NO_VENDOR ≡ false
  pub kind : eqb (kind_in rest) NO_TYPE ≡ false
  pub within : length_in rest ≤ length rest
  pub may : may_have (type_in rest) (length_in rest) ≡ true

pub head_is : (left place : ℕ) (rest : List ℕ) (h : MessageHead) → head_of left place rest ≡ Ok h → HeadIs rest
head_is left place rest h ok =
    let o = unless_ok (first_shown (head_rows left place rest)) (head_in rest) h ok in
    let n = none_show (head_rows left place rest) o.0 in
    let last = or_parts (ltb (length rest) (length_in rest)) (not (may_have (type_in rest) (length_in rest))) n.1.1.1.1.1.0 in
    record {
      long = ltb-false (length rest) 12 n.1.0;
      known = n.1.1.0;
      vendor = n.1.1.1.0;
      kind = n.1.1.1.1.0;
      within = ltb-false (length rest) (length_in rest) last.0;
      may = not-false (may_have (type_in rest) (length_in rest)) last.1;
    }

pub is_head : (left place : ℕ) (rest : List ℕ) → HeadIs rest → head_of (suc left) place rest ≡ Ok (head_in rest)
is_head left place rest is =
    let last = or_from (ltb (length rest) (length_in rest)) (not (may_have (type_in rest) (length_in rest))) (le-ltb (length rest) (length_in rest) is.within) (not_from_true (may_have (type_in rest) (length_in rest)) is.may) in
    let none = show_none (head_rows (suc left) place rest) (ne_eqb (suc left) 0 (λ e. omega (arith, e)), (le-ltb (length rest) 12 is.long, (is.known, (is.vendor, (is.kind, (last, tt)))))) in
    ap (λ (o : Option PbFault). unless o (head_in rest)) none

-- ---- the vendor and number of a type

-- What the tests gave that chose a type.
abbrev chosen : Bool → Bool → Bool → Bool → Bool → MessageType
chosen ietf pa assessment recommendation error =
    cond ietf (cond pa type.Pa (cond assessment type.Assessment (cond recommendation type.Recommendation (cond error type.Error type.Other)))) type.Other

chose_pa : (ietf pa assessment recommendation error : Bool) → chosen ietf pa assessment recommendation error ≡ type.Pa → (ietf ≡ true) × (pa ≡ true)
chose_pa false pa assessment recommendation error e = absurd cc
chose_pa true true assessment recommendation error e = (refl, refl)
chose_pa true false true recommendation error e = absurd cc
chose_pa true false false true error e = absurd cc
chose_pa true false false false true e = absurd cc
chose_pa true false false false false e = absurd cc

pub type_pa : (v k : ℕ) → type_of v k ≡ type.Pa → (v ≡ 0) × (k ≡ 1)
type_pa v k e = let c = chose_pa (eqb v 0) (eqb k 1) (eqb k 2) (eqb k 3) (eqb k 5) e in (eqb-true v 0 c.0, eqb-true k 1 c.1)

chose_assessment : (ietf pa assessment recommendation error : Bool) → chosen ietf pa assessment recommendation error ≡ type.Assessment → (ietf ≡ true) × (assessment ≡ true)
chose_assessment false pa assessment recommendation error e = absurd cc
chose_assessment true true assessment recommendation error e = absurd cc
chose_assessment true false true recommendation error e = (refl, refl)
chose_assessment true false false true error e = absurd cc
chose_assessment true false false false true e = absurd cc
chose_assessment true false false false false e = absurd cc

pub type_assessment : (v k : ℕ) → type_of v k ≡ type.Assessment → (v ≡ 0) × (k ≡ 2)
type_assessment v k e = let c = chose_assessment (eqb v 0) (eqb k 1) (eqb k 2) (eqb k 3) (eqb k 5) e in (eqb-true v 0 c.0, eqb-true k 2 c.1)

chose_recommendation : (ietf pa assessment recommendation error : Bool) → chosen ietf pa assessment recommendation error ≡ type.Recommendation → (ietf ≡ true) × (recommendation ≡ true)
chose_recommendation false pa assessment recommendation error e = absurd cc
chose_recommendation true true assessment recommendation error e = absurd cc
chose_recommendation true false true recommendation error e = absurd cc
chose_recommendation true false false true error e = (refl, refl)
chose_recommendation true false false false true e = absurd cc
chose_recommendation true false false false false e = absurd cc

pub type_recommendation : (v k : ℕ) → type_of v k ≡ type.Recommendation → (v ≡ 0) × (k ≡ 3)
type_recommendation v k e = let c = chose_recommendation (eqb v 0) (eqb k 1) (eqb k 2) (eqb k 3) (eqb k 5) e in (eqb-true v 0 c.0, eqb-true k 3 c.1)

chose_error : (ietf pa assessment recommendation error : Bool) → chosen ietf pa assessment recommendation error ≡ type.Error → (ietf ≡ true) × (error ≡ true)
chose_error false pa assessment recommendation error e = absurd cc
chose_error true true assessment recommendation error e = absurd cc
chose_error true false true recommendation error e = absurd cc
chose_error true false false true error e = absurd cc
chose_error true false false false true e = (refl, refl)
chose_error true false false false false e = absurd cc

pub type_error : (v k : ℕ) → type_of v k ≡ type.Error → (v ≡ 0) × (k ≡ 5)
type_error v k e = let c = chose_error (eqb v 0) (eqb k 1) (eqb k 2) (eqb k 3) (eqb k 5) e in (eqb-true v 0 c.0, eqb-true k 5 c.1)

-- ---- numbers

-- A number of that many octets is below its limit.
pub number_below : (size k : ℕ) (octets : List ℕ) → AreOctets octets → k + size ≤ length octets → number octets k size < 256 ^ size
number_below size k octets are there = number_of-below size (slice_range octets k (k + size)) (length-between octets k (k + size) there ∙ omega arith) (AreOctets-between octets k (k + size) are)

-- A number that is not the last is below it.
pub below_last : (v last : ℕ) → v < suc last → eqb v last ≡ false → v < last
below_last v last below other = let ne : v ≡ last → ⊥ = eqb-false v last other in omega (arith, below, ne)

-- ---- a message in its place

-- What stands before other octets.
pub front_between : (front more : List ℕ) → slice_range (front ++ more) 0 (length front) ≡ front
front_between front more = take_at front more (length front - 0) (omega arith)

-- The fields and the body of a message that stands first.
pub record Placed (rest head body : List ℕ) (count : ℕ) : Type 0 where
  pub within : length head ≤ count
  pub there : count ≤ length rest
  pub head_there : slice_range rest 0 (length head) ≡ head
  pub body_there : slice_range rest (length head) count ≡ body

pub placed : (front more head body : List ℕ) → front ≡ head ++ body → Placed (front ++ more) head body (length front)
placed front more head body joined =
    let rest : List ℕ = front ++ more in
    let there : length front ≤ length rest = omega (arith, length-append front more) in
    let p = parts_of rest head body 0 (length head) (length front) there (omega arith) refl (front_between front more ∙ joined) in
    let none : 0 + length head ≡ length head = zero-add (length head) in
    record {
      within = omega (arith, p.0);
      there = there;
      head_there = subst (λ (n : ℕ). slice_range rest 0 n ≡ head) none p.1;
      body_there = subst (λ (n : ℕ). slice_range rest n (length front) ≡ body) none p.2;
    }
