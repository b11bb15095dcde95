-- An Error's layout, and the reader of it, say the same.
use Rattle.std.proofs.Common.{◌≡◌, ◌<◌, ◌≤◌, ◌+◌, inl, inr, true, cond, Bool, List, ℕ, Result, Ok, Err, eqb, length, take, drop, refl, sym, ap, subst, ◌∙◌, arith, length-drop}
use Rattle.std.proofs.lemmas.Bool.{cases_lt, lt-ltb}
use Rattle.wire_base.specs.Numbers.{number_of}
use Rattle.wire_base.specs.Reading.{Reader, Rest, ◌>>=◌, and_then, at_end, done, number, octets, remaining, value_alone, whole}
use Rattle.wire_base.specs.Layout.{Form}
use Rattle.wire_base.proofs.Exact.{Exact, Nothing}
use Rattle.wire_base.proofs.Blocks.{then_number, then_reserved, ends, whole_forth, whole_back}
use Rattle.wire_base.proofs.Remaining.{last_remaining}
use Rattle.wire_base.proofs.WrittenLaws.{written_form}
use Rattle.pa_attrs.specs.declared.error.PaError.{PaError}
use Rattle.pa_attrs.specs.ErrorForm.{error_fields, read_error, written_error}
use Rattle.pa_attrs.specs.Laws.{ErrorIsForm, ErrorIsTorn, IsTorn, WrittenErrorIsRead}
use Rattle.pa_attrs.proofs.HeaderForm.{next_there, octets_there}

-- An Error is made of its parts.
error_is : (e : PaError) → e ≡ record { vendor = e.vendor; code = e.code; info = e.info }
error_is e = refl

error_exact : Exact read_error (λ e. e) error_fields (λ e. Unit {0}) Nothing
unfolding read_error
error_exact = then_reserved λ reserved. then_number λ vendor. then_number λ code. last_remaining λ info.
    ends (record { vendor = vendor; code = code; info = info }) refl (assumption refl) (λ e h. cc (error_is e))

pub error_is_form : ErrorIsForm
error_is_form base octets error are = (
  λ read. let f = whole_forth error_exact base octets error are read in subst (λ (e : PaError). Form (error_fields e) octets) f.1 f.2,
  λ form. whole_back error_exact base octets error form tt,
)

pub written_error_is_read : WrittenErrorIsRead
written_error_is_read base error vendor code = whole_back error_exact base (written_error error) error (written_form (error_fields error) (tt, (vendor, (code, (refl, tt))))) tt

-- ---- a value that is no Error

-- What comes after the vendor and the code, after the vendor, and after the reserved octet.
abbrev behind_code : ℕ → ℕ → Reader PaError
behind_code vendor code = remaining >>= λ info. at_end (record { vendor = vendor; code = code; info = info })

abbrev behind_vendor : ℕ → Reader PaError
behind_vendor vendor = number 4 >>= λ code. behind_code vendor code

abbrev behind_reserved : List ℕ → Reader PaError
behind_reserved reserved = number 3 >>= λ vendor. behind_vendor vendor

-- What is left.
abbrev left : ℕ → List ℕ → Rest
left at all = record { at = at; octets = all }

-- A field that does not fit.
octets_short : (size at : ℕ) (all : List ℕ) → length all < size → octets size (left at all) ≡ Err at
octets_short size at all short = ap (λ (b : Bool). cond b (Err at) (Ok (take size all, left (at + size) (drop size all)))) (lt-ltb (length all) size short)

next_short : {B : Type 0} (next : ℕ → Reader B) (size from at : ℕ) (all : List ℕ) → length all < from + size → from ≤ length all → (number size >>= next) (left at (drop from all)) ≡ Err at
next_short next size from at all short long =
    ap (λ (r : Result (List ℕ × Rest) ℕ). and_then (and_then r (λ spelled. done (number_of spelled))) next) (octets_short size at (drop from all) (omega (arith, length-drop from all)))

-- Fields that fit.
reads_reserved : (base : ℕ) (all : List ℕ) → 1 ≤ length all → read_error (left base all) ≡ behind_reserved (take 1 all) (left (base + 1) (drop 1 all))
unfolding read_error
reads_reserved base all long = ap (λ (r : Result (List ℕ × Rest) ℕ). and_then r behind_reserved) (octets_there 1 base all long)

reads_vendor : (base : ℕ) (all : List ℕ) → 4 ≤ length all → read_error (left base all) ≡ behind_vendor (number_of (take 3 (drop 1 all))) (left (base + 1 + 3) (drop 4 all))
reads_vendor base all long = reads_reserved base all (omega (arith, long)) ∙ next_there behind_vendor 3 1 (base + 1) all long

reads_code : (base : ℕ) (all : List ℕ) → 8 ≤ length all
    → read_error (left base all) ≡ behind_code (number_of (take 3 (drop 1 all))) (number_of (take 4 (drop 4 all))) (left (base + 1 + 3 + 4) (drop 8 all))
reads_code base all long = reads_vendor base all (omega (arith, long)) ∙ next_there (behind_code (number_of (take 3 (drop 1 all)))) 4 4 (base + 1 + 3) all long

-- All that is left after the code is information.
reads_info : (vendor code at : ℕ) (all : List ℕ) (place : ℕ) → value_alone (behind_code vendor code (left at all)) ≡ Err place → ⊥
reads_info vendor code at all place e =
    let ended : List ℕ → Reader PaError = λ info. at_end (record { vendor = vendor; code = code; info = info }) in
    let zero : length (drop (length all) all) ≡ 0 = omega (arith, length-drop (length all) all) in
    let none : eqb (length (drop (length all) all)) 0 ≡ true = ap (λ (n : ℕ). eqb n 0) zero in
    let read = ap (λ (r : Result (List ℕ × Rest) ℕ). value_alone (and_then r ended)) (octets_there (length all) at all (omega arith)) in
    let made : PaError = record { vendor = vendor; code = code; info = take (length all) all } in
    let end = ap (λ (b : Bool). value_alone (cond b (Ok (made, left (at + length all) (drop (length all) all))) (Err (at + length all)))) none in
    never made (sym (read ∙ end) ∙ e)
  where
    never : (made : PaError) → Ok made ≡ Err place → ⊥
    never made e = cc

-- The fault, by how many octets there are.
torn_reserved : (base : ℕ) (all : List ℕ) → length all < 1 → whole read_error base all ≡ Err base
unfolding read_error
torn_reserved base all short = ap (λ (r : Result (List ℕ × Rest) ℕ). value_alone (and_then r behind_reserved)) (octets_short 1 base all short)

torn_vendor : (base : ℕ) (all : List ℕ) → 1 ≤ length all → length all < 4 → whole read_error base all ≡ Err (base + 1)
torn_vendor base all long short = ap value_alone (reads_reserved base all long ∙ next_short behind_vendor 3 1 (base + 1) all short long)

torn_code : (base : ℕ) (all : List ℕ) → 4 ≤ length all → length all < 8 → whole read_error base all ≡ Err (base + 4)
torn_code base all long short =
    let place : base + 1 + 3 ≡ base + 4 = omega arith in
    ap value_alone (reads_vendor base all long ∙ next_short (behind_code (number_of (take 3 (drop 1 all)))) 4 4 (base + 1 + 3) all short long) ∙ ap (λ (n : ℕ). Err n) place

-- A reader reports one place.
abbrev place_in : ℕ → Result PaError ℕ → ℕ
place_in other (Ok error) = other
place_in other (Err place) = place

same_place : (a b : ℕ) (read : Result PaError ℕ) → read ≡ Err a → read ≡ Err b → b ≡ a
same_place a b read one two = ap (λ (r : Result PaError ℕ). place_in a r) (sym two ∙ one)

torn_forth : (base : ℕ) (all : List ℕ) (place : ℕ) → whole read_error base all ≡ Err place → IsTorn base (length all) place
torn_forth base all place e = elim (cases_lt (length all) 1) [
  | inl none ↦ inl (none, same_place base place (whole read_error base all) (torn_reserved base all none) e)
  | inr some ↦ elim (cases_lt (length all) 4) [
    | inl few ↦ inr (inl (some, few, same_place (base + 1) place (whole read_error base all) (torn_vendor base all some few) e))
    | inr more ↦ elim (cases_lt (length all) 8) [
      | inl short ↦ inr (inr (more, short, same_place (base + 4) place (whole read_error base all) (torn_code base all more short) e))
      | inr long ↦ absurd (reads_info (number_of (take 3 (drop 1 all))) (number_of (take 4 (drop 4 all))) (base + 1 + 3 + 4) (drop 8 all) place (ap value_alone (sym (reads_code base all long)) ∙ e))
    ]
  ]
]

torn_back : (base : ℕ) (all : List ℕ) (place : ℕ) → IsTorn base (length all) place → whole read_error base all ≡ Err place
torn_back base all place (inl none) = torn_reserved base all none.0 ∙ ap (λ (n : ℕ). Err n) (sym none.1)
torn_back base all place (inr (inl few)) = torn_vendor base all few.0 few.1 ∙ ap (λ (n : ℕ). Err n) (sym few.2)
torn_back base all place (inr (inr short)) = torn_code base all short.0 short.1 ∙ ap (λ (n : ℕ). Err n) (sym short.2)

pub error_is_torn : ErrorIsTorn
error_is_torn base octets place = (torn_forth base octets place, torn_back base octets place)
