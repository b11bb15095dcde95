-- What is written of a layout has its form.
use Rattle.std.proofs.Common.{◌≡◌, ℕ, ◌+◌, List, [], ◌∷◌, ◌++◌, length, refl, sym, ap, ◌∙◌, append_assoc, arith, length-append}
use Rattle.std.specs.List.{flat_map}
use Rattle.std.proofs.lemmas.List.{length-replicate}
use Rattle.wire_base.specs.Layout.{Field, Number, Reserved, Flags, Fixed, Counted, FieldForm, Form}
use Rattle.wire_base.specs.Written.{written_field, written, FieldFits, Fit}

-- What is written of a field is the field.
pub written_field_form : (field : Field) → FieldFits field → FieldForm field (written_field field)
written_field_form (Number size value) fits = (fits, refl)
written_field_form (Reserved size) fits = length-replicate size 0
written_field_form (Flags flags) fits = (_, refl, fits)
written_field_form (Fixed size fixed) fits = (fits, refl)
written_field_form (Counted size counted) fits = (fits, refl)

-- What is written of fields has their form.
pub written_form : (fields : List Field) → Fit fields → Form fields (written fields)
unfolding written
written_form [] fit = refl
written_form (field ∷ fields) fit = (written_field field, written fields, refl, written_field_form field fit.0, written_form fields fit.1)

-- What is written of two lists of fields stands one after the other.
pub written-append : (fields more : List Field) → written (fields ++ more) ≡ written fields ++ written more
unfolding written
written-append [] more = refl
written-append (field ∷ fields) more =
    ap (λ (o : List ℕ). written_field field ++ o) (written-append fields more) ∙ sym (append_assoc (written_field field) (written fields) (written more))

-- What is written of values one after another is what is written of each.
pub written-flat_map : {A : Type 0} (fields : A → List Field) (values : List A) → written (flat_map fields values) ≡ flat_map (λ value. written (fields value)) values
unfolding written
written-flat_map fields [] = refl
written-flat_map fields (value ∷ values) =
    written-append (fields value) (flat_map fields values) ∙ ap (λ (o : List ℕ). written (fields value) ++ o) (written-flat_map fields values)

-- Where the fields of each of two lists have room, those of both do.
pub Fit-append : (fields more : List Field) → Fit fields → Fit more → Fit (fields ++ more)
Fit-append [] more a b = b
Fit-append (field ∷ fields) more a b = (a.0, Fit-append fields more a.1 b)

-- Any octets that are a field are as many as are written of it.
length-field : (field : Field) (octets : List ℕ) → FieldForm field octets → length octets ≡ length (written_field field)
length-field (Number size value) octets form = ap (λ (o : List ℕ). length o) form.1
length-field (Reserved size) octets form = form ∙ sym (length-replicate size 0)
length-field (Flags flags) octets form = ap (λ (o : List ℕ). length o) form.1
length-field (Fixed size fixed) octets form = ap (λ (o : List ℕ). length o) form.1
length-field (Counted size counted) octets form = ap (λ (o : List ℕ). length o) form.1

-- So are any octets that are fields one after another.
pub length-form : (fields : List Field) (octets : List ℕ) → Form fields octets → length octets ≡ length (written fields)
unfolding written
length-form [] octets form = ap (λ (o : List ℕ). length o) form
length-form (field ∷ fields) octets (front, rest, is, form, forms) =
    let all : length octets ≡ length front + length rest = ap (λ (o : List ℕ). length o) is ∙ length-append front rest in
    omega (arith, all, length-field field front form, length-form fields rest forms, length-append (written_field field) (written fields))
