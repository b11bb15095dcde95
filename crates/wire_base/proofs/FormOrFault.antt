-- Octets are a form of a value or have a first fault, whatever the layout: what follows where a
-- reader reports both.
use Rattle.std.proofs.Common.{◌≡◌, ℕ, ◌⊎◌, inl, inr, List, [], ◌∷◌, ◌++◌, length, Result, Ok, Err, refl, sym, ap, subst, ◌∙◌, arith}
use Rattle.std.specs.Prelude.{IfOk}
use Rattle.std.proofs.lemmas.List.{append-nil}
use Rattle.wire_base.specs.declared.layout.field_refused.FieldRefused.{FieldRefused}
use Rattle.wire_base.specs.declared.layout.field_refused.FieldRefused.TheVariants as refused
use Rattle.wire_base.specs.FirstFault.{HasFields, GoesOn, FirstFault, OnFault, ReadsForm, ReadsFault, FormOrFault, NoneIsAFront}
use Rattle.wire_base.specs.Layout.{AreOctets, Field, Form}
use Rattle.wire_base.specs.Reading.{Gives, Reader, Rest, value_alone, whole}
use Rattle.wire_base.proofs.Exact.{Nothing}
use Rattle.wire_base.proofs.Faults.{ExactFaults, Alike, none_behind}

-- ---- the first fault

alone_err : {V : Type 0} (read : Result (V × Rest) ℕ) (place : ℕ) → value_alone read ≡ Err place → read ≡ Err place
alone_err (Ok x) place e = absurd cc
alone_err (Err fault) place e = cc

-- A reader of all of some octets that says a fault exactly where they stop says the first one.
pub reads_first_fault : {V : Type 0} {reader : Reader V} {fields : V → List Field} {holds : V → Type 0} → ExactFaults reader fields holds Nothing → ReadsFault reader (FirstFault fields holds)
reads_first_fault {V = V} {reader = reader} faults base octets place are = (
  λ e. faults.forth (record { at = base; octets = octets }) place are (alone_err (reader (record { at = base; octets = octets })) place e),
  λ f. ap (λ (r : Result (V × Rest) ℕ). value_alone r) (faults.back (record { at = base; octets = octets }) place are f),
)

-- ---- what a call gave

-- A call that answers as octets are read answers a value where they have its form.
pub form_of_call : {V : Type 0} (reader : Reader V) {form : V → List ℕ → Type 0} (base : ℕ) (octets : List ℕ) → ReadsForm reader form → AreOctets octets → (result : Result V FieldRefused)
    → Gives (λ read. read) result (whole reader base octets) → IfOk result (λ value. form value octets)
form_of_call reader base octets reads are (Ok value) given = (reads base octets value are).0 given
form_of_call reader base octets reads are (Err refused) given = tt

-- Where octets have the form of a value, it answers that value.
pub only_of_call : {V : Type 0} (reader : Reader V) {form : V → List ℕ → Type 0} (base : ℕ) (octets : List ℕ) → ReadsForm reader form → AreOctets octets → (result : Result V FieldRefused)
    → Gives (λ read. read) result (whole reader base octets) → (value : V) → form value octets → Gives (λ read. read) result (Ok value)
only_of_call {V = V} reader base octets reads are result given value has = subst (λ (read : Result V ℕ). Gives (λ x. x) result read) ((reads base octets value are).1 has) given

-- A call that answers as octets are read answers a fault where it is theirs.
pub fault_of_call : {V : Type 0} (reader : Reader V) {fault : ℕ → List ℕ → ℕ → Type 0} (base : ℕ) (octets : List ℕ) → ReadsFault reader fault → AreOctets octets → (result : Result V FieldRefused)
    → Gives (λ read. read) result (whole reader base octets) → OnFault result (λ place. fault base octets place)
fault_of_call reader base octets stops are (Ok value) given = tt
fault_of_call reader base octets stops are (Err refused.Memory) given = tt
fault_of_call reader base octets stops are (Err (refused.Fault place)) given = (stops base octets place are).0 given

-- ---- a form or a fault

-- Where a reader gives a value exactly of its form and says a fault exactly where it is theirs,
-- octets have one of the two.
pub one_of_two : {V : Type 0} (reader : Reader V) {form : V → List ℕ → Type 0} {fault : ℕ → List ℕ → ℕ → Type 0} → ReadsForm reader form → ReadsFault reader fault → FormOrFault form fault
one_of_two {V = V} reader {form = form} {fault = fault} reads stops base octets are = record {
  one_value = λ one other this that. let both : Ok one ≡ Ok other = sym ((reads base octets one are).1 this) ∙ (reads base octets other are).1 that in cc;
  one_fault = λ one other this that. let both : Err one ≡ Err other = sym ((stops base octets one are).1 this) ∙ (stops base octets other are).1 that in cc;
  not_both = λ value place this that. let both : Ok value ≡ Err place = sym ((reads base octets value are).1 this) ∙ (stops base octets place are).1 that in absurd cc;
  not_neither = either (whole reader base octets) refl;
}
  where
    either : (read : Result V ℕ) → whole reader base octets ≡ read → ((value : V) × form value octets) ⊎ ((place : ℕ) × fault base octets place)
    either (Ok value) e = inl (value, (reads base octets value are).0 e)
    either (Err place) e = inr (place, (stops base octets place are).0 e)

-- ---- no form is a prefix

module _ {V : Type 0} {fields : V → List Field} {holds : V → Type 0} (alike : Alike fields holds) where
  -- After all fields of a value no field of one is to come.
  none_to_come : (value : V) → holds value → (others : List Field) → HasFields fields holds (fields value) others → others ≡ []
  none_to_come value so others h =
      let same : value ≡ h.value = alike value h.value others [] so h.so (sym h.split ∙ sym (append-nil (fields h.value))) in
      none_behind (fields value) others (ap fields same ∙ h.split)

  -- Octets after the form of a value are a fault.
  over_is_fault : (value : V) (octets : List ℕ) (x : ℕ) (more : List ℕ) → Form (fields value) octets → holds value → FirstFault fields holds 0 (octets ++ x ∷ more) (length octets)
  over_is_fault value octets x more form so = record {
    firsts = fields value;
    others = [];
    some = record { value = value; so = so; split = sym (append-nil (fields value)) };
    front = octets;
    left = x ∷ more;
    joined = refl;
    form = form;
    stands = omega arith;
    none = λ others h on. let none : GoesOn Nothing [] (x ∷ more) = subst (λ (l : List Field). GoesOn Nothing l (x ∷ more)) (none_to_come value so others h) on in absurd cc;
  }

  pub none_is_a_front : {form : V → List ℕ → Type 0} → ((value : V) (octets : List ℕ) → form value octets → Form (fields value) octets × holds value) → FormOrFault form (FirstFault fields holds) → NoneIsAFront form
  none_is_a_front {form = form} has two one other octets [] are this that =
      let back : form other octets = subst (λ (o : List ℕ). form other o) (append-nil octets) that in
      ((two 0 octets (subst AreOctets (append-nil octets) are)).one_value one other this back, refl)
  none_is_a_front has two one other octets (x ∷ more) are this that =
      let h = has one octets this in
      absurd ((two 0 (octets ++ x ∷ more) are).not_both other (length octets) that (over_is_fault one octets x more h.0 h.1))
