-- The elements of an array, one after another, and their first fault.
use Rattle.std.proofs.Common.{◌≡◌, ◌≢◌, ℕ, Result, Ok, Err, ◌+◌, List, [], ◌∷◌, ◌++◌, map, None, refl, sym, ap, ◌∙◌, subst}
use Rattle.std.proofs.lemmas.List.{append-nil}
use Rattle.cbor_det.specs.declared.item.Item.{Item}
use Rattle.cbor_det.specs.declared.item.Item.TheVariants as code
use Rattle.cbor_det.specs.Term.{Term, Terms, term, array}
use Rattle.cbor_det.specs.View.{view, terms_of}
use Rattle.coswid_res.specs.declared.fault.FormRefused.{FormRefused}
use Rattle.coswid_res.specs.Schema.{Form, one_or_more}
use Rattle.coswid_res.specs.Fault.{field_fault, elements_fault}
use Rattle.coswid_res.specs.Reading.{Gives}
use Rattle.coswid_res.specs.Words.{Each, OneOrMore}
use Rattle.cbor_det.proofs.Views.{view_array}

-- With values of the items that are left there are values of all.
abbrev pub Completes : {A : Type 0} → (A → Term → Type 0) → List A → List Item → List Item → Type 0
Completes {A} Is vs left all = (more : List A) → Each Is more (terms_of (map view left)) → Each Is (vs ++ more) (terms_of (map view all))

-- Nothing is left.
pub all_read : {A : Type 0} (Is : A → Term → Type 0) (form : Form) (vs : List A) (place : ℕ) (left all : List Item) → left ≡ []
    → elements_fault form 0 (terms_of (map view all)) ≡ elements_fault form place (terms_of (map view left)) → Completes Is vs left all
    → (elements_fault form 0 (terms_of (map view all)) ≡ None) × Each Is vs (terms_of (map view all))
all_read {A} Is form vs place left all none first each =
    let E : List Item → Type 0 = λ xs. Each Is [] (terms_of (map view xs)) in
    let F : List A → Type 0 = λ us. Each Is us (terms_of (map view all)) in
    (first ∙ ap (λ (xs : List Item). elements_fault form place (terms_of (map view xs))) none, subst F (append-nil vs) (each [] (subst E (sym none) tt)))

each_some : {A : Type 0} (Is : A → Term → Type 0) (vs : List A) (t : Term) (ts : Terms) → Each Is vs (term t ts) → vs ≢ []
each_some Is [] t ts each = absurd each
each_some Is (v ∷ vs) t ts each = λ e. cc

row_told : {A : Type 0} (Is : A → Term → Type 0) (form : Form) (xs : List Item) (r : Result (List A) FormRefused) → (xs ≡ [] → ⊥)
    → Gives (λ vs. Each Is vs (terms_of (map view xs))) (elements_fault form 0 (terms_of (map view xs))) r
    → Gives (λ vs. OneOrMore Is vs (array (terms_of (map view xs)))) (field_fault (one_or_more form) (array (terms_of (map view xs)))) r
row_told Is form [] r some told = absurd (some refl)
row_told Is form (x ∷ xs) (Ok vs) some told = (told.0, (each_some Is vs (view x) (terms_of (map view xs)) told.1, told.1))
row_told Is form (x ∷ xs) (Err e) some told = told

-- The elements of an array that is not empty are those of the item.
pub row_of_array : {A : Type 0} (Is : A → Term → Type 0) (form : Form) (item : Item) (xs : List Item) (r : Result (List A) FormRefused) → item ≡ code.Array xs
    → (xs ≡ [] → ⊥) → Gives (λ vs. Each Is vs (terms_of (map view xs))) (elements_fault form 0 (terms_of (map view xs))) r
    → Gives (λ vs. OneOrMore Is vs (view item)) (field_fault (one_or_more form) (view item)) r
row_of_array Is form item xs r is some told =
    let Q : Term → Type 0 = λ t. Gives (λ vs. OneOrMore Is vs t) (field_fault (one_or_more form) t) r in
    subst Q (sym (ap view is ∙ view_array xs)) (row_told Is form xs r some told)
