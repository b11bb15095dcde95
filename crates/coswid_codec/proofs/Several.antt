-- One or more values of a form, an array of them or one alone.
use Rattle.std.proofs.Common.{◌≡◌, ◌≢◌, ◌≤◌, ℕ, ◌+◌, ◌-◌, List, [], ◌∷◌, map as map_list, Option, None, refl, ap, ◌∙◌, arith}
use Rattle.cbor_det.specs.Term.{Term, Terms, array, no_terms, term, count, depth, terms_depth}
use Rattle.cbor_det.specs.View.{terms_of}
use Rattle.cbor_det.specs.Proper.{AreProper}
use Rattle.cbor_det.proofs.Counts.{most, terms_most}
use Rattle.coswid_res.specs.declared.fault.FormFault.{FormFault}
use Rattle.coswid_res.specs.Schema.{Form, one, one_or_more}
use Rattle.coswid_res.specs.Fault.{field_fault, elements_fault, under, or_else}
use Rattle.coswid_res.specs.Items.{row_item}
use Rattle.coswid_res.specs.Words.{Each, OneOrMore}
use Rattle.coswid_res.proofs.Maps.{or_none}
use Rattle.coswid_codec.proofs.Lawful.{Told, Lawful, next, next_less, next_more, under_none, wrong}

-- No value of these is written as an array.
abbrev pub IsAlone : Term → Type 0
IsAlone (array ts) = ⊥
IsAlone t = Unit {0}

alone : {A : Type 0} (Is : A → Term → Type 0) (v : A) (t : Term) → IsAlone t → Is v t → OneOrMore Is (v ∷ []) t
alone Is v (array ts) no_array is = absurd no_array
alone Is v t no_array is = is

-- An array that is not empty is read as some values.
pub filled : {A : Type 0} (Is : A → Term → Type 0) (vs : List A) (t : Term) (ts : Terms) → Each Is vs (term t ts) → vs ≢ []
filled Is [] t ts each = absurd each
filled Is (v ∷ vs) t ts each = λ e. cc

module _ {A : Type 0} (form : Form) (Is : A → Term → Type 0) (item : A → Term) (least : ℕ) (plain : (v : A) → IsAlone (item v)) where
  abbrev items : List A → List Term
  items vs = map_list item vs

  -- what is known of one value
  abbrev One : A → Term → Type 0
  One v t = Told (one form) Is item least v t

  each_none : (vs : List A) (ts : Terms) (i : ℕ) → Each One vs ts → elements_fault form i ts ≡ None
  each_none [] no_terms i each = refl
  each_none (v ∷ vs) (term t ts) i each =
      ap (λ (o : Option FormFault). or_else (under i o) (elements_fault form (i + 1) ts)) (each.0.none) ∙ each_none vs ts (i + 1) each.1
  each_none vs ts i each = absurd each

  each_again : (vs : List A) (ts : Terms) → Each One vs ts → Each Is vs (terms_of (items vs))
  each_again [] no_terms each = tt
  each_again (v ∷ vs) (term t ts) each = (each.0.again, each_again vs ts each.1)
  each_again vs ts each = absurd each

  each_proper : (vs : List A) (ts : Terms) → Each One vs ts → AreProper ts → AreProper (terms_of (items vs))
  each_proper [] no_terms each proper = tt
  each_proper (v ∷ vs) (term t ts) each proper = (each.0.proper proper.0, each_proper vs ts each.1 proper.1)
  each_proper vs ts each proper = absurd each

  each_within : (vs : List A) (ts : Terms) (n : ℕ) → Each One vs ts → least ≤ n → terms_depth ts ≤ n → terms_depth (terms_of (items vs)) ≤ n
  each_within [] no_terms n each le deep = omega arith
  each_within (v ∷ vs) (term t ts) n each le deep =
      let first : depth (item v) ≤ n = each.0.within n le (omega (arith, deep)) in
      let rest : terms_depth (terms_of (items vs)) ≤ n = each_within vs ts n each.1 le (omega (arith, deep)) in
      omega (arith, first, rest)
  each_within vs ts n each le deep = absurd each

  each_few : (vs : List A) (ts : Terms) (n : ℕ) → Each One vs ts → terms_most ts ≤ n → terms_most (terms_of (items vs)) ≤ n + 16
  each_few [] no_terms n each le = omega arith
  each_few (v ∷ vs) (term t ts) n each le =
      let first : most (item v) ≤ n + 16 = each.0.few n (omega (arith, le)) in
      let rest : terms_most (terms_of (items vs)) ≤ n + 16 = each_few vs ts n each.1 (omega (arith, le)) in
      omega (arith, first, rest)
  each_few vs ts n each le = absurd each

  each_count : (vs : List A) (ts : Terms) → Each One vs ts → count (terms_of (items vs)) ≡ count ts
  each_count [] no_terms each = refl
  each_count (v ∷ vs) (term t ts) each = ap (λ (n : ℕ). n + 1) (each_count vs ts each.1)
  each_count vs ts each = absurd each

  -- an array of values
  pub array_told : (vs : List A) (ts : Terms) → (vs ≢ []) → Each (λ (v : A) (t : Term). Told (one form) Is item least v t) vs ts
      → Told (one_or_more form) (OneOrMore Is) (λ us. row_item (map_list item us)) (next least) vs (array ts)
  array_told [] ts some each = absurd (some refl)
  array_told (v ∷ []) (term t no_terms) some each = record {
    none = each_none (v ∷ []) (term t no_terms) 0 each;
    again = alone Is v (item v) (plain v) each.0.again;
    proper = λ p. each.0.proper p.0;
    within = λ n le deep. each.0.within n (next_more least n le) (omega (arith, deep));
    few = λ n le. each.0.few n (omega (arith, le));
  }
  array_told (v ∷ w ∷ vs) (term t ts) some each = record {
    none = each_none (v ∷ w ∷ vs) (term t ts) 0 each;
    again = ((λ e. cc), each_again (v ∷ w ∷ vs) (term t ts) each);
    proper = λ p. each_proper (v ∷ w ∷ vs) (term t ts) each p;
    within = λ n le deep.
        let l : terms_depth (terms_of (items (v ∷ w ∷ vs))) ≤ n - 1 = each_within (v ∷ w ∷ vs) (term t ts) (n - 1) each (next_less least n le) (omega (arith, deep)) in
        omega (arith, l, deep);
    few = λ n le.
        let c : count (terms_of (items (v ∷ w ∷ vs))) ≡ count (term t ts) = each_count (v ∷ w ∷ vs) (term t ts) each in
        let l : terms_most (terms_of (items (v ∷ w ∷ vs))) ≤ n + 16 = each_few (v ∷ w ∷ vs) (term t ts) n each (omega (arith, le)) in
        omega (arith, c, l, le);
  }
  array_told (v ∷ []) (term t (term u ts)) some each = absurd each.1
  array_told vs no_terms some each = absurd each

  -- one value alone
  pub one_told : (v : A) (t : Term) → field_fault (one_or_more form) t ≡ field_fault (one form) t → Told (one form) Is item least v t
      → Told (one_or_more form) (OneOrMore Is) (λ us. row_item (map_list item us)) least (v ∷ []) t
  one_told v t alike told = record {
    none = alike ∙ told.none;
    again = alone Is v (item v) (plain v) told.again;
    proper = λ p. told.proper p;
    within = λ n le deep. told.within n le deep;
    few = λ n le. told.few n le;
  }

module _ {A : Type 0} (form : Form) (Is : A → Term → Type 0) (item : A → Term) (least : ℕ) (law : Lawful (one form) Is item least) (plain : (v : A) → IsAlone (item v)) where
  abbrev items_of : List A → List Term
  items_of vs = map_list item vs

  each_told : (vs : List A) (ts : Terms) → Each Is vs ts → Each (λ (v : A) (t : Term). Told (one form) Is item least v t) vs ts
  each_told [] no_terms each = tt
  each_told (v ∷ vs) (term t ts) each = (law.told v t each.0, each_told vs ts each.1)
  each_told vs ts each = absurd each

  lone : (v : A) (t : Term) → field_fault (one_or_more form) t ≡ field_fault (one form) t → Is v t
      → Told (one_or_more form) (OneOrMore Is) (λ us. row_item (items_of us)) (next least) (v ∷ []) t
  lone v t alike is =
      let told = one_told form Is item least plain v t alike (law.told v t is) in
      record { none = told.none; again = told.again; proper = told.proper; within = λ n le deep. told.within n (next_more least n le) deep; few = told.few }

  each_same : (vs ws : List A) (ts : Terms) → Each Is vs ts → Each Is ws ts → vs ≡ ws
  each_same [] [] no_terms first second = refl
  each_same (v ∷ vs) (w ∷ ws) (term t ts) first second =
      ap (λ (u : A). u ∷ vs) (law.same v w t first.0 second.0) ∙ ap (λ (us : List A). w ∷ us) (each_same vs ws ts first.1 second.1)
  each_same [] (w ∷ ws) no_terms first second = absurd second
  each_same (v ∷ vs) [] (term t ts) first second = absurd second
  each_same vs ws ts first second = absurd first

  each_some : (ts : Terms) (i : ℕ) → elements_fault form i ts ≡ None → (vs : List A) × Each Is vs ts
  each_some no_terms i none = ([], tt)
  each_some (term t ts) i none =
      let both = or_none (under i (field_fault (one form) t)) (elements_fault form (i + 1) ts) none in
      let first = law.some t (under_none i (field_fault (one form) t) both.0) in
      let rest = each_some ts (i + 1) both.1 in
      (first.0 ∷ rest.0, (first.1, rest.1))

  several_told : (vs : List A) (t : Term) → OneOrMore Is vs t → Told (one_or_more form) (OneOrMore Is) (λ us. row_item (items_of us)) (next least) vs t
  several_told vs (array ts) is = array_told form Is item least plain vs ts is.0 (each_told vs ts is.1)
  several_told (v ∷ []) t is = lone v t refl is
  several_told vs t is = absurd is

  several_same : (vs ws : List A) (t : Term) → OneOrMore Is vs t → OneOrMore Is ws t → vs ≡ ws
  several_same vs ws (array ts) first second = each_same vs ws ts first.1 second.1
  several_same (v ∷ []) (w ∷ []) t first second = ap (λ (u : A). u ∷ []) (law.same v w t first second)
  several_same (v ∷ []) ws t first second = absurd second
  several_same vs ws t first second = absurd first

  elements_some : (ts : Terms) → field_fault (one_or_more form) (array ts) ≡ None → (vs : List A) × OneOrMore Is vs (array ts)
  elements_some no_terms none = wrong none
  elements_some (term t ts) none =
      let found = each_some (term t ts) 0 none in
      (found.0, (filled Is found.0 t ts found.1, found.1))

  several_some : (t : Term) → field_fault (one_or_more form) t ≡ None → (vs : List A) × OneOrMore Is vs t
  several_some (array ts) none = elements_some ts none
  several_some t none = let found = law.some t none in (found.0 ∷ [], found.1)

  pub several_law : Lawful (one_or_more form) (OneOrMore Is) (λ vs. row_item (map_list item vs)) (next least)
  several_law = record { told = several_told; same = several_same; some = several_some }
