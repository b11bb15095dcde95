-- Values that stand in a layout one after another: what is written of them, and how much.
use Rattle.std.proofs.Common.{◌≡◌, ℕ, ◌<◌, ◌≤◌, ◌+◌, ◌*◌, List, [], ◌∷◌, ◌++◌, length, get_or, take, refl, sym, ap, subst, ◌∙◌, arith, append_assoc, length-append}
use Rattle.std.specs.List.{flat_map, sum_by, AllByRecursion}
use Rattle.std.proofs.lemmas.List.{append-nil, take_more}
use Rattle.std.proofs.lemmas.List.Sums.{sum_by-cons}
use Rattle.std.proofs.lemmas.Grind.{flat_map-append}
use Rattle.wire_base.specs.Layout.{Field}
use Rattle.wire_base.specs.Written.{Fit, written}
use Rattle.wire_base.proofs.WrittenLaws.{Fit-append, written-append}

module _ {A : Type 0} (fields : A → List Field) where
  -- The fields of one value more stand after those of the ones before it.
  fields_more : (values : List A) (i : ℕ) (d : A) → i < length values → flat_map fields (take (i + 1) values) ≡ flat_map fields (take i values) ++ fields (get_or values i d)
  fields_more values i d within =
      ap (λ l. flat_map fields l) (take_more values i d within)
      ∙ flat_map-append fields (take i values) (get_or values i d ∷ [])
      ∙ ap (λ f. flat_map fields (take i values) ++ f) (append-nil (fields (get_or values i d)))

  -- So does what is written of it, after octets that stand before all of them.
  pub written_more : (values : List A) (i : ℕ) (d : A) (before out new : List ℕ) → i < length values
      → out ≡ before ++ written (flat_map fields (take i values)) → new ≡ out ++ written (fields (get_or values i d))
      → new ≡ before ++ written (flat_map fields (take (i + 1) values))
  written_more values i d before out new within so put =
      let fronts : List ℕ = written (flat_map fields (take i values)) in
      let one : List ℕ = written (fields (get_or values i d)) in
      put
      ∙ ap (λ (o : List ℕ). o ++ one) so
      ∙ append_assoc before fronts one
      ∙ ap (λ (o : List ℕ). before ++ o) (sym (written-append (flat_map fields (take i values)) (fields (get_or values i d))))
      ∙ ap (λ (f : List Field). before ++ written f) (sym (fields_more values i d within))

  -- Where it has room too, all of them have.
  pub fit_more : (values : List A) (i : ℕ) (d : A) → i < length values → Fit (flat_map fields (take i values)) → Fit (fields (get_or values i d)) → Fit (flat_map fields (take (i + 1) values))
  fit_more values i d within so one =
      subst Fit (sym (fields_more values i d within)) (Fit-append (flat_map fields (take i values)) (fields (get_or values i d)) so one)

  -- Where each value has room, their fields do.
  pub fit_each : (holds : A → Type 0) → ((value : A) → holds value → Fit (fields value)) → (values : List A) → AllByRecursion holds values → Fit (flat_map fields values)
  fit_each holds fits [] all = tt
  fit_each holds fits (value ∷ values) all = Fit-append (fields value) (flat_map fields values) (fits value all.0) (fit_each holds fits values all.1)

  -- What is written of them has the octets of each.
  pub length-each : (size : A → ℕ) → ((value : A) → length (written (fields value)) ≡ size value) → (values : List A) → length (written (flat_map fields values)) ≡ sum_by size values
  unfolding written
  length-each size is [] = refl
  length-each size is (value ∷ values) =
      let both : length (written (flat_map fields (value ∷ values))) ≡ length (written (fields value)) + length (written (flat_map fields values)) =
      ap (λ (o : List ℕ). length o) (written-append (fields value) (flat_map fields values)) ∙ length-append (written (fields value)) (written (flat_map fields values)) in
      let total : length (written (flat_map fields (value ∷ values))) ≡ size value + sum_by size values = omega (arith, both, is value, length-each size is values) in
      total ∙ sym (sum_by-cons size value values)

-- A sum is no less than the fewest that each adds, once for each.
pub fewest_of_each : {A : Type 0} (size : A → ℕ) (fewest : ℕ) → ((value : A) → fewest ≤ size value) → (values : List A) → fewest * length values ≤ sum_by size values
fewest_of_each size fewest least [] = omega arith
fewest_of_each size fewest least (value ∷ values) = omega (arith, sum_by-cons size value values, least value, fewest_of_each size fewest least values)
