-- Targets in order ask for what the targets ask for, and a search in them finds what is among them.
use Rattle.std.proofs.Common.{◌≡◌, inl, inr, ℕ, ◌<◌, ◌≤◌, ◌||◌, cond, Bool, true, false, List, [], ◌∷◌, length, get_or, refl, sym, ap, ◌∙◌, arith}
use Rattle.std.specs.Prelude.{Result, Ok, Err, filter, is_ok}
use Rattle.std.specs.List.{list_any}
use Rattle.std.specs.List.Sorted.{IsBinarySearchResult, IsPermutation, IsSearchInRange}
use Rattle.std.specs.Ordering.{is_eq, nat_cmp}
use Rattle.std.specs.declared.cmp.Ordering.TheVariants.{Less, Equal, Greater}
use Rattle.std.specs.Cmp.Lexicographic.{nat_list_cmp_total, slice_cmp, texts_ties}
use Rattle.std.specs.Str.{bytes_eq}
use Rattle.std.proofs.lemmas.Bool.{cases_lt}
use Rattle.std.proofs.lemmas.List.{length-map}
use Rattle.std.proofs.lemmas.List.Folds.{list_any_at, list_any_none}
use Rattle.std.proofs.lemmas.List.Sorted.{IsPermutation-map, length_permutation, list_any-IsPermutation, searchable_from_sorted}
use Rattle.std.proofs.lemmas.List.Sums.{count_by-le-length, length-filter}
use denote.Ref.{Bor}
use Rattle.swima_model.specs.declared.event.Event.{Event}
use Rattle.swima_model.specs.declared.record.Record.{Record}
use Rattle.collector_core.specs.Answering.{is_wanted, wanted_events, wanted_records}
use Rattle.collector_core.specs.Borrowed.{values}
use Rattle.collector_core.specs.OctetOrder.{Rises}

-- ---- what is asked for

abbrev is_none : List (List ℕ) → Bool
is_none [] = true
is_none (target ∷ others) = false

wanted_is : (targets : List (List ℕ)) (ident : List ℕ) → is_wanted targets ident ≡ (is_none targets || list_any (λ (wanted : List ℕ). bytes_eq wanted ident) targets)
wanted_is [] ident = refl
wanted_is (target ∷ others) ident = refl

none_alike : (targets moved : List (List ℕ)) → length moved ≡ length targets → is_none moved ≡ is_none targets
none_alike [] [] is = refl
none_alike [] (x ∷ xs) is = absurd (omega (arith, is))
none_alike (x ∷ xs) [] is = absurd (omega (arith, is))
none_alike (x ∷ xs) (y ∷ ys) is = refl

-- The same targets in another order ask for the same.
pub permuted_wanted : (targets moved : List (List ℕ)) → IsPermutation targets moved → (ident : List ℕ) → is_wanted moved ident ≡ is_wanted targets ident
permuted_wanted targets moved is ident =
    wanted_is moved ident
    ∙ ap (λ (b : Bool). b || list_any (λ (wanted : List ℕ). bytes_eq wanted ident) moved) (none_alike targets moved (length_permutation targets moved is))
    ∙ ap (λ (b : Bool). is_none targets || b) (sym (list_any-IsPermutation (λ (wanted : List ℕ). bytes_eq wanted ident) targets moved is))
    ∙ sym (wanted_is targets ident)

-- Of targets, if there are any, one is asked for where it is among them.
pub among_wanted : (targets : List (List ℕ)) (ident : List ℕ) → (length targets ≡ 0 → ⊥) → list_any (λ (wanted : List ℕ). bytes_eq wanted ident) targets ≡ is_wanted targets ident
among_wanted [] ident some = absurd (some refl)
among_wanted (target ∷ others) ident some = refl

pub has_is : (targets : List (List ℕ)) (held rising : List (Bor (List ℕ))) (octets ident : List ℕ) (found : Bool) → found ≡ list_any (λ target. bytes_eq target octets) (values rising)
    → octets ≡ ident → rising ≡ held → values held ≡ targets → (length held ≡ 0 → ⊥) → found ≡ is_wanted targets ident
has_is targets held rising octets ident found is same all are some =
    is
    ∙ ap (λ (xs : List ℕ). list_any (λ target. bytes_eq target xs) (values rising)) same
    ∙ ap (λ (xs : List (Bor (List ℕ))). list_any (λ target. bytes_eq target ident) (values xs)) all
    ∙ ap (λ (ts : List (List ℕ)). list_any (λ target. bytes_eq target ident) ts) are
    ∙ among_wanted targets ident (λ none. some (omega (arith, none, ap length are, length-map held (λ b. b.now))))

-- What is asked for alike is chosen alike.
filter_same : {X : Type 0} (p q : X → Bool) → ((x : X) → p x ≡ q x) → (xs : List X) → filter p xs ≡ filter q xs
filter_same p q same [] = refl
filter_same {X = X} p q same (x ∷ xs) = ap (λ (b : Bool). cond b (x ∷ filter p xs) (filter p xs)) (same x) ∙ ap (λ (l : List X). cond (q x) (x ∷ l) l) (filter_same p q same xs)

module _ (one other : List (List ℕ)) (same : (ident : List ℕ) → is_wanted one ident ≡ is_wanted other ident) where
  pub records_alike : (rs : List Record) → wanted_records one rs ≡ wanted_records other rs
  records_alike rs = filter_same (λ (r : Record). is_wanted one r.content.ident) (λ (r : Record). is_wanted other r.content.ident) (λ r. same r.content.ident) rs

  pub events_alike : (es : List Event) → wanted_events one es ≡ wanted_events other es
  events_alike es = filter_same (λ (e : Event). is_wanted one e.subject.content.ident) (λ (e : Event). is_wanted other e.subject.content.ident) (λ e. same e.subject.content.ident) es

-- No more is chosen than there is.
pub few_chosen : {X : Type 0} (chosen : List (Bor X)) (test : X → Bool) (xs : List X) → values chosen ≡ filter test xs → length chosen ≤ length xs
few_chosen chosen test xs is = omega (arith, length-map chosen (λ b. b.now), ap length is, length-filter test xs, count_by-le-length test xs)

pub sorted_wanted : (targets : List (List ℕ)) (taken sorted : List (Bor (List ℕ))) → values taken ≡ targets → IsPermutation taken sorted → (ident : List ℕ) → is_wanted (values sorted) ident ≡ is_wanted targets ident
sorted_wanted targets taken sorted are is ident =
    permuted_wanted (values taken) (values sorted) (IsPermutation-map (λ b. b.now) taken sorted is) ident
    ∙ ap (λ (ts : List (List ℕ)). is_wanted ts ident) are

-- ---- a search

any_value : (test : List ℕ → Bool) (rising : List (Bor (List ℕ))) → list_any test (values rising) ≡ list_any (λ target. test target.now) rising
any_value test [] = refl
any_value test (target ∷ others) = ap (λ (b : Bool). test target.now || b) (any_value test others)

equal_at : (one other : List ℕ) → slice_cmp nat_cmp one other ≡ Equal → bytes_eq one other ≡ true
equal_at one other is = texts_ties one other ∙ ap is_eq is

less_at : (one other : List ℕ) → slice_cmp nat_cmp one other ≡ Less → bytes_eq one other ≡ false
less_at one other is = texts_ties one other ∙ ap is_eq is

greater_at : (one other : List ℕ) → slice_cmp nat_cmp one other ≡ Greater → bytes_eq one other ≡ false
greater_at one other is = texts_ties one other ∙ ap is_eq is

found_at : (rising : List (Bor (List ℕ))) (octets : List ℕ) (place : ℕ) → place < length rising → ((d : Bor (List ℕ)) → slice_cmp nat_cmp (get_or rising place d).now octets ≡ Equal)
    → list_any (λ target. bytes_eq target.now octets) rising ≡ true
found_at [] octets place within is = absurd (omega (arith, within))
found_at (target ∷ others) octets place within is =
    list_any_at (λ target. bytes_eq target.now octets) (target ∷ others) place target within (equal_at (get_or (target ∷ others) place target).now octets (is target))

pub searched_is : (rising : List (Bor (List ℕ))) (octets : List ℕ) (found : Result ℕ ℕ) → Rises rising → IsSearchInRange found (length rising)
    → IsBinarySearchResult (λ target. slice_cmp nat_cmp target.now octets) rising found → is_ok found ≡ list_any (λ target. bytes_eq target octets) (values rising)
searched_is rising octets (Ok place) rises within is = sym (any_value (λ target. bytes_eq target octets) rising ∙ found_at rising octets place within is)
searched_is rising octets (Err place) rises within is =
    let parts = is (searchable_from_sorted nat_list_cmp_total (λ (target : Bor (List ℕ)). target.now) rising octets rises) in
    sym (any_value (λ target. bytes_eq target octets) rising
    ∙ list_any_none (λ target. bytes_eq target.now octets) rising (λ k d here.
    elim (cases_lt k place) [
      | inl below ↦ less_at (get_or rising k d).now octets (parts.0 k d (omega arith) below)
      | inr from ↦ greater_at (get_or rising k d).now octets (parts.1 k d from here)
    ]))
