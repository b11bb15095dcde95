-- What one event adds to what is live, and takes from it.
use Rattle.std.proofs.Common.{◌≡◌, inl, inr, ℕ, ◌+◌, eqb, cond, not, ◌||◌, Bool, true, false, List, [], ◌∷◌, ◌++◌, length, Option, Some, None, refl, sym, ap, ◌∙◌, arith, eq-eqb, ne_eqb}
use Rattle.std.specs.Prelude.{filter, option_to_list, sum_by}
use Rattle.std.specs.List.Sorted.{IsStrictlyIncreasing}
use Rattle.std.proofs.lemmas.Bool.{cases_eq}
use Rattle.std.proofs.lemmas.List.Elements.{filter_agree}
use Rattle.std.proofs.lemmas.List.Filters.{sum_by-filter_both}
use Rattle.std.proofs.lemmas.List.Sorted.{sum_by-IsPermutation}
use Rattle.std.proofs.lemmas.List.Sums.{sum_by-append, sum_by-cons}
use Rattle.swima_model.specs.declared.event.Event.{Event}
use Rattle.swima_model.specs.declared.record.Record.{Record}
use Rattle.swima_model.specs.InOrder.{ids, in_order}
use Rattle.swima_model.specs.Live.{by_mention, is_deletion, is_mentioned, last_mentions, live, record_of, unmentioned}
use Rattle.swima_model.specs.Rising.{of_id}
use Rattle.swima_model.specs.Size.{content_octets, records_octets}
use Rattle.swima_model.proofs.Living.{strict_of_id}
use Rattle.swima_model.proofs.Placing.{in_order_permutation}

-- ---- the parts of what is live after one event

-- The records but that of an identifier.
abbrev pub but : ℕ → List Record → List Record
but id rs = filter (λ (r : Record). not (eqb r.id id)) rs

turned : (m n : ℕ) → (eqb m n || false) ≡ eqb n m
turned m n = elim (cases_eq m n) [
  | inl is ↦ ap (λ (t : Bool). t || false) (eq-eqb m n is) ∙ sym (eq-eqb n m (sym is))
  | inr apart ↦ ap (λ (t : Bool). t || false) (ne_eqb m n apart) ∙ sym (ne_eqb n m (λ is. apart (sym is)))
]

pub unmentioned_by_one : (e : Event) (rs : List Record) → unmentioned (e ∷ []) rs ≡ but e.subject.id rs
unmentioned_by_one e rs =
    filter_agree (λ (r : Record). not (is_mentioned r.id (e ∷ []))) (λ (r : Record). not (eqb r.id e.subject.id)) (λ r. ap not (turned e.subject.id r.id)) rs

said_step : (gone : Bool) (r : Record) → cond gone [] (r ∷ []) ≡ option_to_list (cond gone None (Some r))
said_step true r = refl
said_step false r = refl

-- What the event says of its record.
pub said_by_one : (e : Event) → last_mentions (e ∷ []) ≡ option_to_list (by_mention None (Some e))
said_by_one e = said_step (is_deletion e.action) e.subject

-- ---- by any weight of a record

twice : (b : Bool) → b ≡ not (not b)
twice true = refl
twice false = refl

module _ (w : Record → ℕ) where
  without_one : (id : ℕ) (rs : List Record) → IsStrictlyIncreasing (ids rs) → sum_by w (but id rs) + sum_by w (option_to_list (record_of id rs)) ≡ sum_by w rs
  without_one id rs up =
      ap (λ (found : List Record). sum_by w (but id rs) + sum_by w found) (sym (strict_of_id id rs up))
      ∙ sum_by-filter_both (λ (r : Record). not (eqb r.id id)) (λ (r : Record). eqb r.id id) (λ r. twice (eqb r.id id)) w rs

  -- What is live after an event weighs what was live, and what the event says, without what was
  -- live of its record.
  pub weighed : (rs : List Record) (e : Event) → IsStrictlyIncreasing (ids rs)
      → sum_by w (live rs (e ∷ [])) + sum_by w (option_to_list (record_of e.subject.id rs)) ≡ sum_by w rs + sum_by w (option_to_list (by_mention None (Some e)))
  weighed rs e up =
      let all : List Record = unmentioned (e ∷ []) rs ++ last_mentions (e ∷ []) in
      omega (
        arith,
        sum_by-IsPermutation w all (in_order all) (in_order_permutation all),
        sum_by-append w (unmentioned (e ∷ []) rs) (last_mentions (e ∷ [])),
        ap (sum_by w) (unmentioned_by_one e rs),
        ap (sum_by w) (said_by_one e),
        without_one e.subject.id rs up,
      )

-- ---- how many, and how many octets

counted : (rs : List Record) → sum_by (λ (r : Record). 1) rs ≡ length rs
counted [] = refl
counted (r ∷ rs) = sum_by-cons (λ (r : Record). 1) r rs ∙ omega (arith, counted rs)

pub count_after : (rs : List Record) (e : Event) → IsStrictlyIncreasing (ids rs)
    → length (live rs (e ∷ [])) + length (option_to_list (record_of e.subject.id rs)) ≡ length rs + length (option_to_list (by_mention None (Some e)))
count_after rs e up =
    omega (
      arith,
      weighed (λ (r : Record). 1) rs e up,
      counted (live rs (e ∷ [])),
      counted (option_to_list (record_of e.subject.id rs)),
      counted rs,
      counted (option_to_list (by_mention None (Some e))),
    )

pub octets_after : (rs : List Record) (e : Event) → IsStrictlyIncreasing (ids rs)
    → records_octets (live rs (e ∷ [])) + records_octets (option_to_list (record_of e.subject.id rs)) ≡ records_octets rs + records_octets (option_to_list (by_mention None (Some e)))
octets_after rs e up = weighed (λ (r : Record). content_octets r.content) rs e up

-- What is live of a record is part of what is live.
pub octets_of_one : (id : ℕ) (rs : List Record) → IsStrictlyIncreasing (ids rs) → records_octets (but id rs) + records_octets (option_to_list (record_of id rs)) ≡ records_octets rs
octets_of_one id rs up = without_one (λ (r : Record). content_octets r.content) id rs up

pub count_of_one : (id : ℕ) (rs : List Record) → IsStrictlyIncreasing (ids rs) → length (but id rs) + length (option_to_list (record_of id rs)) ≡ length rs
count_of_one id rs up =
    omega (arith, without_one (λ (r : Record). 1) id rs up, counted (but id rs), counted (option_to_list (record_of id rs)), counted rs)
