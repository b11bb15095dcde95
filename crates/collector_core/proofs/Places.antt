-- What is live after one event more, of records of rising identifiers.
use Rattle.std.proofs.Common.{◌≡◌, inl, inr, ℕ, suc, ◌+◌, eqb, cond, not, Bool, true, false, Option, Some, None, List, [], ◌∷◌, ◌++◌, refl, sym, ap, ◌∙◌, subst, append_assoc, arith, eq-eqb, ne_eqb}
use Rattle.std.specs.Option.{option_or}
use Rattle.std.specs.List.Sorted.{IsStrictlyIncreasing}
use Rattle.std.proofs.lemmas.Bool.{cases_eq, cond-true, cond-false}
use Rattle.std.proofs.lemmas.List.{map-append}
use Rattle.std.proofs.lemmas.List.Sums.{sum_by-append}
use Rattle.std.proofs.lemmas.List.Elements.{filter-append}
use Rattle.swima_model.specs.declared.event.Event.{Event}
use Rattle.swima_model.specs.declared.record.Record.{Record}
use Rattle.swima_model.specs.InOrder.{ids}
use Rattle.swima_model.specs.Live.{live, record_of, is_deletion, by_mention, last_mention}
use Rattle.swima_model.specs.Size.{content_octets, records_octets}
use Rattle.swima_model.proofs.Living.{only_live}
use Rattle.swima_model.proofs.Places.{Climbs, climbed, climbs_left, climbs_right, climbs_without, from_left, none_above, none_before, none_or, record_append}
use Rattle.collector_core.specs.Refusals.{others_than}

-- ---- a record with others before and after it

module _ (before : List Record) (held : Record) (after : List Record) (next : ℕ) (up : Climbs (ids (before ++ held ∷ after) ++ next ∷ [])) where
  seam : ids (before ++ held ∷ after) ++ next ∷ [] ≡ ids before ++ held.id ∷ (ids after ++ next ∷ [])
  seam = ap (λ (ns : List ℕ). ns ++ next ∷ []) (map-append (λ (r : Record). r.id) before (held ∷ after)) ∙ append_assoc (ids before) (held.id ∷ ids after) (next ∷ [])

  here : Climbs (ids before ++ held.id ∷ (ids after ++ next ∷ []))
  here = subst Climbs seam up

  pub not_before : record_of held.id before ≡ None
  not_before = none_before held.id before (ids after ++ next ∷ []) here

  pub not_after : record_of held.id after ≡ None
  not_after =
      let rest : Climbs (held.id ∷ (ids after ++ next ∷ [])) = climbs_right (ids before) (held.id ∷ (ids after ++ next ∷ [])) here in
      none_above held.id (suc held.id) after (omega arith) (from_left (suc held.id) (ids after) (next ∷ []) rest.0)

  pub found_here : record_of held.id (before ++ held ∷ after) ≡ Some held
  found_here =
      record_append held.id before (held ∷ after)
      ∙ ap (λ (o : Option Record). option_or o (record_of held.id (held ∷ after))) not_before
      ∙ cond-true (eqb held.id held.id) (Some held) (record_of held.id after) (eq-eqb held.id held.id refl)

  -- Another record of its identifier in its place, and none.
  pub climbs_exchanged : (other : Record) → other.id ≡ held.id → Climbs (ids (before ++ other ∷ after) ++ next ∷ [])
  climbs_exchanged other same =
      let seam : ids (before ++ other ∷ after) ++ next ∷ [] ≡ ids before ++ other.id ∷ (ids after ++ next ∷ []) =
      ap (λ (ns : List ℕ). ns ++ next ∷ []) (map-append (λ (r : Record). r.id) before (other ∷ after)) ∙ append_assoc (ids before) (other.id ∷ ids after) (next ∷ []) in
      subst Climbs (sym seam) (subst (λ (id : ℕ). Climbs (ids before ++ id ∷ (ids after ++ next ∷ []))) (sym same) here)

  pub climbs_removed : Climbs (ids (before ++ after) ++ next ∷ [])
  climbs_removed =
      let seam : ids (before ++ after) ++ next ∷ [] ≡ ids before ++ (ids after ++ next ∷ []) =
      ap (λ (ns : List ℕ). ns ++ next ∷ []) (map-append (λ (r : Record). r.id) before after) ∙ append_assoc (ids before) (ids after) (next ∷ []) in
      subst Climbs (sym seam) (climbs_without (ids before) held.id (ids after ++ next ∷ []) here)

  strict : IsStrictlyIncreasing (ids (before ++ held ∷ after))
  strict = climbed (ids (before ++ held ∷ after)) (climbs_left (ids (before ++ held ∷ after)) (next ∷ []) up)

  altered_each : (id : ℕ) (e : Event) → e.subject.id ≡ held.id → is_deletion e.action ≡ false
      → record_of id (before ++ e.subject ∷ after) ≡ by_mention (record_of id (before ++ held ∷ after)) (last_mention id (e ∷ []))
  altered_each id e same kept = elim (cases_eq e.subject.id id) [
    | inl at ↦
        let none : record_of id before ≡ None = ap (λ (n : ℕ). record_of n before) (sym at ∙ same) ∙ not_before in
        record_append id before (e.subject ∷ after)
        ∙ ap (λ (o : Option Record). option_or o (record_of id (e.subject ∷ after))) none
        ∙ cond-true (eqb e.subject.id id) (Some e.subject) (record_of id after) (eq-eqb e.subject.id id at)
        ∙ sym (cond-false (is_deletion e.action) None (Some e.subject) kept)
        ∙ ap (by_mention (record_of id (before ++ held ∷ after))) (sym (cond-true (eqb e.subject.id id) (Some e) None (eq-eqb e.subject.id id at)))
    | inr off ↦
        record_append id before (e.subject ∷ after)
        ∙ ap (option_or (record_of id before)) (cond-false (eqb e.subject.id id) (Some e.subject) (record_of id after) (ne_eqb e.subject.id id off))
        ∙ ap (option_or (record_of id before)) (sym (cond-false (eqb held.id id) (Some held) (record_of id after) (ne_eqb held.id id (λ at. off (same ∙ at)))))
        ∙ sym (record_append id before (held ∷ after))
        ∙ ap (by_mention (record_of id (before ++ held ∷ after))) (sym (cond-false (eqb e.subject.id id) (Some e) None (ne_eqb e.subject.id id off)))
  ]

  pub live_altered : (e : Event) → e.subject.id ≡ held.id → is_deletion e.action ≡ false → live (before ++ held ∷ after) (e ∷ []) ≡ before ++ e.subject ∷ after
  live_altered e same kept =
      only_live (before ++ held ∷ after) (e ∷ []) (before ++ e.subject ∷ after) strict (record {
        rising = climbed (ids (before ++ e.subject ∷ after)) (climbs_left (ids (before ++ e.subject ∷ after)) (next ∷ []) (climbs_exchanged e.subject same));
        each = λ id. altered_each id e same kept;
      })

  deleted_each : (id : ℕ) (e : Event) → e.subject.id ≡ held.id → is_deletion e.action ≡ true
      → record_of id (before ++ after) ≡ by_mention (record_of id (before ++ held ∷ after)) (last_mention id (e ∷ []))
  deleted_each id e same gone = elim (cases_eq e.subject.id id) [
    | inl at ↦
        record_append id before after
        ∙ ap (λ (o : Option Record). option_or o (record_of id after)) (ap (λ (n : ℕ). record_of n before) (sym at ∙ same) ∙ not_before)
        ∙ ap (λ (n : ℕ). record_of n after) (sym at ∙ same) ∙ not_after
        ∙ sym (cond-true (is_deletion e.action) None (Some e.subject) gone)
        ∙ ap (by_mention (record_of id (before ++ held ∷ after))) (sym (cond-true (eqb e.subject.id id) (Some e) None (eq-eqb e.subject.id id at)))
    | inr off ↦
        record_append id before after
        ∙ ap (option_or (record_of id before)) (sym (cond-false (eqb held.id id) (Some held) (record_of id after) (ne_eqb held.id id (λ at. off (same ∙ at)))))
        ∙ sym (record_append id before (held ∷ after))
        ∙ ap (by_mention (record_of id (before ++ held ∷ after))) (sym (cond-false (eqb e.subject.id id) (Some e) None (ne_eqb e.subject.id id off)))
  ]

  pub live_deleted : (e : Event) → e.subject.id ≡ held.id → is_deletion e.action ≡ true → live (before ++ held ∷ after) (e ∷ []) ≡ before ++ after
  live_deleted e same gone =
      only_live (before ++ held ∷ after) (e ∷ []) (before ++ after) strict (record {
        rising = climbed (ids (before ++ after)) (climbs_left (ids (before ++ after)) (next ∷ []) climbs_removed);
        each = λ id. deleted_each id e same gone;
      })

  -- The octets beside it.
  others_one : (rs : List Record) → record_of held.id rs ≡ None → others_than held.id rs ≡ rs
  others_one [] none = refl
  others_one (r ∷ rs) none = others_step (eqb r.id held.id) r (record_of held.id rs) (others_than held.id rs) rs none (others_one rs)
    where
      others_step : (at : Bool) (r : Record) (o : Option Record) (others rs : List Record) → cond at (Some r) o ≡ None → (o ≡ None → others ≡ rs) → cond (not at) (r ∷ others) others ≡ r ∷ rs
      others_step true r o others rs none is = absurd cc
      others_step false r o others rs none is = ap (λ (l : List Record). r ∷ l) (is none)

  pub others_are : others_than held.id (before ++ held ∷ after) ≡ before ++ after
  others_are =
      filter-append (λ (r : Record). not (eqb r.id held.id)) before (held ∷ after)
      ∙ ap (λ (l : List Record). l ++ others_than held.id (held ∷ after)) (others_one before not_before)
      ∙ ap (λ (l : List Record). before ++ l) (cond-false (not (eqb held.id held.id)) (held ∷ others_than held.id after) (others_than held.id after) (ap not (eq-eqb held.id held.id refl)) ∙ others_one after not_after)

-- ---- a new record

module _ (rs : List Record) (e : Event) (up : Climbs (ids rs ++ e.subject.id ∷ [])) where
  pub not_yet : record_of e.subject.id rs ≡ None
  not_yet = none_before e.subject.id rs [] up

  pub ids_created : ids (rs ++ e.subject ∷ []) ≡ ids rs ++ e.subject.id ∷ []
  ids_created = map-append (λ (r : Record). r.id) rs (e.subject ∷ [])

  created_each : (id : ℕ) → is_deletion e.action ≡ false → record_of id (rs ++ e.subject ∷ []) ≡ by_mention (record_of id rs) (last_mention id (e ∷ []))
  created_each id kept = elim (cases_eq e.subject.id id) [
    | inl at ↦
        record_append id rs (e.subject ∷ [])
        ∙ ap (λ (o : Option Record). option_or o (record_of id (e.subject ∷ []))) (ap (λ (n : ℕ). record_of n rs) (sym at) ∙ not_yet)
        ∙ cond-true (eqb e.subject.id id) (Some e.subject) None (eq-eqb e.subject.id id at)
        ∙ sym (cond-false (is_deletion e.action) None (Some e.subject) kept)
        ∙ ap (by_mention (record_of id rs)) (sym (cond-true (eqb e.subject.id id) (Some e) None (eq-eqb e.subject.id id at)))
    | inr off ↦
        record_append id rs (e.subject ∷ [])
        ∙ ap (option_or (record_of id rs)) (cond-false (eqb e.subject.id id) (Some e.subject) None (ne_eqb e.subject.id id off))
        ∙ none_or (record_of id rs)
        ∙ ap (by_mention (record_of id rs)) (sym (cond-false (eqb e.subject.id id) (Some e) None (ne_eqb e.subject.id id off)))
  ]

  pub live_created : is_deletion e.action ≡ false → live rs (e ∷ []) ≡ rs ++ e.subject ∷ []
  live_created kept =
      only_live rs (e ∷ []) (rs ++ e.subject ∷ []) (climbed (ids rs) (climbs_left (ids rs) (e.subject.id ∷ []) up)) (record {
        rising = subst IsStrictlyIncreasing (sym ids_created) (climbed (ids rs ++ e.subject.id ∷ []) up);
        each = λ id. created_each id kept;
      })

-- ---- octets

pub octets_append : (xs ys : List Record) → records_octets (xs ++ ys) ≡ records_octets xs + records_octets ys
octets_append xs ys = sum_by-append (λ (r : Record). content_octets r.content) xs ys

pub octets_seam : (before : List Record) (held : Record) (after : List Record) → records_octets (before ++ held ∷ after) ≡ records_octets (before ++ after) + content_octets held.content
octets_seam before held after =
    let one : records_octets (held ∷ after) ≡ 0 + content_octets held.content + records_octets after = octets_append (held ∷ []) after in
    omega (arith, octets_append before (held ∷ after), octets_append before after, one)
