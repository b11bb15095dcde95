-- Where a mirror stands after an answer, and what it holds.
use Rattle.std.proofs.Common.{◌≡◌, ℕ, eqb, leb, ltb, cond, false, true, not, List, [], length, Option, Some, None, refl, sym, ap, ap₂, ◌∙◌, subst, arith, eqb-true, ltb-false}
use Rattle.std.proofs.lemmas.Bool.{cond-false, cond-true, cond_both, not-false, or_parts}
use Rattle.std.specs.List.Sorted.{IsStrictlyIncreasing}
use Rattle.std.proofs.lemmas.List.Sorted.{sum_by-IsPermutation}
use Rattle.swima_model.specs.Doubled.{doubled}
use Rattle.swima_model.specs.InOrder.{ids, in_order}
use Rattle.swima_model.specs.Live.{live}
use Rattle.swima_model.specs.Repeated.{IsLeastRepeated}
use Rattle.swima_model.specs.Size.{content_octets, is_large, records_octets}
use Rattle.swima_model.specs.declared.event.Event.{Event}
use Rattle.swima_model.specs.declared.record.Record.{Record}
use Rattle.swima_model.specs.declared.report.Kind.{Kind}
use Rattle.swima_model.specs.declared.report.Point.{Point}
use Rattle.swima_model.specs.declared.report.Report.{Report}
use Rattle.swima_model.specs.declared.report.Report.TheVariants.{Inventory, Events}
use Rattle.swima_model.proofs.Living.{live_rises}
use Rattle.swima_model.proofs.Placing.{in_order_permutation, in_order_rising_permutation, length_in_order}
use Rattle.swima_model.proofs.Repeats.{found_doubled}
use Rattle.validator_core.specs.declared.mirror.Taken.{Taken}
use Rattle.validator_core.specs.declared.mirror.Taken.TheVariants as taken
use Rattle.validator_core.specs.Following.{events_above, first_misfit, gap}
use Rattle.validator_core.specs.Held.{Held}
use Rattle.validator_core.specs.Kept.{IsRising, JudgeKeepsRising}
use Rattle.validator_core.specs.Placed.{AreInOrder, ids_of}
use Rattle.validator_core.specs.Weighed.{AreWeighed}
use Rattle.validator_core.specs.declared.order.Placed.{Placed}
use Rattle.validator_core.specs.Judge.{Judged, StandsAt, is_stale, judge, judge_above, judge_events, judge_events_at, judge_inventory, judge_numbered, judge_records, marked, same_kind}
use Rattle.validator_core.proofs.Misfits.{IsMisfit, IsMisfitIfAny, misfit_after}

-- ---- what holds of each line of the table holds of what is judged

each_records_line : (P : Taken × Held → Type 0) (mirror : Held) (point : Point) (records : List Record) (found : Option ℕ) → doubled (ids records) ≡ found
    → ((id : ℕ) → P (taken.Doubled id, marked mirror))
    → P (taken.Large (length records) (records_octets records), marked mirror)
    → (doubled (ids records) ≡ None → P (taken.Adopted, record mirror { point = Some point; records = in_order records; off = false }))
    → P (judge_records mirror point records found)
each_records_line P mirror point records (Some least) e twice large adopted = twice least
each_records_line P mirror point records None e twice large adopted =
    cond_both (is_large (length records) (records_octets records)) (taken.Large (length records) (records_octets records), marked mirror)
    (taken.Adopted, record mirror { point = Some point; records = in_order records; off = false }) P (λ _. large) (λ _. adopted e)

pub each_line : (P : Taken × Held → Type 0) (mirror : Held) (kind : Kind) (point : Point) (records : List Record)
    → P (taken.WrongKind, mirror)
    → P (taken.Stale, mirror)
    → ((id : ℕ) → P (taken.Doubled id, marked mirror))
    → P (taken.Large (length records) (records_octets records), marked mirror)
    → (doubled (ids records) ≡ None → P (taken.Adopted, record mirror { point = Some point; records = in_order records; off = false }))
    → P (judge_inventory mirror kind point records)
each_line P mirror kind point records wrong stale twice large adopted =
    let found = doubled (ids records) in
    let taken_up = judge_records mirror point records found in
    let behind = is_stale mirror.point mirror.off point in
    cond_both (not (same_kind kind mirror.kind)) (taken.WrongKind, mirror) (cond behind (taken.Stale, mirror) taken_up) P (λ _. wrong)
    (λ _. cond_both behind (taken.Stale, mirror) taken_up P (λ _. stale) (λ _. each_records_line P mirror point records found refl twice large adopted))

-- What a mirror holds that has followed the events above the one that it held.
abbrev pub followed : Held → Point → ℕ → List Event → Held
followed mirror held consulted above = record mirror { point = Some (record held { eid = consulted }); records = live mirror.records above }

each_above_line : (P : Taken × Held → Type 0) (mirror : Held) (held : Point) (consulted : ℕ) (above : List Event) (found : Option Taken) → IsMisfitIfAny found
    → ((said : Taken) → IsMisfit said → P (said, marked mirror))
    → P (taken.Advanced held.eid consulted, followed mirror held consulted above)
    → P (judge_above mirror held consulted above found)
each_above_line P mirror held consulted above (Some said) h misfit advanced = misfit said h
each_above_line P mirror held consulted above None h misfit advanced = advanced

each_numbered_line : (P : Taken × Held → Type 0) (mirror : Held) (held : Point) (consulted : ℕ) (events : List Event) (found : Option ℕ)
    → ((have got : ℕ) → P (taken.Gap have got, marked mirror))
    → ((said : Taken) → IsMisfit said → P (said, marked mirror))
    → P (taken.Advanced held.eid consulted, followed mirror held consulted (events_above held.eid events))
    → P (judge_numbered mirror held consulted events found)
each_numbered_line P mirror held consulted events (Some got) gaps misfit advanced = gaps held.eid got
each_numbered_line P mirror held consulted events None gaps misfit advanced =
    let above = events_above held.eid events in
    each_above_line P mirror held consulted above (first_misfit mirror.records above) (misfit_after mirror.records [] above) misfit advanced

each_events_line_at : (P : Taken × Held → Type 0) (mirror : Held) (epoch consulted : ℕ) (events : List Event) (at : Option Point)
    → ((have : Option ℕ) → P (taken.OtherEpoch have epoch, marked mirror))
    → P (taken.Stale, mirror)
    → ((have got : ℕ) → P (taken.Gap have got, marked mirror))
    → ((said : Taken) → IsMisfit said → P (said, marked mirror))
    → ((held : Point) → at ≡ Some held → epoch ≡ held.epoch → P (taken.Advanced held.eid consulted, followed mirror held consulted (events_above held.eid events)))
    → P (judge_events_at mirror epoch consulted events at)
each_events_line_at P mirror epoch consulted events None other stale gaps misfit advanced = other None
each_events_line_at P mirror epoch consulted events (Some held) other stale gaps misfit advanced =
    let numbered = judge_numbered mirror held consulted events (gap held.eid consulted events) in
    let of_epoch = cond (leb consulted held.eid) (taken.Stale, mirror) numbered in
    cond_both (not (eqb epoch held.epoch)) (taken.OtherEpoch (Some held.epoch) epoch, marked mirror) of_epoch P (λ _. other (Some held.epoch))
    (λ same. cond_both (leb consulted held.eid) (taken.Stale, mirror) numbered P (λ _. stale)
    (λ _. each_numbered_line P mirror held consulted events (gap held.eid consulted events) gaps misfit
    (advanced held refl (eqb-true epoch held.epoch (not-false (eqb epoch held.epoch) same)))))

pub each_events_line : (P : Taken × Held → Type 0) (mirror : Held) (kind : Kind) (epoch consulted : ℕ) (events : List Event)
    → P (taken.WrongKind, mirror)
    → ((have : Option ℕ) → P (taken.OtherEpoch have epoch, marked mirror))
    → P (taken.Stale, mirror)
    → ((have got : ℕ) → P (taken.Gap have got, marked mirror))
    → ((said : Taken) → IsMisfit said → P (said, marked mirror))
    → ((held : Point) → mirror.point ≡ Some held → epoch ≡ held.epoch → P (taken.Advanced held.eid consulted, followed mirror held consulted (events_above held.eid events)))
    → P (judge_events mirror kind epoch consulted events)
each_events_line P mirror kind epoch consulted events wrong other stale gaps misfit advanced =
    cond_both (not (same_kind kind mirror.kind)) (taken.WrongKind, mirror) (judge_events_at mirror epoch consulted events mirror.point) P (λ _. wrong)
    (λ _. each_events_line_at P mirror epoch consulted events mirror.point other stale gaps misfit advanced)

-- ---- where a mirror stands

abbrev Stands : Held → Report → Taken × Held → Type 0
Stands before report judged = StandsAt before report judged.0 judged.1

misfit_stands : (mirror after : Held) (report : Report) (said : Taken) → IsMisfit said → after.point ≡ mirror.point → StandsAt mirror report said after
misfit_stands mirror after (Inventory kind fulfil id point records) (taken.Contradiction eid) h e = e
misfit_stands mirror after (Inventory kind fulfil id point records) (taken.Large count octets) h e = e
misfit_stands mirror after (Events kind fulfil id point consulted events) (taken.Contradiction eid) h e = e
misfit_stands mirror after (Events kind fulfil id point consulted events) (taken.Large count octets) h e = e
misfit_stands mirror after report taken.WrongKind h e = absurd h
misfit_stands mirror after report taken.Stale h e = absurd h
misfit_stands mirror after report (taken.Doubled twice) h e = absurd h
misfit_stands mirror after report taken.Adopted h e = absurd h
misfit_stands mirror after report (taken.OtherEpoch have got) h e = absurd h
misfit_stands mirror after report (taken.Gap have got) h e = absurd h
misfit_stands mirror after report (taken.Advanced from to) h e = absurd h
misfit_stands mirror after report taken.Memory h e = absurd h

judged_stands : (mirror : Held) (report : Report) → Stands mirror report (judge mirror report)
judged_stands mirror (Inventory kind fulfil id point records) =
    each_line (Stands mirror (Inventory kind fulfil id point records)) mirror kind point records refl refl (λ _. refl) refl (λ _. refl)
judged_stands mirror (Events kind fulfil id point consulted events) =
    each_events_line (Stands mirror (Events kind fulfil id point consulted events)) mirror kind point.epoch consulted events refl (λ _. refl) refl (λ _ _. refl)
    (λ said h. misfit_stands mirror (marked mirror) (Events kind fulfil id point consulted events) said h refl)
    (λ held _ same. ap (λ (epoch : ℕ). Some (record point { epoch = epoch; eid = consulted })) (sym same))

pub answered_stands : (before : Held) (report : Report) (answer : Taken) (after : Held) → Judged before (judge before report) answer after → StandsAt before report answer after
answered_stands before report taken.WrongKind after h = subst (Stands before report) h (judged_stands before report)
answered_stands before report taken.Stale after h = subst (Stands before report) h (judged_stands before report)
answered_stands before report (taken.Doubled id) after h = subst (Stands before report) h (judged_stands before report)
answered_stands before report (taken.Large count octets) after h = subst (Stands before report) h (judged_stands before report)
answered_stands before report taken.Adopted after h = subst (Stands before report) h (judged_stands before report)
answered_stands before report (taken.OtherEpoch have got) after h = subst (Stands before report) h (judged_stands before report)
answered_stands before report (taken.Gap have got) after h = subst (Stands before report) h (judged_stands before report)
answered_stands before report (taken.Contradiction eid) after h = subst (Stands before report) h (judged_stands before report)
answered_stands before report (taken.Advanced from to) after h = subst (Stands before report) h (judged_stands before report)
answered_stands before (Inventory kind fulfil id point records) taken.Memory after h = ap (λ (mirror : Held). mirror.point) h.1
answered_stands before (Events kind fulfil id point consulted events) taken.Memory after h = ap (λ (mirror : Held). mirror.point) h.1

-- ---- what a mirror holds

-- What is judged holds each identifier below the next, where that was so before.
pub judge_keeps_rising : JudgeKeepsRising
judge_keeps_rising mirror (Inventory kind fulfil id point records) up =
    each_line (λ (judged : Taken × Held). IsRising judged.1) mirror kind point records up up (λ _. up) up (in_order_rising_permutation records).strict
judge_keeps_rising mirror (Events kind fulfil id point consulted events) up =
    each_events_line (λ (judged : Taken × Held). IsRising judged.1) mirror kind point.epoch consulted events up (λ _. up) up (λ _ _. up) (λ _ _. up)
    (λ held _ _. live_rises mirror.records (events_above held.eid events) up)

-- The smallest doubled identifier is the one that is found among the identifiers in order.
pub doubled_in_order : (records given : List Record) (places seen : List Placed) (found : Option ℕ) → given ≡ records → seen ≡ places
    → AreInOrder given places → IsLeastRepeated (ids_of seen) found → doubled (ids records) ≡ found
doubled_in_order records given places seen found all same order least =
    ap (λ (rs : List Record). doubled (ids rs)) (sym all)
    ∙ sym (found_doubled (ids given) (ids_of places) found order.same (subst (λ (ps : List Placed). IsLeastRepeated (ids_of ps) found) same least))

-- Records are refused for a doubled identifier, or because they are too large, or taken.
pub twice : (mirror : Held) (point : Point) (records : List Record) (id : ℕ) → doubled (ids records) ≡ Some id
    → judge_records mirror point records (doubled (ids records)) ≡ (taken.Doubled id, marked mirror)
twice mirror point records id is = ap (judge_records mirror point records) is

pub too_large : (mirror : Held) (point : Point) (records : List Record) (count octets : ℕ) → count ≡ length records → octets ≡ records_octets records → is_large count octets ≡ true
    → doubled (ids records) ≡ None → judge_records mirror point records (doubled (ids records)) ≡ (taken.Large count octets, marked mirror)
too_large mirror point records count octets counted weighed large distinct =
    ap (judge_records mirror point records) distinct ∙ cond-true (is_large (length records) (records_octets records)) _ _ (ap₂ is_large (sym counted) (sym weighed) ∙ large)
    ∙ ap₂ (λ (n k : ℕ). (taken.Large n k, marked mirror)) (sym counted) (sym weighed)

pub adopted : (mirror : Held) (point : Point) (records ordered : List Record) (count octets : ℕ) → count ≡ length records → octets ≡ records_octets records → is_large count octets ≡ false
    → doubled (ids records) ≡ None → ordered ≡ in_order records
    → judge_records mirror point records (doubled (ids records)) ≡ (taken.Adopted, record mirror { point = Some point; records = ordered; off = false })
adopted mirror point records ordered count octets counted weighed fits distinct order =
    ap (judge_records mirror point records) distinct ∙ cond-false (is_large (length records) (records_octets records)) _ _ (ap₂ is_large (sym counted) (sym weighed) ∙ fits)
    ∙ ap (λ (rs : List Record). (taken.Adopted, record mirror { point = Some point; records = rs; off = false })) (sym order)

-- They fit into a mirror in their order.
pub weighed_in_order : (records ordered : List Record) (count octets : ℕ) → count ≡ length records → octets ≡ records_octets records → is_large count octets ≡ false
    → doubled (ids records) ≡ None → ordered ≡ in_order records → AreWeighed ordered octets
weighed_in_order records ordered count octets counted weighed fits distinct order =
    let both = or_parts (ltb 65536 count) (ltb 268435456 octets) fits in
    record {
      rising = subst (λ (rs : List Record). IsStrictlyIncreasing (ids rs)) (sym order) ((in_order_rising_permutation records).strict distinct);
      few = omega (arith, ltb-false 65536 count both.0, counted, length_in_order records, ap (λ (rs : List Record). length rs) order);
      counted =
          weighed ∙ sym (sum_by-IsPermutation (λ (r : Record). content_octets r.content) records (in_order records) (in_order_permutation records))
          ∙ ap records_octets (sym order);
      within = omega (arith, ltb-false 268435456 octets both.1);
    }
