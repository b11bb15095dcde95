-- A report that is judged a second time changes nothing, line by line of the table.
use Rattle.std.proofs.Common.{◌≡◌, ◌∙◌, ℕ, eqb, leb, cond, Bool, true, false, not, List, length, Option, Some, None, refl, ap, arith}
use Rattle.std.proofs.lemmas.Bool.{cond-true, cond-false, cond_both, le-leb}
use Rattle.swima_model.specs.Doubled.{doubled}
use Rattle.swima_model.specs.InOrder.{ids, in_order}
use Rattle.swima_model.specs.Size.{are_large, records_octets}
use Rattle.swima_model.specs.declared.event.Event.{Event}
use Rattle.swima_model.specs.declared.record.Record.{Record}
use Rattle.swima_model.specs.declared.report.Kind.{Kind}
use Rattle.swima_model.specs.declared.report.Point.{Point}
use Rattle.swima_model.specs.declared.report.Report.TheVariants.{Inventory, Events}
use Rattle.validator_core.specs.declared.mirror.Taken.{Taken}
use Rattle.validator_core.specs.declared.mirror.Taken.TheVariants as taken
use Rattle.validator_core.specs.Following.{events_above, first_misfit, gap}
use Rattle.validator_core.specs.Held.{Held}
use Rattle.validator_core.specs.Judge.{is_stale, judge_above, judge_events, judge_events_at, judge_inventory, judge_numbered, judge_records, marked, same_kind}
use Rattle.validator_core.specs.Kept.{JudgedAgainChangesNothing}
use Rattle.validator_core.proofs.Judging.{followed}

-- What was judged leaves the mirror so.
abbrev Leaves : Held → Taken × Held → Type 0
Leaves mirror judged = judged.1 ≡ mirror

-- ---- an inventory

-- Records without a doubled identifier, which are too many or are not.
abbrev distinct : Held → Point → List Record → Bool → Taken × Held
distinct mirror point records large =
    cond large (taken.Large (length records) (records_octets records), marked mirror) (taken.Adopted, record mirror { point = Some point; records = in_order records; off = false })

distinct_again : (mirror : Held) (point : Point) (records : List Record) (large : Bool)
    → (distinct (distinct mirror point records large).1 point records large).1 ≡ (distinct mirror point records large).1
distinct_again mirror point records true = refl
distinct_again mirror point records false = refl

records_again : (mirror : Held) (point : Point) (records : List Record) (found : Option ℕ)
    → (judge_records (judge_records mirror point records found).1 point records found).1 ≡ (judge_records mirror point records found).1
records_again mirror point records (Some id) = refl
records_again mirror point records None = distinct_again mirror point records (are_large records)

-- An inventory changes nothing where its records do not.
inventory_leaves : (mirror : Held) (kind : Kind) (point : Point) (records : List Record)
    → Leaves mirror (judge_records mirror point records (doubled (ids records))) → Leaves mirror (judge_inventory mirror kind point records)
inventory_leaves mirror kind point records h =
    let found = judge_records mirror point records (doubled (ids records)) in
    let stale = is_stale mirror.point mirror.off point in
    cond_both (not (same_kind kind mirror.kind)) (taken.WrongKind, mirror) (cond stale (taken.Stale, mirror) found) (Leaves mirror) (λ _. refl)
    (λ _. cond_both stale (taken.Stale, mirror) found (Leaves mirror) (λ _. refl) (λ _. h))

inventory_again : (mirror : Held) (kind : Kind) (point : Point) (records : List Record)
    → (judge_inventory (judge_inventory mirror kind point records).1 kind point records).1 ≡ (judge_inventory mirror kind point records).1
inventory_again mirror kind point records =
    let found = judge_records mirror point records (doubled (ids records)) in
    let other = not (same_kind kind mirror.kind) in
    let stale = is_stale mirror.point mirror.off point in
    let later = cond stale (taken.Stale, mirror) found in
    let again = λ (judged : Taken × Held). Leaves judged.1 (judge_inventory judged.1 kind point records) in
    let held = λ (judged : Taken × Held). judged.1 in
    cond_both other (taken.WrongKind, mirror) later again (λ is. ap held (cond-true other (taken.WrongKind, mirror) later is))
    (λ same. cond_both stale (taken.Stale, mirror) found again
    (λ is. ap held (cond-false other (taken.WrongKind, mirror) later same ∙ cond-true stale (taken.Stale, mirror) found is))
    (λ _. inventory_leaves found.1 kind point records (records_again mirror point records (doubled (ids records)))))

-- ---- events

-- Where the mark is set, events change nothing, unless they are followed.
marked_leaves : (mirror : Held) (epoch consulted : ℕ) (events : List Event) (held : Point)
    → Leaves (marked mirror) (judge_numbered (marked mirror) held consulted events (gap held.eid consulted events))
    → Leaves (marked mirror) (judge_events_at (marked mirror) epoch consulted events (Some held))
marked_leaves mirror epoch consulted events held h =
    let numbered = judge_numbered (marked mirror) held consulted events (gap held.eid consulted events) in
    let of_epoch = cond (leb consulted held.eid) (taken.Stale, marked mirror) numbered in
    cond_both (not (eqb epoch held.epoch)) (taken.OtherEpoch (Some held.epoch) epoch, marked mirror) of_epoch (Leaves (marked mirror)) (λ _. refl)
    (λ _. cond_both (leb consulted held.eid) (taken.Stale, marked mirror) numbered (Leaves (marked mirror)) (λ _. refl) (λ _. h))

-- Events that were followed are stale.
followed_leaves : (mirror : Held) (epoch consulted : ℕ) (events above : List Event) (held : Point) → not (eqb epoch held.epoch) ≡ false
    → Leaves (followed mirror held consulted above) (judge_events_at (followed mirror held consulted above) epoch consulted events (Some (record held { eid = consulted })))
followed_leaves mirror epoch consulted events above held same =
    let now = followed mirror held consulted above in
    let numbered = judge_numbered now (record held { eid = consulted }) consulted events (gap consulted consulted events) in
    let of_epoch = cond (leb consulted consulted) (taken.Stale, now) numbered in
    ap (λ (judged : Taken × Held). judged.1)
    (cond-false (not (eqb epoch held.epoch)) (taken.OtherEpoch (Some held.epoch) epoch, marked now) of_epoch same
    ∙ cond-true (leb consulted consulted) (taken.Stale, now) numbered (le-leb consulted consulted (omega arith)))

-- What was judged of events of an epoch leaves a mirror that they do not change.
abbrev AreDone : ℕ → ℕ → List Event → Taken × Held → Type 0
AreDone epoch consulted events judged = Leaves judged.1 (judge_events_at judged.1 epoch consulted events judged.1.point)

above_again : (mirror : Held) (held : Point) (epoch consulted : ℕ) (events : List Event) (found : Option Taken) → mirror.point ≡ Some held
    → not (eqb epoch held.epoch) ≡ false → gap held.eid consulted events ≡ None → first_misfit mirror.records (events_above held.eid events) ≡ found
    → AreDone epoch consulted events (judge_above mirror held consulted (events_above held.eid events) found)
above_again mirror held epoch consulted events (Some said) at same none is =
    let now = marked mirror in
    let above = events_above held.eid events in
    ap (λ (point : Option Point). (judge_events_at now epoch consulted events point).1) at
    ∙ marked_leaves mirror epoch consulted events held
    (ap (λ (got : Option ℕ). (judge_numbered now held consulted events got).1) none
    ∙ ap (λ (misfit : Option Taken). (judge_above now held consulted above misfit).1) is)
above_again mirror held epoch consulted events None at same none is =
    followed_leaves mirror epoch consulted events (events_above held.eid events) held same

numbered_again : (mirror : Held) (held : Point) (epoch consulted : ℕ) (events : List Event) (found : Option ℕ) → mirror.point ≡ Some held
    → not (eqb epoch held.epoch) ≡ false → gap held.eid consulted events ≡ found
    → AreDone epoch consulted events (judge_numbered mirror held consulted events found)
numbered_again mirror held epoch consulted events (Some got) at same is =
    ap (λ (point : Option Point). (judge_events_at (marked mirror) epoch consulted events point).1) at
    ∙ marked_leaves mirror epoch consulted events held (ap (λ (found : Option ℕ). (judge_numbered (marked mirror) held consulted events found).1) is)
numbered_again mirror held epoch consulted events None at same is =
    above_again mirror held epoch consulted events (first_misfit mirror.records (events_above held.eid events)) at same is refl

at_again : (mirror : Held) (epoch consulted : ℕ) (events : List Event) (point : Option Point) → mirror.point ≡ point
    → AreDone epoch consulted events (judge_events_at mirror epoch consulted events point)
at_again mirror epoch consulted events None at = ap (λ (point : Option Point). (judge_events_at (marked mirror) epoch consulted events point).1) at
at_again mirror epoch consulted events (Some held) at =
    let numbered = judge_numbered mirror held consulted events (gap held.eid consulted events) in
    let other = not (eqb epoch held.epoch) in
    let stale = leb consulted held.eid in
    let of_epoch = cond stale (taken.Stale, mirror) numbered in
    let outside : Held → Taken × Held = λ now. (taken.OtherEpoch (Some held.epoch) epoch, marked now) in
    let held_at = λ (now : Held) (at : Option Point). (judge_events_at now epoch consulted events at).1 in
    let after = λ (judged : Taken × Held). judged.1 in
    let marked_of_epoch = cond stale (taken.Stale, marked mirror) (judge_numbered (marked mirror) held consulted events (gap held.eid consulted events)) in
    cond_both other (outside mirror) of_epoch (AreDone epoch consulted events)
    (λ is. ap (held_at (marked mirror)) at ∙ ap after (cond-true other (outside (marked mirror)) marked_of_epoch is))
    (λ same. cond_both stale (taken.Stale, mirror) numbered (AreDone epoch consulted events)
    (λ is. ap (held_at mirror) at ∙ ap after (cond-false other (outside mirror) of_epoch same ∙ cond-true stale (taken.Stale, mirror) numbered is))
    (λ _. numbered_again mirror held epoch consulted events (gap held.eid consulted events) at same refl))

-- Events change nothing where those of their epoch do not.
events_leave : (mirror : Held) (kind : Kind) (epoch consulted : ℕ) (events : List Event) → Leaves mirror (judge_events_at mirror epoch consulted events mirror.point)
    → Leaves mirror (judge_events mirror kind epoch consulted events)
events_leave mirror kind epoch consulted events h =
    cond_both (not (same_kind kind mirror.kind)) (taken.WrongKind, mirror) (judge_events_at mirror epoch consulted events mirror.point) (Leaves mirror) (λ _. refl) (λ _. h)

events_again : (mirror : Held) (kind : Kind) (epoch consulted : ℕ) (events : List Event)
    → (judge_events (judge_events mirror kind epoch consulted events).1 kind epoch consulted events).1 ≡ (judge_events mirror kind epoch consulted events).1
events_again mirror kind epoch consulted events =
    let other = not (same_kind kind mirror.kind) in
    let of_kind = judge_events_at mirror epoch consulted events mirror.point in
    cond_both other (taken.WrongKind, mirror) of_kind (λ (judged : Taken × Held). Leaves judged.1 (judge_events judged.1 kind epoch consulted events))
    (λ is. ap (λ (judged : Taken × Held). judged.1) (cond-true other (taken.WrongKind, mirror) of_kind is))
    (λ _. events_leave of_kind.1 kind epoch consulted events (at_again mirror epoch consulted events mirror.point refl))

-- ---- a report

pub judged_again_changes_nothing : JudgedAgainChangesNothing
judged_again_changes_nothing mirror (Inventory kind fulfil id point records) = inventory_again mirror kind point records
judged_again_changes_nothing mirror (Events kind fulfil id point consulted events) = events_again mirror kind point.epoch consulted events
