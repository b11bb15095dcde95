-- What a mirror answers to a report, and what it holds then: the first line that fits. The table is
-- our own; its words are those of RFC 8412, section 3.7.
use Rattle.std.specs.Prelude.{◌≡◌, ◌==◌, ◌&&◌, ◌||◌, ℕ, Bool, true, false, not, List, length, Option, Some, None, nat_lt, nat_le, if◌then◌else◌}
use Rattle.swima_model.specs.declared.event.Event.{Event}
use Rattle.swima_model.specs.declared.record.Record.{Record}
use Rattle.swima_model.specs.declared.report.Kind.{Kind}
use Rattle.swima_model.specs.declared.report.Kind.TheVariants.{Ids, Full}
use Rattle.swima_model.specs.declared.report.Point.{Point}
use Rattle.swima_model.specs.declared.report.Report.{Report}
use Rattle.swima_model.specs.declared.report.Report.TheVariants.{Inventory, Events}
use Rattle.swima_model.specs.Doubled.{doubled}
use Rattle.swima_model.specs.InOrder.{ids, in_order}
use Rattle.swima_model.specs.Live.{live}
use Rattle.swima_model.specs.Size.{records_octets, are_large}
use Rattle.validator_core.specs.declared.mirror.Taken.{Taken}
use Rattle.validator_core.specs.declared.mirror.Taken.TheVariants as taken
use Rattle.validator_core.specs.Held.{Held}
use Rattle.validator_core.specs.Following.{events_above, gap, first_misfit}

-- Two kinds are one.
abbrev pub same_kind : Kind → Kind → Bool
same_kind Ids Ids = true
same_kind Ids Full = false
same_kind Full Ids = false
same_kind Full Full = true

-- What is held, with the mark set.
abbrev pub marked : Held → Held
marked mirror = record mirror { off = true }

-- ---- an inventory (RFC 8412, section 5.7)

-- An inventory of this point has nothing new. It is of the epoch that is held, and its event
-- identifier is below the one that is held, or the same while the mark is not set.
abbrev pub is_stale : Option Point → Bool → Point → Bool
is_stale None off point = false
is_stale (Some held) off point = (point.epoch == held.epoch) && (nat_lt point.eid held.eid || ((point.eid == held.eid) && not off))

-- Records without a doubled identifier: too many, or taken in place of what was held.
abbrev pub judge_distinct : Held → Point → List Record → Taken × Held
judge_distinct mirror point records =
    if are_large records then (taken.Large (length records) (records_octets records), marked mirror)
    else (taken.Adopted, record mirror { point = Some point; records = in_order records; off = false })

-- Records of which the smallest doubled identifier is given.
abbrev pub judge_records : Held → Point → List Record → Option ℕ → Taken × Held
judge_records mirror point records (Some id) = (taken.Doubled id, marked mirror)
judge_records mirror point records None = judge_distinct mirror point records

-- An inventory: of the wrong kind, stale, or one whose records are judged.
abbrev pub judge_inventory : Held → Kind → Point → List Record → Taken × Held
judge_inventory mirror kind point records =
    if not (same_kind kind mirror.kind) then (taken.WrongKind, mirror)
    else (if is_stale mirror.point mirror.off point then (taken.Stale, mirror)
    else judge_records mirror point records (doubled (ids records)))

-- ---- events (RFC 8412, section 5.8)

-- The events above the one that is held, of which the first that does not fit is given: all of them
-- are followed, and the mirror stands at the last that was consulted.
abbrev pub judge_above : Held → Point → ℕ → List Event → Option Taken → Taken × Held
judge_above mirror held consulted above (Some misfit) = (misfit, marked mirror)
judge_above mirror held consulted above None = (
  taken.Advanced held.eid consulted,
  record mirror { point = Some (record held { eid = consulted }); records = live mirror.records above },
)

-- Events that were consulted up to above the one that is held, of which the first gap is given.
abbrev pub judge_numbered : Held → Point → ℕ → List Event → Option ℕ → Taken × Held
judge_numbered mirror held consulted events (Some got) = (taken.Gap held.eid got, marked mirror)
judge_numbered mirror held consulted events None =
    judge_above mirror held consulted (events_above held.eid events) (first_misfit mirror.records (events_above held.eid events))

-- Events of an epoch, over the point that is held.
abbrev pub judge_events_at : Held → ℕ → ℕ → List Event → Option Point → Taken × Held
judge_events_at mirror epoch consulted events None = (taken.OtherEpoch None epoch, marked mirror)
judge_events_at mirror epoch consulted events (Some held) =
    if not (epoch == held.epoch) then (taken.OtherEpoch (Some held.epoch) epoch, marked mirror)
    else (if nat_le consulted held.eid then (taken.Stale, mirror)
    else judge_numbered mirror held consulted events (gap held.eid consulted events))

-- Events: of the wrong kind, or judged over the mirror's point.
abbrev pub judge_events : Held → Kind → ℕ → ℕ → List Event → Taken × Held
judge_events mirror kind epoch consulted events =
    if not (same_kind kind mirror.kind) then (taken.WrongKind, mirror)
    else judge_events_at mirror epoch consulted events mirror.point

-- ---- a report

-- The answer to a report, and the mirror then.
abbrev pub judge : Held → Report → Taken × Held
judge mirror (Inventory kind fulfil id point records) = judge_inventory mirror kind point records
judge mirror (Events kind fulfil id point consulted events) = judge_events mirror kind point.epoch consulted events

-- `Memory` may come in place of this answer.
abbrev pub NeedsMemory : Taken → Type 0
NeedsMemory taken.WrongKind = ⊥
NeedsMemory taken.Stale = ⊥
NeedsMemory (taken.OtherEpoch have got) = ⊥
NeedsMemory (taken.Gap have got) = ⊥
NeedsMemory answer = Unit {0}

-- A call answered, and left the mirror, as was judged; or memory ran out for that, and the
-- mirror is as it was.
abbrev pub Judged : Held → Taken × Held → Taken → Held → Type 0
Judged before judged taken.Memory after = NeedsMemory judged.0 × (after ≡ before)
Judged before judged answer after = judged ≡ (answer, after)

-- The mirror stands at the report's point after `Adopted`, at the last event of its epoch that was
-- consulted after `Advanced`, and where it stood after every other answer.
abbrev pub StandsAt : Held → Report → Taken → Held → Type 0
StandsAt before (Inventory kind fulfil id point records) taken.Adopted after = after.point ≡ Some point
StandsAt before (Events kind fulfil id point consulted events) (taken.Advanced from to) after =
    after.point ≡ Some (record point { eid = consulted })
StandsAt before report answer after = after.point ≡ before.point
