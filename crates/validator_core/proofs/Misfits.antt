-- What the first misfit can be, and what there is where there is none.
use Rattle.std.proofs.Common.{◌≡◌, ℕ, cond, Bool, true, false, List, [], ◌∷◌, ◌++◌, length, Option, Some, None, refl, ap, ◌∙◌, subst}
use Rattle.swima_model.specs.declared.event.Event.{Event}
use Rattle.swima_model.specs.declared.record.Record.{Record}
use Rattle.swima_model.specs.declared.report.Point.{Point}
use Rattle.swima_model.specs.History.{contradicts}
use Rattle.swima_model.specs.Live.{live}
use Rattle.swima_model.specs.Size.{records_octets, are_large}
use Rattle.validator_core.specs.declared.mirror.Taken.{Taken}
use Rattle.validator_core.specs.declared.mirror.Taken.TheVariants as taken
use Rattle.validator_core.specs.Held.{Held}
use Rattle.validator_core.specs.Following.{first_misfit_after, or_later, too_large, misfit}
use Rattle.validator_core.specs.Judge.{Judged, NeedsMemory, judge_above, marked}

-- ---- it is a contradiction, or too much

abbrev pub IsMisfit : Taken → Type 0
IsMisfit (taken.Contradiction eid) = Unit {0}
IsMisfit (taken.Large count octets) = Unit {0}
IsMisfit answer = ⊥

abbrev pub IsMisfitIfAny : Option Taken → Type 0
IsMisfitIfAny None = Unit {0}
IsMisfitIfAny (Some said) = IsMisfit said

large_misfit : (large : Bool) (count octets : ℕ) → IsMisfitIfAny (cond large (Some (taken.Large count octets)) None)
large_misfit true count octets = tt
large_misfit false count octets = tt

either_misfit : (unfit : Bool) (eid : ℕ) (behind : Option Taken) → IsMisfitIfAny behind → IsMisfitIfAny (cond unfit (Some (taken.Contradiction eid)) behind)
either_misfit true eid behind h = tt
either_misfit false eid behind h = h

later_misfit : (said later : Option Taken) → IsMisfitIfAny said → IsMisfitIfAny later → IsMisfitIfAny (or_later said later)
later_misfit (Some said) later h g = h
later_misfit None later h g = g

pub misfit_after : (base : List Record) (before events : List Event) → IsMisfitIfAny (first_misfit_after base before events)
misfit_after base before [] = tt
misfit_after base before (event ∷ later) =
    let behind : List Record = live base (before ++ event ∷ []) in
    later_misfit (misfit base before event) (first_misfit_after base (before ++ event ∷ []) later)
    (either_misfit (contradicts (live base before) event) event.eid (too_large behind) (large_misfit (are_large behind) (length behind) (records_octets behind)))
    (misfit_after base (before ++ event ∷ []) later)

-- ---- what is judged of it

judged_from : (mirror after : Held) (judged : Taken × Held) (answer : Taken) → (answer ≡ taken.Memory → ⊥) → judged ≡ (answer, after) → Judged mirror judged answer after
judged_from mirror after judged taken.WrongKind other e = e
judged_from mirror after judged taken.Stale other e = e
judged_from mirror after judged (taken.Doubled id) other e = e
judged_from mirror after judged (taken.Large count octets) other e = e
judged_from mirror after judged taken.Adopted other e = e
judged_from mirror after judged (taken.OtherEpoch have got) other e = e
judged_from mirror after judged (taken.Gap have got) other e = e
judged_from mirror after judged (taken.Contradiction eid) other e = e
judged_from mirror after judged (taken.Advanced from to) other e = e
judged_from mirror after judged taken.Memory other e = absurd (other refl)

advanced_no_memory : (from to : ℕ) (answer : Taken) → taken.Advanced from to ≡ answer → answer ≡ taken.Memory → ⊥
advanced_no_memory from to answer e f = absurd (cc)

misfit_no_memory : (said answer : Taken) → IsMisfit said → said ≡ answer → answer ≡ taken.Memory → ⊥
misfit_no_memory said answer h e f = subst IsMisfit (e ∙ f) h

-- Where events without a gap were judged so, the call answered as was judged.
pub judged_above : (mirror after : Held) (held : Point) (consulted : ℕ) (above : List Event) (found : Option Taken) (answer : Taken) → IsMisfitIfAny found
    → judge_above mirror held consulted above found ≡ (answer, after) → Judged mirror (judge_above mirror held consulted above found) answer after
judged_above mirror after held consulted above (Some said) answer h e =
    judged_from mirror after (said, marked mirror) answer (misfit_no_memory said answer h (ap (λ (j : Taken × Held). j.0) e)) e
judged_above mirror after held consulted above None answer h e =
    judged_from mirror after (judge_above mirror held consulted above None) answer (advanced_no_memory held.eid consulted answer (ap (λ (j : Taken × Held). j.0) e)) e

-- Out of memory may stand in place of what is judged.
misfit_needs_memory : (said : Taken) → IsMisfit said → NeedsMemory said
misfit_needs_memory (taken.Contradiction eid) h = tt
misfit_needs_memory (taken.Large count octets) h = tt
misfit_needs_memory taken.WrongKind h = absurd h
misfit_needs_memory taken.Stale h = absurd h
misfit_needs_memory (taken.Doubled id) h = absurd h
misfit_needs_memory taken.Adopted h = absurd h
misfit_needs_memory (taken.OtherEpoch have got) h = absurd h
misfit_needs_memory (taken.Gap have got) h = absurd h
misfit_needs_memory (taken.Advanced from to) h = absurd h
misfit_needs_memory taken.Memory h = absurd h

pub above_needs_memory : (mirror : Held) (held : Point) (consulted : ℕ) (above : List Event) (found : Option Taken) → IsMisfitIfAny found → NeedsMemory (judge_above mirror held consulted above found).0
above_needs_memory mirror held consulted above (Some said) h = misfit_needs_memory said h
above_needs_memory mirror held consulted above None h = tt
