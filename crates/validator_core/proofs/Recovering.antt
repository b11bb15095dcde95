-- The mark of a mirror stays until an inventory is adopted.
use Rattle.std.proofs.Common.{◌≡◌, Bool, true, false, List, [], ◌∷◌, Option, Some, None, refl, sym, ap, ◌∙◌, subst}
use Rattle.std.specs.Prelude.{◌≢◌}
use Rattle.swima_model.specs.declared.report.Point.{Point}
use Rattle.swima_model.specs.declared.report.Report.{Report}
use Rattle.swima_model.specs.declared.report.Report.TheVariants.{Inventory, Events}
use Rattle.validator_core.specs.declared.mirror.Taken.{Taken}
use Rattle.validator_core.specs.declared.mirror.Taken.TheVariants as taken
use Rattle.validator_core.specs.declared.mirror.want.Want.TheVariants as wanted
use Rattle.validator_core.specs.Held.{Held}
use Rattle.validator_core.specs.Judge.{Judged, judge}
use Rattle.validator_core.specs.Recovery.{MarkStaysUntilAdopted, NoneAdopted, SetsMark, TakesAll, mark_after}
use Rattle.validator_core.specs.Want.{want, want_at}
use Rattle.validator_core.proofs.Judging.{each_events_line, each_line}
use Rattle.validator_core.proofs.Misfits.{IsMisfit}

-- ---- after one report

abbrev MarkIs : Held → Taken × Held → Type 0
MarkIs before judged = judged.1.off ≡ mark_after before.off judged.0

misfit_sets : (off : Bool) (said : Taken) → IsMisfit said → true ≡ mark_after off said
misfit_sets off (taken.Contradiction eid) h = refl
misfit_sets off (taken.Large count octets) h = refl
misfit_sets off taken.WrongKind h = absurd h
misfit_sets off taken.Stale h = absurd h
misfit_sets off (taken.Doubled twice) h = absurd h
misfit_sets off taken.Adopted h = absurd h
misfit_sets off (taken.OtherEpoch have got) h = absurd h
misfit_sets off (taken.Gap have got) h = absurd h
misfit_sets off (taken.Advanced from to) h = absurd h
misfit_sets off taken.Memory h = absurd h

pub judged_mark : (before : Held) (report : Report) → (judge before report).1.off ≡ mark_after before.off (judge before report).0
judged_mark before (Inventory kind fulfil id point records) = each_line (MarkIs before) before kind point records refl refl (λ _. refl) refl (λ _. refl)
judged_mark before (Events kind fulfil id point consulted events) =
    each_events_line (MarkIs before) before kind point.epoch consulted events refl (λ _. refl) refl (λ _ _. refl) (misfit_sets before.off) (λ _ _ _. refl)

answered_mark : (before : Held) (report : Report) (answer : Taken) (after : Held) → Judged before (judge before report) answer after → after.off ≡ mark_after before.off answer
answered_mark before report taken.WrongKind after h = subst (MarkIs before) h (judged_mark before report)
answered_mark before report taken.Stale after h = subst (MarkIs before) h (judged_mark before report)
answered_mark before report (taken.Doubled id) after h = subst (MarkIs before) h (judged_mark before report)
answered_mark before report (taken.Large count octets) after h = subst (MarkIs before) h (judged_mark before report)
answered_mark before report taken.Adopted after h = subst (MarkIs before) h (judged_mark before report)
answered_mark before report (taken.OtherEpoch have got) after h = subst (MarkIs before) h (judged_mark before report)
answered_mark before report (taken.Gap have got) after h = subst (MarkIs before) h (judged_mark before report)
answered_mark before report (taken.Contradiction eid) after h = subst (MarkIs before) h (judged_mark before report)
answered_mark before report (taken.Advanced from to) after h = subst (MarkIs before) h (judged_mark before report)
answered_mark before report taken.Memory after h = ap (λ (mirror : Held). mirror.off) h.1

-- ---- after further ones

-- Every answer except `Adopted` leaves a mark that is set.
pub mark_stays : (answer : Taken) → answer ≢ taken.Adopted → mark_after true answer ≡ true
mark_stays taken.WrongKind h = refl
mark_stays taken.Stale h = refl
mark_stays (taken.Doubled id) h = refl
mark_stays (taken.Large count octets) h = refl
mark_stays taken.Adopted h = absurd (h refl)
mark_stays (taken.OtherEpoch have got) h = refl
mark_stays (taken.Gap have got) h = refl
mark_stays (taken.Contradiction eid) h = refl
mark_stays (taken.Advanced from to) h = refl
mark_stays taken.Memory h = refl

-- An answer that sets the mark does so whatever it was.
pub mark_is_set : (off : Bool) (answer : Taken) → SetsMark answer → mark_after off answer ≡ true
mark_is_set false answer sets = sets
mark_is_set true answer sets = mark_stays answer (λ adopted. not_set (sym (ap (mark_after false) adopted) ∙ sets))
  where
    not_set : false ≡ true → ⊥
    not_set is = absurd cc

stays_off : (before : Held) (answers : List Taken) (after : Held) → before.off ≡ true → TakesAll before answers after → NoneAdopted answers → after.off ≡ true
stays_off before [] after off same none = ap (λ (mirror : Held). mirror.off) same ∙ off
stays_off before (answer ∷ later) after off (report, next, judged, takes) none =
    stays_off next later after (answered_mark before report answer next judged ∙ ap (λ (b : Bool). mark_after b answer) off ∙ mark_stays answer none.0) takes none.1

full_at : (point : Option Point) → want_at point true ≡ wanted.Full
full_at None = refl
full_at (Some point) = refl

wants_inventory : (before : Held) (answer : Taken) (later : List Taken) (after : Held) → TakesAll before (answer ∷ later) after → SetsMark answer → NoneAdopted later → want after ≡ wanted.Full
wants_inventory before answer later after (report, next, judged, takes) sets none =
    ap (want_at after.point) (stays_off next later after (answered_mark before report answer next judged ∙ mark_is_set before.off answer sets) takes none) ∙ full_at after.point

pub mark_stays_until_adopted : MarkStaysUntilAdopted
mark_stays_until_adopted = record { mark = answered_mark; wants = wants_inventory }
