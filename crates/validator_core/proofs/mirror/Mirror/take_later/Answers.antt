-- Without a gap, what is judged is what is judged of the events above the one that is held.
use Rattle.std.proofs.Common.{◌∙◌, [], ℕ, List, Option, ap, sym, subst}
use Rattle.swima_model.specs.declared.event.Event.{Event}
use Rattle.validator_core.specs.Following.{events_above, first_misfit, gap}
use Rattle.validator_core.specs.MaybeOwned.{list_of}
use Rattle.validator_core.specs.Judge.{Judged, NeedsMemory, judge_numbered}
use Rattle.validator_core.proofs.Misfits.{above_needs_memory, judged_above, misfit_after}
use Rattle.validator_core.proofs.mirror.Mirror.take_later.Goals as goal

pub returns-in-Ok : goal.returns-in-Ok
returns-in-Ok c =
    let mirror = c.args.self.now in
    let above = events_above c.args.held.eid (list_of c.args.events) in
    let none = sym c.in_default.is ∙ c.gap.ensures.gap ∙ ap (λ (es : List Event). gap c.args.held.eid c.args.consulted es) c.as_slice.ensures.items in
    record {
      judged =
          subst (λ (found : Option ℕ). Judged mirror (judge_numbered mirror c.args.held c.args.consulted (list_of c.args.events) found) c.in-Ok.taken c.take_following.new.self) none
          (judged_above mirror c.take_following.new.self c.args.held c.args.consulted above (first_misfit mirror.records above) c.in-Ok.taken
          (misfit_after mirror.records [] above) c.in-Ok.ensures.judged);
    }

pub returns-in-Err : goal.returns-in-Err
returns-in-Err c =
    let mirror = c.args.self.now in
    let above = events_above c.args.held.eid (list_of c.args.events) in
    let none = sym c.in_default.is ∙ c.gap.ensures.gap ∙ ap (λ (es : List Event). gap c.args.held.eid c.args.consulted es) c.as_slice.ensures.items in
    record {
      judged = (
        subst (λ (found : Option ℕ). NeedsMemory (judge_numbered mirror c.args.held c.args.consulted (list_of c.args.events) found).0) none
            (above_needs_memory mirror c.args.held c.args.consulted above (first_misfit mirror.records above) (misfit_after mirror.records [] above)),
        c.in-Err.ensures.unchanged,
      );
    }
