-- Each event is the gap, or the next one.
use Rattle.std.proofs.Common.{◌≡◌, ◌∙◌, ◌⊎◌, inl, inr, ◌+◌, ◌<◌, drop, sym, arith}
use Rattle.std.proofs.lemmas.List.{at_drop_all}
use Rattle.validator_core.specs.Following.{eids, events_above}
use Rattle.validator_core.proofs.Gaps.{left, next_above, differs, agrees, ends}
use Rattle.validator_core.proofs.gap.gap.Goals as goal
use Rattle.validator_core.proofs.gap.gap.Goals.{then-last-consulted-via-then-last-consulted, then-last-consulted-via-else-last-consulted+then-event-last}

pub returns-then-last-consulted : goal.returns-then-last-consulted
returns-then-last-consulted c =
    let events = c.args.events.now in
    let why : (c.loop-event.last ≡ c.args.consulted) ⊎ (c.event-item.result.eid ≡ c.loop-event.last + 1 → ⊥) = elim c.then-last-consulted.branch [
      | then-last-consulted-via-then-last-consulted w ↦ inl w.if-last-consulted.true
      | then-last-consulted-via-else-last-consulted+then-event-last w ↦ inr (λ e. omega (arith, e, w.if-event-last.true))
    ] in
    let above = next_above c.args.held c.args.consulted c.loop-event.last c.loop-event.event-index events c.event-item.result c.loop-event-test.true c.event-item.is c.if-event-held.false in
    let here = differs c.event-item.result.eid c.loop-event.last c.args.consulted (eids (events_above c.args.held (drop (c.loop-event.event-index + 1) events))) c.loop-event.invariant.within why in
    record { gap = sym (above ∙ here) ∙ c.loop-event.invariant.rest }

pub loop-event-preserved : goal.loop-event-preserved
loop-event-preserved c =
    let events = c.args.events.now in
    let before : c.loop-event.last < c.args.consulted = omega (arith, c.loop-event.invariant.within, c.if-last-consulted.false) in
    let above = next_above c.args.held c.args.consulted c.loop-event.last c.loop-event.event-index events c.event-item.result c.loop-event-test.true c.event-item.is c.if-event-held.false in
    let next = agrees c.event-item.result.eid c.loop-event.last c.args.consulted (eids (events_above c.args.held (drop (c.loop-event.event-index + 1) events))) before c.if-event-last.false in
    record {
      rest = sym (above ∙ next) ∙ c.loop-event.invariant.rest;
      above = omega arith;
      within = omega (arith, before, c.if-event-last.false);
    }

pub returns-then-last-consulted-2 : goal.returns-then-last-consulted-2
returns-then-last-consulted-2 c =
    let none = at_drop_all (left c.args.held c.args.consulted c.loop-event.last) c.args.events.now c.loop-event.event-index c.loop-event-test.false in
    record { gap = sym (none ∙ ends c.loop-event.last c.args.consulted c.if-last-consulted-2.true) ∙ c.loop-event.invariant.rest }
