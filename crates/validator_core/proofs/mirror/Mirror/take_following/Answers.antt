-- Records that are live after events of which nothing is to be said fit into the mirror.
use Rattle.std.proofs.Common.{◌∙◌, ℕ, List, ap, sym, subst}
use Rattle.swima_model.specs.declared.event.Event.{Event}
use Rattle.swima_model.specs.declared.record.Record.{Record}
use Rattle.swima_model.specs.Live.{live}
use Rattle.validator_core.specs.Following.{events_above}
use Rattle.validator_core.specs.Weighed.{AreWeighed}
use Rattle.validator_core.proofs.Tallying.{weighed_after}
use Rattle.validator_core.proofs.mirror.Mirror.take_following.Goals as goal

pub invariant_of-self-2 : goal.invariant_of-self-2
invariant_of-self-2 c =
    let records = c.self.inside.records.items in
    let lives =
    c.in_ok-follow.ensures.live
    ∙ ap (λ (es : List Event). live records (events_above c.args.held.eid es)) (c.in_ok-into_list.ensures.list ∙ sym c.as_slice-2.ensures.items)
    ∙ ap (λ (rs : List Record). live rs (events_above c.args.held.eid c.as_slice-2.result.now)) (sym c.as_slice.ensures.value ∙ sym c.new-tally.ensures.records) in
    subst (λ (octets : ℕ). AreWeighed c.follow.new.records.items octets) (sym c.into_octet_count-octets.ensures.octets)
    (weighed_after _ _ _ _ (c.in_ok-misfit.ensures.tally c.in_default.is) (c.in_ok-misfit.ensures.few c.in_default.is) c.follow.ensures.rising lives)
