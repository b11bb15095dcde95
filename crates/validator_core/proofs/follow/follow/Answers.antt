-- What is live is what the events say among the records, except those that are gone.
use Rattle.std.proofs.Common.{◌∙◌, List, ap, sym, subst}
use Rattle.std.specs.BTreeSet.{contains}
use Rattle.std.specs.List.Sorted.{IsStrictlyIncreasing}
use Rattle.std.specs.Ordering.{nat_cmp}
use Rattle.swima_model.specs.declared.event.Event.{Event}
use Rattle.swima_model.specs.declared.record.Record.{Record}
use Rattle.swima_model.specs.InOrder.{ids}
use Rattle.swima_model.specs.Live.{live}
use Rattle.swima_model.proofs.Living.{live_rises}
use Rattle.validator_core.specs.Gone.{kept}
use Rattle.validator_core.proofs.Dropping.{kept_live, said_rises}
use Rattle.validator_core.proofs.follow.follow.Goals as goal

pub put_given-requires-clause-given : goal.put_given-requires-clause-given
put_given-requires-clause-given c =
    let events = c.above.result.items in
    said_rises events c.into_given-given.result.0.items (c.into_given-given.ensures.given events c.in_ok-mentions.ensures.mentions)

pub returns-clause-rising : goal.returns-clause-rising
returns-clause-rising c =
    let base = c.args.records.now.items in
    let events = c.above.result.items in
    let are = c.in_ok-mentions.ensures.mentions in
    let lives =
    c.drop_gone.ensures.kept ∙ ap (λ (rs : List Record). kept (contains nat_cmp c.into_given-given.result.1) rs) c.in_ok-put_given.ensures.merged
    ∙ kept_live base c.into_given-given.result.0.items events (contains nat_cmp c.into_given-given.result.1) c.requires.rising (c.into_given-given.ensures.given events are) (c.into_given-given.ensures.gone events are) in
    subst (λ (rs : List Record). IsStrictlyIncreasing (ids rs)) (sym lives) (live_rises base events c.requires.rising)

pub returns-clause-live : goal.returns-clause-live
returns-clause-live c =
    let base = c.args.records.now.items in
    let events = c.above.result.items in
    let are = c.in_ok-mentions.ensures.mentions in
    c.drop_gone.ensures.kept ∙ ap (λ (rs : List Record). kept (contains nat_cmp c.into_given-given.result.1) rs) c.in_ok-put_given.ensures.merged
    ∙ kept_live base c.into_given-given.result.0.items events (contains nat_cmp c.into_given-given.result.1) c.requires.rising (c.into_given-given.ensures.given events are) (c.into_given-given.ensures.gone events are)
    ∙ ap (λ (es : List Event). live base es) c.above.ensures.above
