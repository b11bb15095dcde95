-- They are those that pass the test.
use Rattle.std.proofs.Common.{◌∙◌, List, ap, rules}
use Rattle.std.specs.Prelude.{nat_lt}
use Rattle.std.proofs.lemmas.Fn.{filter_same}
use Rattle.swima_model.specs.declared.event.Event.{Event}
use Rattle.validator_core.specs.Following.{events_above}
use Rattle.validator_core.proofs.follow.above.Goals as goal

pub returns : goal.returns
returns c = record {
  above =
      filter_same _ (λ (e : Event). nat_lt c.args.eid e.eid) _ (λ x b f' k. search rules) _ _ c.retain.ensures.filtered
      ∙ ap (λ (es : List Event). events_above c.args.eid es) c.into_vec-left.ensures.items;
}
