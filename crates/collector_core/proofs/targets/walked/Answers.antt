use Rattle.std.proofs.Common.{rules, ◌∙◌, ◌++◌, List, Option, ap, arith, take_all}
use Rattle.std.specs.Prelude.{option_to_list}
use Rattle.swima_model.specs.declared.record.Record.{Record}
use Rattle.collector_core.specs.Answering.{wanted_records}
use Rattle.collector_core.specs.Borrowed.{values}
use Rattle.collector_core.specs.Places.{present}
use Rattle.collector_core.proofs.Slots.{wanted_more}
use Rattle.collector_core.proofs.targets.walked.Goals as goal

pub loop-held-preserved : goal.loop-held-preserved
loop-held-preserved c =
    c.in_ok-choose_record.ensures.chosen
    ∙ ap (λ (held : Option Record). values c.loop-held.chosen.items ++ wanted_records c.args.targets.now (option_to_list held)) c.as_ref.ensures.value
    ∙ wanted_more c.args.targets.now c.places-held-items.result.now c.loop-held.held-index c.held-item.result _ (search rules) c.held-item.is c.loop-held.invariant

pub returns : goal.returns
returns c = record {
  wanted = c.loop-held.invariant
      ∙ ap (λ (l : List (Option Record)). wanted_records c.args.targets.now (present l)) (take_all c.loop-held.held-index c.places-held-items.result.now (omega (arith, c.loop-held-test.false)))
      ∙ ap (wanted_records c.args.targets.now) c.places-held-items.ensures.places;
}
