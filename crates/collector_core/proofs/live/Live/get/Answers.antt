use Rattle.std.proofs.Common.{◌∙◌, Option, None, ap, sym}
use Rattle.std.specs.Option.{option_copied, unwrap_or}
use Rattle.swima_model.specs.declared.record.Record.{Record}
use Rattle.swima_model.specs.Live.{record_of}
use Rattle.collector_core.specs.Places.{LiveView}
use Rattle.collector_core.proofs.Placed.{stands_at}
use Rattle.collector_core.proofs.live.Live.get.Goals as goal

pub returns : goal.returns
returns c = record {
  held = c.as_ref.ensures.value ∙ ap (λ (place : Option (Option Record)). unwrap_or place None) c.in_ok-get.ensures.value
      ∙ sym (stands_at c.self.inside.next c.self.inside.empty c.self.inside.places.entries c.self.invariant.0 c.args.id)
      ∙ ap (λ (live : LiveView). record_of c.args.id live.records) c.self.view_is;
}

pub returns-in_err-get : goal.returns-in_err-get
returns-in_err-get c = record {
  held = ap option_copied c.from_residual.ensures ∙ ap (λ (place : Option (Option Record)). unwrap_or place None) c.in_err-get.ensures.value
      ∙ sym (stands_at c.self.inside.next c.self.inside.empty c.self.inside.places.entries c.self.invariant.0 c.args.id)
      ∙ ap (λ (live : LiveView). record_of c.args.id live.records) c.self.view_is;
}
