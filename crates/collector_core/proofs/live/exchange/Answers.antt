use Rattle.std.proofs.Common.{◌∙◌, ℕ, Option, None, ap, sym}
use Rattle.std.specs.Map.{set_value}
use Rattle.std.specs.Option.{unwrap_or}
use Rattle.std.specs.Prelude.{nat_eq}
use Rattle.indexmap.specs.IndexMap.{IndexMap}
use Rattle.swima_model.specs.declared.record.Record.{Record}
use Rattle.collector_core.proofs.Placed.{absent_put}
use Rattle.collector_core.proofs.live.exchange.Goals as goal

pub returns : goal.returns
returns c = record {
  stood = c.replace.ensures.value ∙ ap (λ (place : Option (Option Record)). unwrap_or place None) c.in_ok-place.ensures.value;
  exchanged = (c.get_mut.follows.holds c.replace.new.dest).0 ∙ ap (set_value (nat_eq c.args.id) c.args.places.now.entries) c.replace.ensures.after;
}

pub returns-in_err-place-clause-exchanged : goal.returns-in_err-place-clause-exchanged
returns-in_err-place-clause-exchanged c = ap (λ (map : IndexMap ℕ (Option Record) _). map.entries) c.get_mut.follows.holds-at-none ∙ sym (absent_put c.args.id c.args.places.now.entries c.args.held (sym c.in_err-place.ensures.value))
