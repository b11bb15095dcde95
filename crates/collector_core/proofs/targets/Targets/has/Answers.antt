use Rattle.std.proofs.Common.{◌∙◌, sym, arith}
use Rattle.std.proofs.lemmas.Bool.{eqb-false}
use Rattle.collector_core.proofs.Wanting.{has_is}
use Rattle.collector_core.proofs.targets.Targets.has.Goals as goal

pub returns-else-is_empty : goal.returns-else-is_empty
returns-else-is_empty c = record {
  wanted = has_is c.args.self.now c.self.inside.rising.items c.as_slice.result.now c.bytes.result.now c.args.ident.now _ c.is_among.ensures.among c.bytes.ensures.octets c.as_slice.ensures.value c.self.view_is
      (λ none. eqb-false _ _ (sym c.is_empty.ensures ∙ c.if-is_empty.false) (omega (arith, none, c.self.inside.rising.ok.0)));
}
