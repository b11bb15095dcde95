-- The records that are left are those that are kept.
use Rattle.std.proofs.Common.{not, sym, rules}
use Rattle.std.specs.BTreeSet.{contains}
use Rattle.std.specs.Ordering.{nat_cmp}
use Rattle.std.proofs.lemmas.Fn.{filter_same}
use Rattle.swima_model.specs.declared.record.Record.{Record}
use Rattle.validator_core.proofs.Dropping.{empty_keys, none_gone, none_in}
use Rattle.validator_core.proofs.gone.drop_gone.Goals as goal

pub returns-then-not-is_empty : goal.returns-then-not-is_empty
returns-then-not-is_empty c = record {
  kept = filter_same _ (λ (r : Record). not (contains nat_cmp c.args.gone.now r.id)) _ (λ x b f' k. search rules) _ _ c.retain.ensures.filtered;
}

pub returns-else-not-is_empty : goal.returns-else-not-is_empty
returns-else-not-is_empty c = record {
  kept =
      sym (none_gone (contains nat_cmp c.args.gone.now) c.args.records.now.items
      (λ id. none_in c.args.gone.now id (empty_keys c.is_empty.result c.args.gone.now.keys c.is_empty.ensures c.if-not-is_empty.false)));
}
