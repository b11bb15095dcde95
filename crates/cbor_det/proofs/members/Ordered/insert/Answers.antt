-- The pair goes to its place.
use Rattle.std.proofs.Common.{List, ap, ◌∙◌}
use Rattle.cbor_det.specs.Open.{Entry, entries_view}
use Rattle.cbor_det.proofs.Entries.{entries_insert, entries_spelled, kept_by}
use Rattle.cbor_det.proofs.members.Ordered.insert.Goals as goal

pub invariant_of-self : goal.invariant_of-self
invariant_of-self c = record {
  are_spelled = kept_by c.insert.result _ _ _ c.insert.ensures.entries c.insert.ensures.err c.args.self.now.are_spelled
      (entries_spelled _ _ c.args.self.now.entries.entries c.args.self.now.are_spelled c.args.key.is_spelled);
}

pub returns-clause-puts : goal.returns-clause-puts
returns-clause-puts c =
    ap (λ (es : List Entry). entries_view es) c.in_ok-insert.ensures.entries
    ∙ entries_insert _ _ c.args.self.now.entries.entries c.args.self.now.are_spelled c.args.key.is_spelled
