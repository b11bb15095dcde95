-- A pair is a pair.
use Rattle.std.proofs.Common.{sym, ◌∙◌}
use Rattle.cbor_det.proofs.Views.{count_view}
use Rattle.cbor_det.proofs.item.Pairs.len.Goals as goal

pub returns : goal.returns
returns c = record { len = c.len.ensures.len ∙ sym (count_view c.args.self.now) }
