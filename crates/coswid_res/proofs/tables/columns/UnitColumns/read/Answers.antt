-- Nothing is taken out.
use Rattle.std.proofs.Common.{sym}
use Rattle.cbor_det.specs.View.{pairs_view}
use Rattle.coswid_res.proofs.Takes.{none_of}
use Rattle.coswid_res.proofs.tables.columns.UnitColumns.read.Goals as goal

pub returns-clause-left : goal.returns-clause-left
returns-clause-left c = sym (none_of (pairs_view c.args._pairs.now))
