-- A new feed has taken nothing.
use Rattle.std.proofs.Common.{[], arith, inr}
use Rattle.cbor_det.proofs.Standing.{stands_first}
use Rattle.cbor_det.proofs.feed.CborFeed.new.Goals as goal

pub returns-clause-taken : goal.returns-clause-taken
returns-clause-taken c = stands_first c.args.limits c.new.result.items c.new.ensures.items

pub invariant_of-result-2 : goal.invariant_of-result-2
invariant_of-result-2 c = record {
  small = c.requires.octets;
  room = omega arith;
  released = tt;
  some = inr ([], stands_first c.args.limits c.new.result.items c.new.ensures.items);
}
