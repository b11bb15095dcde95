-- After an item the next one begins.
use Rattle.cbor_det.proofs.Standing.{stands_first}
use Rattle.cbor_det.proofs.feed.CborFeed.read_next.Goals as goal

pub returns-in-Done-clause-fed : goal.returns-in-Done-clause-fed
returns-in-Done-clause-fed c = λ before stands.
    let came = rw c.in-Done.is at (c.in-Ok.ensures.came before stands) in
    (came.0, came.1, came.2, stands_first c.args.limits c.clear-in-Done.new.self.items c.clear-in-Done.ensures.items)
