-- What was put, and what is to come from the place on, is all of it.
use Rattle.coswid_links.proofs.Walking.{Walks, walk_left}
use Rattle.std.proofs.Common.{length}
use Rattle.coswid_links.proofs.rival_chain.RivalChains.put_rivals_of.Given as goal

abbrev pub invariant-loop-at : goal.invariant-loop-at
invariant-loop-at l = Walks l.self.releases.items l.self.contents.items l.first l.fn.found l.found l.at

abbrev pub decreases-loop-at : goal.decreases-loop-at
decreases-loop-at l = walk_left (length l.self.releases.items) l.at
