-- What was put, and what the places left give, is what all places give.
use Rattle.std.proofs.Common.{◌≡◌, ◌-◌, ◌++◌, length}
use Rattle.coswid_links.specs.RivalChains.{all_rivals, rivals_of, span}
use Rattle.coswid_links.proofs.rival_chain.RivalChains.put_all.Given as goal

abbrev pub invariant-loop-first : goal.invariant-loop-first
invariant-loop-first l =
    l.found ++ span (rivals_of l.self.releases.items l.self.contents.items) l.first (length l.self.releases.items - l.first)
    ≡ l.fn.found ++ all_rivals l.self.releases.items l.self.contents.items
