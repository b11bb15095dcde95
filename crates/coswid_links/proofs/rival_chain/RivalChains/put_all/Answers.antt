use Rattle.coswid_links.specs.RivalChains.{rivals_of}
use Rattle.coswid_links.proofs.Spans.{put_more}
use Rattle.std.proofs.Common.{length, arith}
use Rattle.coswid_links.proofs.rival_chain.RivalChains.put_all.Goals as goal

pub loop-first-preserved : goal.loop-first-preserved
loop-first-preserved c =
    let places = c.args.self.now in
    put_more (rivals_of places.releases.items places.contents.items) c.loop-first.first (length places.releases.items) c.loop-first.found c.put_rivals_of.new.found _ (omega arith)
    c.loop-first.invariant c.in_ok-put_rivals_of.ensures.appended
