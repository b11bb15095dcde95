use Rattle.std.proofs.Common.{arith}
use Rattle.std.specs.BTreeMap.{get_by_text}
use Rattle.coswid_links.proofs.Naming.{known_more}
use Rattle.coswid_links.proofs.names.Names.from_tags.Goals as goal

pub loop-tag-preserved : goal.loop-tag-preserved
loop-tag-preserved c = λ name.
    known_more c.args.tags.now c.loop-tag.tag-index c.tag-item.result name (get_by_text c.loop-tag.names.is_primary name) (get_by_text c.put.new.self.is_primary name)
    (omega arith) c.tag-item.is (c.loop-tag.invariant name) (c.in_ok-put.ensures.puts name)
