-- They are the names of the tags gone over.
use Rattle.std.proofs.Common.{take}
use Rattle.coswid_links.specs.Names.{AreNamesOf}
use Rattle.coswid_links.proofs.names.Names.from_tags.Given as goal

abbrev pub invariant-loop-tag : goal.invariant-loop-tag
invariant-loop-tag l = AreNamesOf (take l.tag-index l.tags) l.names
