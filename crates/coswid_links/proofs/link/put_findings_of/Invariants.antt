-- What was put, and what is wrong with the links that are left, is what is wrong with all of them.
use Rattle.std.proofs.Common.{◌≡◌, ◌+◌, ◌++◌, List, drop}
use Rattle.coswid_tag.specs.declared.tag.Tag.{Tag}
use Rattle.coswid_links.specs.Links.{link_findings}
use Rattle.coswid_links.specs.Listed.{each_from}
use Rattle.coswid_links.specs.Names.{AreNamesOf}
use Rattle.coswid_links.proofs.link.put_findings_of.Given as goal

abbrev pub invariant-loop-place : goal.invariant-loop-place
invariant-loop-place l =
    (gs : List Tag) → AreNamesOf gs l.names
    → l.found ++ each_from (link_findings gs l.first) (l.place + 1) (drop l.place l.links) ≡ l.fn.found ++ each_from (link_findings gs l.first) 1 l.links
