-- What is wrong between the tags of a list.
use Rattle.std.specs.Prelude.{List, ◌++◌}
use Rattle.coswid_tag.specs.declared.tag.Tag.{Tag}
use Rattle.coswid_links.specs.declared.finding.LinkFinding.{LinkFinding}
use Rattle.coswid_links.specs.Links.{tag_findings}
use Rattle.coswid_links.specs.Listed.{each_from, each_pair_from}
use Rattle.coswid_links.specs.Rivals.{pair_findings}

-- All of it: first links, by tag and link, and then pairs of tags. Numbers count from 1.
unfoldable pub findings : List Tag → List LinkFinding
findings gs = each_from (tag_findings gs) 1 gs ++ each_pair_from pair_findings 1 gs
