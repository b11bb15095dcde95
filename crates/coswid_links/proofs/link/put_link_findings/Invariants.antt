-- What was put, and what is wrong with the links of the tags that are left, is what is wrong with
-- all of them.
use Rattle.std.proofs.Common.{◌≡◌, ◌+◌, ◌++◌, drop}
use Rattle.coswid_links.specs.Links.{tag_findings}
use Rattle.coswid_links.specs.Listed.{each_from}
use Rattle.coswid_links.proofs.link.put_link_findings.Given as goal

abbrev pub invariant-loop-place : goal.invariant-loop-place
invariant-loop-place l =
    l.found ++ each_from (tag_findings l.tags) (l.place + 1) (drop l.place l.tags) ≡ l.fn.found ++ each_from (tag_findings l.tags) 1 l.tags
