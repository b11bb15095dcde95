-- What is wrong with links of tags: RFC 9393, section 2.7 and 4.4. Each finding has a number.
use Rattle.std.specs.Prelude.{ℕ, Bool, not, ◌&&◌, ◌||◌, List, ◌++◌}
use Rattle.coswid_tag.specs.declared.link.LinkEntry.{LinkEntry}
use Rattle.coswid_tag.specs.declared.tag.Tag.{Tag}
use Rattle.coswid_tag.specs.Codes.{patches, requires_it, supplements}
use Rattle.coswid_tag.specs.Findings.{all_of}
use Rattle.coswid_links.specs.declared.finding.LinkFinding.{LinkFinding}
use Rattle.coswid_links.specs.Aims.{is_reference, aims_at_some, aims_at_primary}
use Rattle.coswid_links.specs.Listed.{finding, each_from}

-- 1: It refers to no tag of the list, and does not require it.
abbrev pub leads_nowhere : List Tag → LinkEntry → Bool
leads_nowhere gs l = is_reference l && not (aims_at_some gs l) && not (requires_it l.rel)

-- 2: It patches or supplements tags of the list, of which none is primary.
abbrev pub changes_no_primary : List Tag → LinkEntry → Bool
changes_no_primary gs l = (patches l.rel || supplements l.rel) && aims_at_some gs l && not (aims_at_primary gs l)

-- 3: It refers to no tag of the list, and requires it.
abbrev pub requirement_missing : List Tag → LinkEntry → Bool
requirement_missing gs l = is_reference l && not (aims_at_some gs l) && requires_it l.rel

-- what is wrong with the link of these two numbers, that of its tag and its own
abbrev pub link_findings : List Tag → ℕ → ℕ → LinkEntry → List LinkFinding
link_findings gs i j l =
    finding 1 (leads_nowhere gs l) i j ++ finding 2 (changes_no_primary gs l) i j ++ finding 3 (requirement_missing gs l) i j

-- what is wrong with the links of the tag of this number
abbrev pub tag_findings : List Tag → ℕ → Tag → List LinkFinding
tag_findings gs i g = each_from (link_findings gs i) 1 (all_of g.link)
