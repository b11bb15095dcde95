use Rattle.std.proofs.Common.{◌≡◌, map, take}
use Rattle.coswid_links.specs.Releases.{content, content_of}
use Rattle.coswid_links.proofs.rival.contents.Given as goal

abbrev pub invariant-loop-tag : goal.invariant-loop-tag
invariant-loop-tag l = map content_of l.made.items ≡ map content (take l.tag-index l.tags)
