use Rattle.std.proofs.Common.{◌≡◌, map, take}
use Rattle.coswid_links.specs.Releases.{claim, claim_of}
use Rattle.coswid_links.proofs.rival.releases.Given as goal

abbrev pub invariant-loop-tag : goal.invariant-loop-tag
invariant-loop-tag l = map claim_of l.made.items ≡ map claim (take l.tag-index l.tags)
