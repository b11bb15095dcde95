-- No link that was passed has this rel.
use Rattle.std.proofs.Common.{◌≡◌, drop}
use Rattle.std.specs.List.{list_any}
use Rattle.coswid_tag.specs.Codes.{is_rel}
use Rattle.coswid_tag.proofs.finding.has_rel.Given as goal

abbrev pub invariant-loop-link : goal.invariant-loop-link
invariant-loop-link l = list_any (λ k. is_rel l.rel k.rel) l.links ≡ list_any (λ k. is_rel l.rel k.rel) (drop l.link-index l.links)
