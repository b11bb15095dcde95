-- No role that was passed is that of the tag's creator.
use Rattle.std.proofs.Common.{◌≡◌, drop}
use Rattle.std.specs.List.{list_any}
use Rattle.coswid_tag.specs.Codes.{is_creator}
use Rattle.coswid_tag.proofs.finding.is_creator.Given as goal

abbrev pub invariant-loop-role : goal.invariant-loop-role
invariant-loop-role l = list_any is_creator l.role-items ≡ list_any is_creator (drop l.role-index l.role-items)
