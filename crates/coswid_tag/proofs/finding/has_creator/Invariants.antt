-- No entity that was passed created the tag.
use Rattle.std.proofs.Common.{◌≡◌, drop}
use Rattle.std.specs.List.{list_any}
use Rattle.coswid_tag.specs.Findings.{created}
use Rattle.coswid_tag.proofs.finding.has_creator.Given as goal

abbrev pub invariant-loop-entity : goal.invariant-loop-entity
invariant-loop-entity l = list_any created l.entities ≡ list_any created (drop l.entity-index l.entities)
