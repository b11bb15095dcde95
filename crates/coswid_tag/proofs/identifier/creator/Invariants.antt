-- No entity that was passed created the tag.
use Rattle.std.proofs.Common.{◌≡◌, drop}
use Rattle.coswid_tag.specs.Identifier.{creator}
use Rattle.coswid_tag.proofs.identifier.creator.Given as goal

abbrev pub invariant-loop-entity : goal.invariant-loop-entity
invariant-loop-entity l = creator l.entities ≡ creator (drop l.entity-index l.entities)
