-- The number so far is that of the digits gone over.
use Rattle.std.proofs.Common.{◌≡◌, ◌≤◌, ◌+◌, ◌*◌, ◌^◌, take}
use Rattle.wire_base.specs.Stamp.{spelled}
use Rattle.wire_base.proofs.values.moment.spelled.Given as goal

abbrev pub invariant-loop-character : goal.invariant-loop-character
invariant-loop-character l = (l.number ≡ spelled (take l.character-index l.characters)) × (l.number + 24 ≤ 24 * 10 ^ l.character-index)
