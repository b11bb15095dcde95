-- The octets and the part have the characters gone over.
use Rattle.std.proofs.Common.{◌≡◌, take}
use Rattle.wire_base.proofs.Unescaping.{IsSoFar, gone_over}
use Rattle.wire_base.proofs.values.unescape.read_escaped.Given as goal

abbrev pub invariant-loop-character : goal.invariant-loop-character
invariant-loop-character l = record {
  place : l.place ≡ l.character-index;
  so_far : IsSoFar (l.octets, l.part);
  gone_over : gone_over (l.octets, l.part) ≡ take l.character-index l.text;
}
