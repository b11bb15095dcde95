-- The number has the digits gone over.
use Rattle.std.proofs.Common.{◌≡◌, take}
use Rattle.wire_base.proofs.Decimals.{IsRead, digits_of}
use Rattle.wire_base.proofs.values.decimal.read_decimal.Given as goal

abbrev pub invariant-loop-character : goal.invariant-loop-character
invariant-loop-character l = record {
  place : l.place ≡ l.character-index;
  read : IsRead l.number;
  digits : digits_of l.number ≡ take l.character-index l.text;
}
