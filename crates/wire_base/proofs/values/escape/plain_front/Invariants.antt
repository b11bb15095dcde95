-- All octets gone over stand for themselves.
use Rattle.std.proofs.Common.{◌≡◌, ◌+◌, drop}
use Rattle.std.specs.List.{prefix_len}
use Rattle.wire_base.specs.Escaped.{is_plain}
use Rattle.wire_base.proofs.values.escape.plain_front.Given as goal

abbrev pub invariant-loop-octet : goal.invariant-loop-octet
invariant-loop-octet l = record {
  count : l.count ≡ l.octet-index;
  rest : l.octet-index + prefix_len is_plain (drop l.octet-index l.octets) ≡ prefix_len is_plain l.octets;
}
