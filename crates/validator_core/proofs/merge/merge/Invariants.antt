-- The records put in and those that are left, held or given, are all, and there is room for them.
use Rattle.std.proofs.Common.{◌≡◌, ◌+◌, ◌≤◌, ◌++◌, length, reverse}
use Rattle.std.specs.Prelude.{vec_capacity, vec_len}
use Rattle.std.specs.Vec.Iter.{into_iter_items, into_iter_len}
use Rattle.validator_core.specs.Merged.{merged}
use Rattle.validator_core.proofs.merge.merge.Given as goal

abbrev pub invariant-loop-record : goal.invariant-loop-record
invariant-loop-record l = record {
  all : l.records.items ++ merged (into_iter_items l.record-iterator) (reverse l.left.items) ≡ merged l.fn.held.items l.fn.given.items;
  len : into_iter_len l.record-iterator ≡ length (into_iter_items l.record-iterator);
  room : vec_len l.records + (into_iter_len l.record-iterator + vec_len l.left) ≤ vec_capacity l.records;
}
