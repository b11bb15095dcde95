-- What is put and what is left come to the same, and there is room for all.
use Rattle.std.proofs.Common.{◌≡◌, ◌+◌, ◌≤◌, ◌++◌, ◌∷◌, List, length, reverse}
use Rattle.std.specs.Prelude.{vec_capacity, vec_len}
use Rattle.swima_model.specs.declared.record.Record.{Record}
use Rattle.validator_core.specs.Merged.{merged}
use Rattle.validator_core.proofs.merge.put_below.Given as goal

abbrev pub invariant-loop-given : goal.invariant-loop-given
invariant-loop-given l = record {
  put : (later : List Record) → l.records.items ++ merged (l.held ∷ later) (reverse l.given.items)
      ≡ l.fn.records.items ++ merged (l.held ∷ later) (reverse l.fn.given.items);
  len : vec_len l.records + vec_len l.given ≡ vec_len l.fn.records + vec_len l.fn.given;
  capacity : vec_capacity l.fn.records ≤ vec_capacity l.records;
}

abbrev pub decreases-loop-given : goal.decreases-loop-given
decreases-loop-given l = length l.given.items
