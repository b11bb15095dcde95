-- What the feed holds are the octets that it held at first and those that were moved since.
use Rattle.std.proofs.Common.{◌≡◌, ◌++◌, ◌-◌, List, ℕ, length}
use Rattle.wire_base.specs.Outside.{Moves}
use Rattle.swid_cli.specs.Steps.{IsBegun}
use Rattle.swid_cli.proofs.mirror.first_attribute.take_value.Given as goal

abbrev pub invariant-loop-count : goal.invariant-loop-count
invariant-loop-count g l = record {
  begun : IsBegun l.room l.len l.feed;
  moved : (more : List ℕ) × (l.feed.octets ≡ l.fn.feed.octets ++ more) × Moves (g.S.Source.left l.fn.input) (g.S.Source.left l.input) more;
  calm : g.S.Source.faults l.input ≡ g.S.Source.faults l.fn.input;
}

abbrev pub decreases-loop-count : goal.decreases-loop-count
decreases-loop-count g l = l.len - length l.feed.octets
