-- The octets of the ones gone over stand after what stood there.
use Rattle.std.proofs.Common.{◌≡◌, ◌++◌, take}
use Rattle.std.specs.Prelude.{All}
use Rattle.std.specs.List.{flat_map}
use Rattle.wire_base.specs.Written.{written}
use Rattle.swima_reports.proofs.writable.put_entries.Given as goal

abbrev pub invariant-loop-entry : goal.invariant-loop-entry
invariant-loop-entry g l = record {
  appended : l.out ≡ l.fn.out ++ written (flat_map (g.T.Writable.entry_fields l.kind) (take l.entry-index l.entry-items));
  room : All (g.T.Writable.has_room l.kind) (take l.entry-index l.entry-items);
}
