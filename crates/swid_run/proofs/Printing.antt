-- A command whose text was not made.
use Rattle.std.proofs.Common.{ℕ, List, [], Option, Some, None, Result, Err, refl, sym, ap, append-nil, le_refl}
use Rattle.wire_base.specs.Outside.{Adds}
use Rattle.wire_base.specs.declared.outside.stopped.Stopped.{Stopped}
use Rattle.wire_base.specs.declared.outside.stopped.Stopped.TheVariants as stopped
use Rattle.command_text.specs.declared.ending.Ending.{Ending}
use Rattle.swid_run.specs.Ends.{OutputState, Prints}

adds_nothing : (written : Option (List ℕ)) → Adds written written []
adds_nothing None = refl
adds_nothing (Some octets) = ap (λ (o : List ℕ). Some o) (sym (append-nil octets))

-- Nothing was printed, since memory ran out.
pub prints_nothing : (text : List ℕ) (how : Result Ending Stopped) (before : OutputState) → Prints text how before before (Err stopped.Memory)
prints_nothing text how before = record {
  prefix = (text, record { front = []; parts = refl; wrote = adds_nothing before.written });
  later = le_refl before.faults;
  ends = tt;
}
