-- What an adapter to the system holds, as contracts see it.
use Rattle.std.specs.Prelude.{ℕ}

-- The reader, the writer or the files of the system, and how many of its calls failed.
pub record Adapter (A : Type 0) : Type 0 where
  pub inner : A
  pub faults : ℕ
