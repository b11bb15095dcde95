-- The data model of a record (RFC 8412, section 3.4.2).
use Rattle.std.specs.Prelude.{ℕ}

-- The Private Enterprise Number of the organization that assigned the type, and the type.
pub record DataModel : Type 0 where
  pub pen : ℕ
  pub kind : ℕ
