-- What the adapters of links, of doors and of the clock to the system hold, as contracts see it.
use Rattle.std.specs.Prelude.{ℕ, Bool, true, false, Result, Ok, Err}
use Rattle.std.specs.declared.io.ErrorKind.{ErrorKind}
use Rattle.std.specs.declared.io.ErrorKind.TheVariants as kind
use Rattle.wire_base.specs.declared.outside.link.Took.{Took}
use Rattle.wire_base.specs.declared.outside.link.Took.TheVariants as took

-- A link: the stream of the system, how many calls failed, and how many were idle turns.
pub record LinkAdapter (S : Type 0) : Type 0 where
  pub inner : S
  pub faults : ℕ
  pub idles : ℕ

-- A door: what it makes its links from, whether one of them is out, and its count of faults.
pub record DoorAdapter (A : Type 0) : Type 0 where
  pub inner : A
  pub out : Bool
  pub faults : ℕ

-- A clock: the clock of the system, and the moment that it gave last, 0 at first.
pub record ClockAdapter (R : Type 0) : Type 0 where
  pub inner : R
  pub last : ℕ

-- An error of a read that is an idle turn: the time of the read was over, or a signal came.
abbrev pub is_idle : ErrorKind → Bool
is_idle kind.WouldBlock = true
is_idle kind.TimedOut = true
is_idle kind.Interrupted = true
is_idle _ = false

-- What the stream read where `take` answers this: a count of octets, none at the end, and else an
-- error.
abbrev pub read_of : Took → Result ℕ Unit
read_of (took.Bytes count) = Ok count
read_of took.Ended = Ok 0
read_of took.Idle = Err tt
read_of took.Failed = Err tt
