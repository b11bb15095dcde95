-- The steps of a session, as an end hears them. RFC 5793 has batches alone (section 4.1); idle
-- turns and the limit on octets are our own.
use Rattle.std.specs.Prelude.{ℕ}
use Rattle.pb_batch.specs.declared.batch.Batch.{Batch}
use Rattle.pb_batch.specs.declared.fault.PbFault.{PbFault}

-- A step.
--   Came batch     a batch is whole
--   Faulty fault   the octets that would be the next batch have a fault
--   Quiet turns    nothing came, for that many turns since the last octet
--   Spent          the last octet was taken that the limit allows
--   Cut have       the other end closed, with that many octets of a batch that is not whole
pub data Step : Type 0 where
  Came : Batch → Step
  Faulty : PbFault → Step
  Quiet : ℕ → Step
  Spent : Step
  Cut : ℕ → Step
