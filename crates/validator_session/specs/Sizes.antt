-- How large the batch is that a validator is writing.
use Rattle.std.specs.Prelude.{◌≤◌, ◌*◌, List, All, length, sum_by}
use Rattle.pb_batch.specs.declared.batch.Message.{Message}
use Rattle.pb_batch.specs.Form.{IsMessage, message_octets}

-- The answers of a batch can be written, and leave room for a message of the validator's own. An
-- answer carries one Error, and has at most 100 octets.
pub record Fits (answers : List Message) : Type 0 where
  pub few : length answers ≤ 63
  pub valid : All IsMessage answers
  pub short : sum_by message_octets answers ≤ 100 * length answers
