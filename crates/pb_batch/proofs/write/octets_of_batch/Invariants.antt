-- The octets of the messages so far are counted.
use Rattle.std.proofs.Common.{◌≡◌, ◌+◌, take}
use Rattle.std.specs.Prelude.{sum_by}
use Rattle.pb_batch.specs.Form.{message_octets}
use Rattle.pb_batch.proofs.write.octets_of_batch.Given as goal

abbrev pub invariant-loop-message : goal.invariant-loop-message
invariant-loop-message l = l.count ≡ 8 + sum_by message_octets (take l.message-index l.message-items)
