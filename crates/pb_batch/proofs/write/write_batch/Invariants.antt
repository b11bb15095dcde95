-- The header and the messages so far are written.
use Rattle.std.proofs.Common.{◌≡◌, ◌++◌, take}
use Rattle.std.specs.List.{flat_map}
use Rattle.pb_batch.specs.Written.{written_header, written_message}
use Rattle.pb_batch.proofs.write.write_batch.Given as goal

abbrev pub invariant-loop-message : goal.invariant-loop-message
invariant-loop-message l = l.out ≡ written_header l.batch ++ flat_map written_message (take l.message-index l.message-items)
