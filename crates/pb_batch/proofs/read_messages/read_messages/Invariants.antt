-- The messages read so far, and those still to be read, are all of the batch.
use Rattle.std.proofs.Common.{◌≡◌, ◌≤◌, ◌-◌, length, drop}
use Rattle.pb_batch.specs.Front.{messages_of}
use Rattle.pb_batch.proofs.Reading.{with_front}
use Rattle.pb_batch.proofs.read_messages.read_messages.Given as goal

abbrev pub invariant-loop-at : goal.invariant-loop-at
invariant-loop-at l = record {
  so_far : with_front l.messages (messages_of (64 - length l.messages) l.at (drop l.at l.batch)) ≡ messages_of 64 8 (drop 8 l.batch);
  few : length l.messages ≤ 64;
  within : l.at ≤ length l.batch;
}

abbrev pub decreases-loop-at : goal.decreases-loop-at
decreases-loop-at l = length l.batch - l.at
