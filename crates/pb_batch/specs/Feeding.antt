-- What a feed of batches holds, and what it answers.
use Rattle.std.specs.Prelude.{◌≡◌, ◌<◌, ◌≤◌, ◌+◌, ◌-◌, ℕ, Bool, List, ◌++◌, Option, Some, None, Result, Ok, Err, length, take, min}
use Rattle.wire_base.specs.Feeding.{Fed, Waits, Gives, Stops, Feeding, More, Bad, Whole, Feeds as FeedsAny}
use Rattle.wire_base.specs.declared.layout.field_refused.Refused.{Refused}
use Rattle.wire_base.specs.declared.layout.field_refused.Refused.TheVariants as refused
use Rattle.pb_batch.specs.declared.batch.Batch.{Batch}
use Rattle.pb_batch.specs.declared.fault.PbFault.{PbFault}
use Rattle.pb_batch.specs.declared.feed.BatchFed.{BatchFed}
use Rattle.pb_batch.specs.declared.feed.BatchFed.TheVariants as fed
use Rattle.pb_batch.specs.Front.{front_of}
use Rattle.pb_batch.specs.Written.{IsBatch}

-- A feed: the direction that it expects, and the octets of the batch that is not whole yet.
pub record Feed : Type 0 where
  pub from_server : Bool
  pub feeding : Feeding PbFault

-- What a feed answers, by its variants.
abbrev pub fed_of : BatchFed → Fed Batch PbFault
fed_of fed.More = Waits
fed_of (fed.Done batch used) = Gives batch used
fed_of (fed.Fault f) = Stops (refused.Fault f)
fed_of fed.Memory = Stops refused.Memory

-- After a fault a feed of batches holds nothing: no call reports octets of that batch.
abbrev pub KEPT : ℕ
KEPT = 0

-- What a feed answers to a piece, and the feed afterwards.
pub record Feeds (before : Feed) (piece : List ℕ) (answer : BatchFed) (after : Feed) : Type 0 where
  pub direction : after.from_server ≡ before.from_server
  pub feeds : FeedsAny (front_of before.from_server) KEPT before.feeding piece (fed_of answer) after.feeding

-- This holds of the batch, where a feed hands one out.
abbrev pub IfDone : BatchFed → (Batch → Type 0) → Type 0
IfDone (fed.Done batch used) holds = holds batch
IfDone fed.More holds = Unit {0}
IfDone (fed.Fault f) holds = Unit {0}
IfDone fed.Memory holds = Unit {0}

-- What octets that are held, and no batch yet, become with a piece. When memory runs out, what was
-- held is a prefix of what is.
abbrev pub Grows : Bool → List ℕ → List ℕ → Result (Option (Batch × ℕ)) (Refused PbFault) → List ℕ → Type 0
Grows from_server held piece (Ok None) after = (front_of from_server (held ++ piece) ≡ More) × (after ≡ held ++ piece)
Grows from_server held piece (Ok (Some done)) after = (front_of from_server (held ++ piece) ≡ Whole done.0 (length held + done.1)) × (0 < done.1) × (done.1 ≤ length piece) × IsBatch done.0
Grows from_server held piece (Err (refused.Fault f)) after = front_of from_server (held ++ piece) ≡ Bad f
Grows from_server held piece (Err refused.Memory) after = take (length held) after ≡ held

-- Octets of a piece were put after those that are held, up to that many in all.
pub record Filled (want : ℕ) (before piece after : List ℕ) (count : ℕ) : Type 0 where
  pub counted : count ≡ min (want - length before) (length piece)
  pub joined : after ≡ before ++ take count piece
