-- What a feed that has not stopped answers.
use Rattle.std.proofs.Common.{◌≡◌, ℕ, Bool, List, Option, None, subst}
use Rattle.wire_base.specs.declared.layout.field_refused.Refused.{Refused}
use Rattle.wire_base.specs.Feeding.{FeedsBy, TakesPiece}
use Rattle.pb_batch.specs.declared.fault.PbFault.{PbFault}
use Rattle.pb_batch.specs.declared.feed.BatchFed.{BatchFed}
use Rattle.pb_batch.specs.Feeding.{Feed, Feeds, KEPT, fed_of}
use Rattle.pb_batch.specs.Front.{front_of}

pub takes_piece : (server : Bool) (before after : Feed) (piece : List ℕ) (answer : BatchFed) → before.from_server ≡ server → before.feeding.stopped ≡ None
    → Feeds before piece answer after → TakesPiece (front_of server) KEPT before.feeding.octets piece (fed_of answer) after.feeding
takes_piece server before after piece answer is live feeds =
    subst (λ (side : Bool). TakesPiece (front_of side) KEPT before.feeding.octets piece (fed_of answer) after.feeding) is
    (subst (λ (stopped : Option (Refused PbFault)). FeedsBy (front_of before.from_server) KEPT stopped before.feeding piece (fed_of answer) after.feeding) live feeds.feeds)
