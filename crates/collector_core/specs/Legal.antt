-- Which chronicles are legal: those that a collector can come to.
use Rattle.std.specs.Prelude.{◌≡◌, ◌<◌, ◌≤◌, ◌+◌, ◌-◌, ◌^◌, List, ◌∷◌, ◌++◌, Some, All, length}
use Rattle.wire_base.specs.Layout.{AreOctets}
use Rattle.wire_base.specs.Stamp.{IsStamp}
use Rattle.swima_model.specs.declared.event.Action.{Action}
use Rattle.swima_model.specs.declared.event.Action.TheVariants.{Creation, Deletion, Alteration}
use Rattle.swima_model.specs.declared.event.Event.{Event}
use Rattle.swima_model.specs.declared.record.Content.{Content}
use Rattle.swima_model.specs.declared.record.Record.{Record}
use Rattle.swima_model.specs.History.{IsHonest}
use Rattle.swima_model.specs.Live.{record_of}
use Rattle.collector_core.specs.declared.chronicle.Entry.{Entry}
use Rattle.collector_core.specs.declared.chronicle.Entry.TheVariants as entry
use Rattle.collector_core.specs.Chronicle.{Start, Chronicle, current, history, live_now, last_eid, next_id}

-- A content whose parts are octets and within their limits (RFC 8412, section 5.7).
pub record IsContent (content : Content) : Type 0 where
  pub pen : content.model.pen < 2 ^ 24
  pub kind : content.model.kind < 2 ^ 8
  pub source : content.source < 2 ^ 8
  pub ident : length content.ident ≤ 65535
  pub locator : length content.locator ≤ 65535
  pub body : length content.body ≤ 1048576
  pub octets : AreOctets content.ident × AreOctets content.locator × AreOctets content.body

-- A start whose numbers are within their limits.
pub record IsStart (start : Start) : Type 0 where
  pub epoch : (1 ≤ start.epoch) × (start.epoch < 2 ^ 32)
  pub cap : (1 ≤ start.cap) × (start.cap ≤ 4096)
  pub contents : All IsContent start.contents

-- The record of an event is the next one where it was created, below the last number of four
-- octets; and where it was deleted the one that was live, whole.
abbrev pub IsSubject : Chronicle → Action → Record → Type 0
IsSubject chronicle Creation subject = (subject.id ≡ next_id chronicle) × (subject.id < 2 ^ 32 - 1)
IsSubject chronicle Deletion subject = record_of subject.id (live_now chronicle) ≡ Some subject
IsSubject chronicle Alteration subject = Unit {0}

-- The event may follow on the chronicle, if it agrees with what is live.
pub record MayHappen (chronicle : Chronicle) (event : Event) : Type 0 where
  pub stamp : IsStamp event.stamp
  pub content : IsContent event.subject.content
  pub subject : IsSubject chronicle event.action event.subject

-- The entry may follow on the chronicle.
abbrev pub MayFollow : Chronicle → Entry → Type 0
MayFollow chronicle (entry.Event event) = MayHappen chronicle event
MayFollow chronicle (entry.Epoch number) = ((current chronicle).number < number) × (number < 2 ^ 32)
MayFollow chronicle (entry.Trim first) = first ≤ last_eid chronicle + 1

-- A chronicle is legal where its history is honest and each entry may follow on those before it.
pub record IsLegal (chronicle : Chronicle) : Type 0 where
  pub start : IsStart chronicle.start
  pub honest : IsHonest (history chronicle)
  pub follow : (before : List Entry) (entry : Entry) (after : List Entry) → chronicle.entries ≡ before ++ entry ∷ after
      → MayFollow (record chronicle { entries = before }) entry
