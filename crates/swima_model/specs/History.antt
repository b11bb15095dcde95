-- The history of an endpoint's inventory: epochs, and in each epoch events (RFC 8412,
-- section 3.7.1). Which histories are honest, and which reports answer from one.
use Rattle.std.specs.Prelude.{◌≡◌, ◌≢◌, ◌<◌, ◌≤◌, ◌+◌, ◌^◌, ◌&&◌, ℕ, Bool, false, not, is_some, List, [], ◌∷◌, ◌++◌, Option, Some, None, All, AllPairs, Contains, length, take, filter, nat_le}
use Rattle.std.specs.List.Sorted.{IsStrictlyIncreasing}
use Rattle.swima_model.specs.declared.event.Action.{Action}
use Rattle.swima_model.specs.declared.event.Action.TheVariants.{Creation, Deletion, Alteration}
use Rattle.swima_model.specs.declared.event.Event.{Event}
use Rattle.swima_model.specs.declared.record.Content.{Content}
use Rattle.swima_model.specs.declared.record.Record.{Record}
use Rattle.swima_model.specs.declared.report.Kind.{Kind}
use Rattle.swima_model.specs.declared.report.Point.{Point}
use Rattle.swima_model.specs.declared.report.Report.{Report}
use Rattle.swima_model.specs.declared.report.Report.TheVariants.{Inventory, Events}
use Rattle.swima_model.specs.Carried.{carries}
use Rattle.swima_model.specs.InOrder.{ids}
use Rattle.swima_model.specs.Kinds.{records_of_kind, events_of_kind}
use Rattle.swima_model.specs.Live.{live, record_of}
use Rattle.swima_model.specs.Size.{are_large}

-- An epoch: its number, the records that were live when it began, and its events in order.
pub record Epoch : Type 0 where
  pub number : ℕ
  pub base : List Record
  pub events : List Event

-- The epochs in their order.
abbrev pub History : Type 0
History = List Epoch

-- The records that are live after that many events of the epoch, as reports of a kind carry them.
abbrev pub live_at : Epoch → ℕ → Kind → List Record
live_at epoch count kind = records_of_kind kind (live epoch.base (take count epoch.events))

-- ---- honest histories

-- The content is carried by the event of a deletion, where this is live of its record.
abbrev pub is_carried : Option Record → Content → Bool
is_carried None content = false
is_carried (Some held) content = carries held.content content

-- The action, with this content, contradicts what is live of its record.
abbrev pub is_contradiction : Action → Option Record → Content → Bool
is_contradiction Creation held content = is_some held
is_contradiction Deletion held content = not (is_carried held content)
is_contradiction Alteration held content = not (is_some held)

-- The event contradicts what is live before it. It creates a record that is live, alters or deletes
-- one that is not, or deletes one with another content than the live one. There an empty body
-- counts as equal.
abbrev pub contradicts : List Record → Event → Bool
contradicts records event = is_contradiction event.action (record_of event.subject.id records) event.subject.content

-- The event identifiers are this number and those after it, one by one.
abbrev pub AreNumberedFrom : ℕ → List Event → Type 0
AreNumberedFrom eid [] = Unit {0}
AreNumberedFrom eid (event ∷ later) = (event.eid ≡ eid) × AreNumberedFrom (eid + 1) later

-- An event fits after those before it: it contradicts nothing, and what is live after it is not
-- too much.
pub record FitsBehind (base : List Record) (before : List Event) (event : Event) : Type 0 where
  pub agrees : contradicts (live base before) event ≡ false
  pub fits : are_large (live base (before ++ event ∷ [])) ≡ false

-- An epoch is honest where its number is not 0, the identifiers of its base rise and its base is
-- not too much. The identifiers of its events are 1, 2, 3 and so on and fit four octets, and each
-- event fits after those before it.
pub record IsHonestEpoch (epoch : Epoch) : Type 0 where
  pub numbered : 0 < epoch.number
  pub rising : IsStrictlyIncreasing (ids epoch.base)
  pub begins : are_large epoch.base ≡ false
  pub eids : AreNumberedFrom 1 epoch.events
  pub few : length epoch.events < 2 ^ 32
  pub fit : (before : List Event) (event : Event) (after : List Event) → epoch.events ≡ before ++ event ∷ after → FitsBehind epoch.base before event

-- A history is honest where its epochs are and no two of them have one number.
pub record IsHonest (history : History) : Type 0 where
  pub epochs : All IsHonestEpoch history
  pub distinct : AllPairs (λ (one other : Epoch). one.number ≢ other.number) history

-- ---- reports that answer from a history

-- The point lies in an epoch of the history, of which this holds.
pub record LiesIn (history : History) (point : Point) (holds : Epoch → Type 0) : Type 0 where
  pub epoch : Epoch
  pub among : Contains history epoch
  pub named : epoch.number ≡ point.epoch
  pub reached : point.eid ≤ length epoch.events
  pub holds_so : holds epoch

-- The events from one event identifier to another.
abbrev pub from_to : ℕ → ℕ → List Event → List Event
from_to first last events = filter (λ (e : Event). nat_le first e.eid && nat_le e.eid last) events

-- The events that are reported are none, or all of the epoch from the first that is reported to the
-- last that was consulted.
abbrev pub TellsAll : Epoch → Kind → ℕ → List Event → Type 0
TellsAll epoch kind consulted [] = Unit {0}
TellsAll epoch kind consulted (first ∷ others) = first ∷ others ≡ events_of_kind kind (from_to first.eid consulted epoch.events)

-- The report answers from the history at its point: an inventory is what is live there, and events
-- are those up to the last that was consulted, which is not after the point. This is of reports
-- without targets.
abbrev pub Answers : History → Report → Type 0
Answers history (Inventory kind fulfil id point records) = LiesIn history point (λ epoch. records ≡ live_at epoch point.eid kind)
Answers history (Events kind fulfil id point consulted events) = LiesIn history point (λ epoch. (consulted ≤ point.eid) × TellsAll epoch kind consulted events)
