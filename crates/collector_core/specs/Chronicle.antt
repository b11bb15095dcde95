-- The chronicle of a collector: how it began, and what was entered since. What it says of the
-- inventory: the history of its epochs (RFC 8412, section 3.7.1), the records that are live, the
-- point, and which events are still kept.
use Rattle.std.specs.Prelude.{◌+◌, ◌-◌, ℕ, List, [], ◌∷◌, ◌++◌, length, take, fold, max}
use Rattle.swima_model.specs.declared.event.Action.{Action}
use Rattle.swima_model.specs.declared.event.Action.TheVariants.{Creation, Deletion, Alteration}
use Rattle.swima_model.specs.declared.record.Content.{Content}
use Rattle.swima_model.specs.declared.record.Record.{Record}
use Rattle.swima_model.specs.declared.report.Point.{Point}
use Rattle.swima_model.specs.History.{Epoch, History}
use Rattle.swima_model.specs.Live.{live}
use Rattle.collector_core.specs.declared.chronicle.Entry.{Entry}
use Rattle.collector_core.specs.declared.chronicle.Entry.TheVariants as entry

-- How it began: the number of its first epoch, how many events it keeps at most, and what was
-- there.
pub record Start : Type 0 where
  pub epoch : ℕ
  pub cap : ℕ
  pub contents : List Content

-- A chronicle: its start, and its entries in order.
pub record Chronicle : Type 0 where
  pub start : Start
  pub entries : List Entry

-- The chronicle with further entries after its own.
abbrev pub extended : Chronicle → List Entry → Chronicle
extended chronicle further = record chronicle { entries = chronicle.entries ++ further }

-- Its prefix: that many of its entries.
abbrev pub front : Chronicle → ℕ → Chronicle
front chronicle count = record chronicle { entries = take count chronicle.entries }

-- ---- epochs (section 3.7.6)

-- Records of these contents, with this identifier and those after it.
abbrev pub identified_from : ℕ → List Content → List Record
identified_from id [] = []
identified_from id (content ∷ others) = record { id = id; content = content } ∷ identified_from (id + 1) others

-- The first epoch: what was there has the identifiers 1, 2 and so on, without events.
abbrev pub first_epoch : Start → Epoch
first_epoch start = record { number = start.epoch; base = identified_from 1 start.contents; events = [] }

-- The epoch that is current after an entry: an event is one more of it, and a new epoch begins
-- with what is live.
abbrev pub epoch_after : Epoch → Entry → Epoch
epoch_after epoch (entry.Event event) = record epoch { events = epoch.events ++ event ∷ [] }
epoch_after epoch (entry.Epoch number) = record { number = number; base = live epoch.base epoch.events; events = [] }
epoch_after epoch (entry.Trim first) = epoch

-- The epoch that is current.
abbrev pub current : Chronicle → Epoch
current chronicle = fold epoch_after (first_epoch chronicle.start) chronicle.entries

-- An epoch with the entries after it, and the epochs after it.
abbrev pub epochs_from : Epoch → List Entry → History
epochs_from epoch [] = epoch ∷ []
epochs_from epoch (entry.Event event ∷ later) = epochs_from (epoch_after epoch (entry.Event event)) later
epochs_from epoch (entry.Epoch number ∷ later) = epoch ∷ epochs_from (epoch_after epoch (entry.Epoch number)) later
epochs_from epoch (entry.Trim first ∷ later) = epochs_from epoch later

-- Its history: its epochs in order.
abbrev pub history : Chronicle → History
history chronicle = epochs_from (first_epoch chronicle.start) chronicle.entries

-- The records that are live.
abbrev pub live_now : Chronicle → List Record
live_now chronicle = live (current chronicle).base (current chronicle).events

-- ---- numbers

-- The last event identifier of the current epoch, in which events have 1, 2 and so on; 0 where
-- there is none.
abbrev pub last_eid : Chronicle → ℕ
last_eid chronicle = length (current chronicle).events

-- Its point (section 3.7.1): the current epoch and its last event identifier.
abbrev pub point_of : Chronicle → Point
point_of chronicle = record { epoch = (current chronicle).number; eid = last_eid chronicle }

-- The first event identifier that is to be kept after an entry, as far as trims say so: a new
-- epoch begins with 1.
abbrev pub trim_after : ℕ → Entry → ℕ
trim_after first (entry.Event event) = first
trim_after first (entry.Epoch number) = 1
trim_after first (entry.Trim at) = max first at

-- The first event identifier that is kept: not below a trim of the current epoch, nor before the
-- latest that many events.
abbrev pub first_kept : Chronicle → ℕ
first_kept chronicle = max (fold trim_after 1 chronicle.entries) (last_eid chronicle + 1 - chronicle.start.cap)

-- The identifiers of the records that the event created.
abbrev pub created_by : Action → ℕ → List ℕ
created_by Creation id = id ∷ []
created_by Deletion id = []
created_by Alteration id = []

-- The identifiers of the records that were created.
abbrev pub created : List Entry → List ℕ
created [] = []
created (entry.Event event ∷ later) = created_by event.action event.subject.id ++ created later
created (entry.Epoch number ∷ later) = created later
created (entry.Trim first ∷ later) = created later

-- The identifier of the next record: 1 above the greatest that the start or a creation has.
abbrev pub next_id : Chronicle → ℕ
next_id chronicle = fold max (length chronicle.start.contents) (created chronicle.entries) + 1
