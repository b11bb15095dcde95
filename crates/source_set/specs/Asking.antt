-- How a source is asked, and what is done of what it reports.
use Rattle.std.specs.Prelude.{◌≡◌, ◌==◌, ◌<◌, ◌⊎◌, ℕ, Bool, true, false, List, [], ◌∷◌, ◌++◌, Option, Some, None, Result, Ok, Err, length, map}
use Rattle.wire_base.specs.Outside.{HasCause}
use Rattle.collector_core.specs.declared.chronicle.Mark.{Mark}
use Rattle.collector_core.specs.declared.error.BookError.TheVariants as refused
use Rattle.collector_core.specs.Chronicle.{Chronicle}
use Rattle.source_set.specs.Deeds.{Done, deeds, does, gives_up, keys_after, leaves}
use Rattle.source_set.specs.Doing.{IsKnown, Performs, Place, Works}
use Rattle.source_set.specs.Items.{Gave, Reported, Tells}
use Rattle.source_set.specs.Keys.{Held}
use Rattle.source_set.specs.declared.doing.Undone.{Undone}
use Rattle.source_set.specs.declared.doing.Undone.TheVariants as undone
use Rattle.source_set.specs.declared.seat.Seat.{Seat}
use Rattle.source_set.specs.declared.seat.Stop.{Stop}
use Rattle.source_set.specs.declared.swept.Swept.{Swept}
use Rattle.source_set.specs.declared.swept.SweepError.{SweepError}
use Rattle.source_set.specs.declared.swept.SweepError.TheVariants as swept
use Rattle.source_set.specs.declared.told.Told.{Told}
use Rattle.source_set.specs.declared.told.Told.TheVariants as told

-- The item with the number of its source in its content.
abbrev pub numbered : ℕ → Told → Told
numbered source (told.Add key content) = told.Add key (record content { source = source })
numbered source (told.Change key content) = told.Change key (record content { source = source })
numbered source other = other

-- A source, unless it was given up, with its keys, a desk and the counts.
pub record Stand (B D : Type 0) : Type 0 where
  pub source : Option B
  pub place : Place D

abbrev pub stand : {B D : Type 0} → Seat B → D → Swept → Stand B D
stand seat desk swept = record { source = seat.source; place = record { keys = seat.keys; desk = desk; swept = swept } }

-- ---- why a source is asked no further

abbrev pub without_item : SweepError → Stop
without_item error = record { error = error; item = None }

-- The error of an item that was not done, and whether it is kept.
abbrev pub stop_of : ℕ → Told → Undone → Stop
stop_of source item (undone.UnknownKey key) = without_item (swept.UnknownKey source key)
stop_of source item (undone.Book refused.Memory) = record { error = swept.Memory; item = Some item }
stop_of source item (undone.Book error) = record { error = swept.Book error; item = Some item }

-- A call of the outside failed, of the source of this number.
abbrev pub is_failure : ℕ → SweepError → Bool
is_failure number (swept.SourceFailed source) = source == number
is_failure number other = false

abbrev pub asked_failed : {T : Type 0} → ℕ → Result T Stop → Bool
asked_failed number (Ok done) = false
asked_failed number (Err stop) = is_failure number stop.error

-- The two halves of a fault's cause, of a source that may be given up. Where it was or is given up,
-- no call of it failed.
abbrev pub HasCauseAt : {B : Type 0} → (B → ℕ) → Option B → Option B → Bool → Type 0
HasCauseAt faults (Some before) (Some after) failed = HasCause (faults before) (faults after) failed
HasCauseAt faults (Some before) None failed = failed ≡ false
HasCauseAt faults None after failed = (after ≡ None) × (failed ≡ false)

-- ---- what is done of an item

-- What it is that a source reports: something to be done, or not.
abbrev pub IsItem : Told → Type 0
IsItem (told.Add key content) = Unit {0}
IsItem (told.Change key content) = Unit {0}
IsItem (told.Gone key) = Unit {0}
IsItem told.Ended = Unit {0}
IsItem other = ⊥

-- What is answered of what is no item.
abbrev pub NoItem : ℕ → Told → Result Bool Stop → Type 0
NoItem number (told.Bad line) answer = answer ≡ Err (without_item (swept.BadLine number line))
NoItem number told.Quiet answer = answer ≡ Ok false
NoItem number told.Failed answer = answer ≡ Err (without_item (swept.SourceFailed number))
NoItem number told.Memory answer = answer ≡ Err (without_item swept.Memory)
NoItem number item answer = ⊥

-- A source that ended is given up.
abbrev pub left_by : {B : Type 0} → Told → Option B → Option B
left_by told.Ended source = None
left_by other source = source

-- Of any boxes and any desk, at one stamp.
module _ {B D : Type 0} (stands : D → Chronicle → Type 0) (went : D → List Mark → D → Type 0) (stamp : List ℕ) where
  -- The item was done.
  pub record Does (item : Told) (before after : Stand B D) : Type 0 where
    pub new : ℕ
    pub known : IsKnown before.place.keys item
    pub works : Works stands went stamp before.place.desk after.place.desk before.place.swept after.place.swept (does before.place.keys new item ++ gives_up item)
    pub keys : after.place.keys ≡ leaves before.place.keys new item
    pub source : after.source ≡ left_by item before.source

  -- The item was not done, for this reason.
  pub record Refused (item : Told) (number : ℕ) (before after : Stand B D) (stop : Stop) : Type 0 where
    pub why : Undone
    pub is : stop ≡ stop_of number item why
    pub undone : Performs stands went stamp item before.place after.place (Err why)
    pub source : after.source ≡ before.source

  -- The item was done or not.
  abbrev pub Tries : Told → ℕ → Stand B D → Stand B D → Result Unit Stop → Type 0
  Tries item number before after (Ok done) = Does item before after
  Tries item number before after (Err stop) = Refused item number before after stop

  -- Nothing is done of what is no item.
  abbrev pub Stops : Told → ℕ → Stand B D → Stand B D → Stop → Type 0
  Stops (told.Bad line) number before after stop = (stop ≡ without_item (swept.BadLine number line)) × (after ≡ before)
  Stops told.Failed number before after stop = (stop ≡ without_item (swept.SourceFailed number)) × (after ≡ before)
  Stops told.Memory number before after stop = (stop ≡ without_item swept.Memory) × (after ≡ before)
  Stops told.Quiet number before after stop = ⊥
  Stops item number before after stop = Refused item number before after stop

  -- What was done of what a source reported: it may be asked for more, or is quiet, or stops.
  abbrev pub Hears : Told → ℕ → Stand B D → Stand B D → Result Bool Stop → Type 0
  Hears item number before after (Ok true) = IsItem item × Does item before after
  Hears item number before after (Ok false) = (item ≡ told.Quiet) × (after ≡ before)
  Hears item number before after (Err stop) = Stops item number before after stop

-- ---- what a source reports in a row

-- Of the items, these were reported one after another, and these are left. Where none is left the
-- source is quiet.
abbrev pub Follows : List Told → List Told → List Told → Type 0
Follows items [] later = later ≡ items
Follows items (item ∷ run) later = (between : List Told) × Tells items item between × Follows between run later

-- The items that were done.
abbrev pub items_of : List Done → List Told
items_of dones = map (λ (done : Done). done.item) dones

-- Each is something that is done.
abbrev pub AreDone : List Told → Type 0
AreDone [] = Unit {0}
AreDone (item ∷ run) = IsItem item × AreDone run

-- Each change and each end among them is of a key that is held then.
abbrev pub AreKnown : List Held → List Done → Type 0
AreKnown keys [] = Unit {0}
AreKnown keys (done ∷ later) = IsKnown keys done.item × AreKnown (leaves keys done.id done.item) later

-- Of any boxes, which report items, and any desk, at one stamp.
module _ {B D : Type 0} (reports : B → List Told → Type 0) (stands : D → Chronicle → Type 0) (went : D → List Mark → D → Type 0) (stamp : List ℕ) where
  -- A source will report these items, unless it was given up.
  abbrev pub IsLeft : Option B → List Told → Type 0
  IsLeft None items = Unit {0}
  IsLeft (Some source) items = reports source items

  -- A source reported these items one after another, the first of those that it would report.
  abbrev pub Ran : Option B → List Told → Option B → Type 0
  Ran None run after = (run ≡ []) × (after ≡ None)
  Ran (Some source) run after = (items : List Told) → reports source items → (later : List Told) × Follows items run later × IsLeft after later

  -- The source of this number was asked for items, and each was done.
  pub record Asked (number : ℕ) (before after : Stand B D) (run : List Told) (dones : List Done) : Type 0 where
    pub ran : Ran before.source run after.source
    pub are : items_of dones ≡ map (numbered number) run
    pub done : AreDone (items_of dones)
    pub known : AreKnown before.place.keys dones
    pub works : Works stands went stamp before.place.desk after.place.desk before.place.swept after.place.swept (deeds before.place.keys dones)
    pub keys : after.place.keys ≡ keys_after before.place.keys dones

  -- It was asked once. It reported an item, which was done; or it is quiet, or was given up; or it
  -- reported what stops it.
  abbrev pub AsksOnce : ℕ → Stand B D → Stand B D → Result Bool Stop → Type 0
  AsksOnce number before after (Ok true) = (source : B) × (onward : B) × (item : Told) × (before.source ≡ Some source) × Reported reports source item onward
      × IsItem (numbered number item) × Does stands went stamp (numbered number item) (record before { source = Some onward }) after
  AsksOnce number before after (Ok false) = ((before.source ≡ None) × (after ≡ before))
      ⊎ ((source : B) × (onward : B) × (before.source ≡ Some source) × Gave reports source told.Quiet onward × (after ≡ record before { source = Some onward }))
  AsksOnce number before after (Err stop) = (source : B) × (onward : B) × (item : Told) × (before.source ≡ Some source) × Reported reports source item onward
      × Stops stands went stamp (numbered number item) number (record before { source = Some onward }) after stop

  -- Asking it went no further: it was asked for as many items as may be, or once more, and then is
  -- quiet, was given up, or stops.
  abbrev pub Ends : ℕ → ℕ → Stand B D → Stand B D → Result Unit Stop → Type 0
  Ends number count middle after (Ok done) = ((count ≡ 1024) × (after ≡ middle)) ⊎ ((count < 1024) × AsksOnce number middle after (Ok false))
  Ends number count middle after (Err stop) = (count < 1024) × AsksOnce number middle after (Err stop)

  -- A source was asked: it reported a run of items, each of which was done, and then this.
  pub record Asks (number : ℕ) (before after : Stand B D) (result : Result Unit Stop) : Type 0 where
    pub middle : Stand B D
    pub run : List Told
    pub dones : List Done
    pub asked : Asked number before middle run dones
    pub ends : Ends number (length run) middle after result
