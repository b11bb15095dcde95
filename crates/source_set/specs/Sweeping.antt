-- A set of sources, and a sweep over them.
use Rattle.std.specs.Prelude.{◌≡◌, ◌+◌, ◌<◌, ◌⊎◌, ℕ, Bool, true, false, List, [], ◌∷◌, Option, Some, None, Result, Ok, Err, get_or, length, map, set}
use Rattle.std.specs.Option.{option_map}
use Rattle.collector_core.specs.declared.chronicle.Mark.{Mark}
use Rattle.collector_core.specs.Chronicle.{Chronicle}
use Rattle.source_set.specs.Asking.{Asks, HasCauseAt, Tries, is_failure, stand}
use Rattle.source_set.specs.Deeds.{Deed}
use Rattle.source_set.specs.Doing.{Works}
use Rattle.source_set.specs.declared.seat.Seat.{Seat}
use Rattle.source_set.specs.declared.seat.Stop.{Stop}
use Rattle.source_set.specs.declared.set.Kept.{Kept}
use Rattle.source_set.specs.declared.set.Stopped.{Stopped}
use Rattle.source_set.specs.declared.swept.Swept.{Swept}
use Rattle.source_set.specs.declared.swept.SweepError.{SweepError}
use Rattle.source_set.specs.declared.swept.SweepError.TheVariants as error
use Rattle.source_set.specs.declared.told.Told.{Told}

-- ---- a set

-- The sources, each with the keys that it holds, in order of their numbers; the item that is to be
-- done first; and how many calls of the sources failed.
pub record SetView (B : Type 0) : Type 0 where
  pub seats : List (Seat B)
  pub kept : Option Kept
  pub faults : ℕ

-- A set of sources that hold no key.
abbrev pub seated : {B : Type 0} → List B → List (Seat B)
seated {B} sources = map (λ (source : B). record { source = Some source; keys = [] }) sources

abbrev pub fresh : {B : Type 0} → List B → SetView B
fresh sources = record { seats = seated sources; kept = None; faults = 0 }

-- What is kept is of one of that many sources.
abbrev pub IsSeated : ℕ → Option Kept → Type 0
IsSeated count None = Unit {0}
IsSeated count (Some kept) = kept.source < count

abbrev pub kept_of : ℕ → Option Told → Option Kept
kept_of source item = option_map (λ (item : Told). record { source = source; item = item }) item

-- ---- faults

-- A call of a source failed, of any or of that number.
abbrev pub is_source_failed : SweepError → Bool
is_source_failed (error.SourceFailed source) = true
is_source_failed other = false

abbrev pub sweep_failed : Result Unit SweepError → Bool
sweep_failed (Ok done) = false
sweep_failed (Err why) = is_source_failed why

abbrev pub is_failed_at : ℕ → Result Unit SweepError → Bool
is_failed_at number (Ok done) = false
is_failed_at number (Err why) = is_failure number why

abbrev pub stopped_failed : ℕ → Result Unit Stopped → Bool
stopped_failed number (Ok done) = false
stopped_failed number (Err stopped) = is_failure number stopped.stop.error

-- The two halves of a fault's cause, of each source: its count rose where it is the one that
-- failed, and is as it was where it is not.
abbrev pub HaveCauses : {B : Type 0} → (B → ℕ) → List (Seat B) → List (Seat B) → (ℕ → Bool) → Type 0
HaveCauses {B} faults before after failed = (length after ≡ length before)
    × ((number : ℕ) (seat : Seat B) → number < length before → HasCauseAt faults (get_or before number seat).source (get_or after number seat).source (failed number))

-- ---- a sweep

-- Sources, a desk and the counts.
pub record Row (B D : Type 0) : Type 0 where
  pub seats : List (Seat B)
  pub desk : D
  pub swept : Swept

abbrev pub row : {B D : Type 0} → List (Seat B) → D → Swept → Row B D
row seats desk swept = record { seats = seats; desk = desk; swept = swept }

-- Nothing is counted yet.
abbrev pub nothing : Swept
nothing = record { added = 0; changed = 0; gone = 0; dropped = 0 }

-- One source was done with, or stopped the sweep.
abbrev pub stopped_at : ℕ → Result Unit Stop → Result Unit Stopped
stopped_at number (Ok done) = Ok done
stopped_at number (Err stop) = Err (record { source = number; stop = stop })

-- Of any sources, which report items, and any desk, at one stamp.
module _ {B D : Type 0} (reports : B → List Told → Type 0) (stands : D → Chronicle → Type 0) (went : D → List Mark → D → Type 0) (stamp : List ℕ) where
  -- The item that was kept was done, or refused again; where there is none, nothing was done.
  pub record DoesOne (kept : Kept) (before after : Row B D) (result : Result Unit Stopped) : Type 0 where
    pub seat : Seat B
    pub left : Seat B
    pub answer : Result Unit Stop
    pub within : kept.source < length before.seats
    pub at : get_or before.seats kept.source seat ≡ seat
    pub tried : Tries stands went stamp kept.item kept.source (stand seat before.desk before.swept) (stand left after.desk after.swept) answer
    pub seats : after.seats ≡ set before.seats kept.source left
    pub is : result ≡ stopped_at kept.source answer

  abbrev pub DoesKept : Option Kept → Row B D → Row B D → Result Unit Stopped → Type 0
  DoesKept None before after result = (after ≡ before) × (result ≡ Ok tt)
  DoesKept (Some kept) before after result = DoesOne kept before after result

  -- The sources were asked in order, the first of which has that number, up to the one that stopped
  -- the sweep. No source after it was asked.
  abbrev pub AsksAll : ℕ → List (Seat B) → D → Swept → List (Seat B) → D → Swept → Result Unit Stopped → Type 0
  AsksAll number [] desk swept later after counts result = (later ≡ []) × (after ≡ desk) × (counts ≡ swept) × (result ≡ Ok tt)
  AsksAll number (seat ∷ others) desk swept [] after counts result = ⊥
  AsksAll number (seat ∷ others) desk swept (left ∷ later) after counts result =
      ((middle : D) × (between : Swept) × Asks reports stands went stamp number (stand seat desk swept) (stand left middle between) (Ok tt)
      × AsksAll (number + 1) others middle between later after counts result)
      ⊎ ((stop : Stop) × (result ≡ Err (record { source = number; stop = stop })) × Asks reports stands went stamp number (stand seat desk swept) (stand left after counts) (Err stop) × (later ≡ others))

  -- First the item that was kept, and then what the sources report.
  abbrev pub SweepsSeats : Option Kept → Row B D → Row B D → Result Unit Stopped → Type 0
  SweepsSeats kept before after result =
      ((middle : Row B D) × DoesKept kept before middle (Ok tt) × AsksAll 0 middle.seats middle.desk middle.swept after.seats after.desk after.swept result)
      ⊎ ((stopped : Stopped) × (result ≡ Err stopped) × DoesKept kept before after result)

  -- At Ok each item was done and none is kept; at a refusal each item before its cause was done,
  -- and the refused one is kept where it is to be done first next time.
  abbrev pub Sweeps : SetView B → SetView B → D → D → Swept → Result Unit SweepError → Type 0
  Sweeps before after desk left swept (Ok done) = SweepsSeats before.kept (row before.seats desk nothing) (row after.seats left swept) (Ok tt) × (after.kept ≡ None)
  Sweeps before after desk left swept (Err why) = (stopped : Stopped) × SweepsSeats before.kept (row before.seats desk nothing) (row after.seats left swept) (Err stopped)
      × (why ≡ stopped.stop.error) × (after.kept ≡ kept_of stopped.source stopped.stop.item)

  -- All that a sweep did was done one after another, and counted: of the entries that came
  -- meanwhile, the desk's own are those of these deeds, in order.
  abbrev pub WorksInAll : D → D → Swept → Type 0
  WorksInAll before after swept = (deeds : List Deed) × Works stands went stamp before after nothing swept deeds
