-- Desks: who keeps an inventory, changes it when asked to and answers of it, while others may
-- change it between two calls.
use Rattle.std.specs.Prelude.{◌≡◌, ◌≤◌, ◌+◌, ℕ, true, false, List, [], ◌∷◌, ◌++◌, Option, Some, None, Result, Ok, Err, length, map, filter}
use Rattle.swima_model.specs.declared.record.Content.{Content}
use Rattle.swima_model.specs.declared.record.Record.{Record}
use Rattle.collector_core.specs.declared.chronicle.Entry.{Entry}
use Rattle.collector_core.specs.declared.chronicle.Mark.{Mark}
use Rattle.collector_core.specs.declared.error.BookError.{BookError}
use Rattle.collector_core.specs.declared.error.BookError.TheVariants as refused
use Rattle.collector_core.specs.Chronicle.{Chronicle, current, extended, last_eid, live_now, next_id}
use Rattle.collector_core.specs.Refusals.{alter_refusal, create_refusal, delete_refusal}
use Rattle.collector_core.specs.Standing.{IsAlteration, IsCreation, IsDeletion}

-- ---- entries that came

-- The entries, whose ever they are.
abbrev pub entries : List Mark → List Entry
entries marks = map (λ (m : Mark). m.entry) marks

-- An entry of one's own.
abbrev pub own_mark : Entry → Mark
own_mark made = record { entry = made; own = true }

-- All are one's own.
abbrev pub AreOwn : List Mark → Type 0
AreOwn [] = Unit {0}
AreOwn (mark ∷ later) = (mark.own ≡ true) × AreOwn later

-- None is.
abbrev pub AreOthers : List Mark → Type 0
AreOthers [] = Unit {0}
AreOthers (mark ∷ later) = (mark.own ≡ false) × AreOthers later

-- The entries that are one's own, in order.
abbrev pub owned : List Mark → List Entry
owned marks = entries (filter (λ (m : Mark). m.own) marks)

-- ---- what a change looks at

-- The number of the current epoch, its last event identifier, the identifier of the next record,
-- and the records that are live.
pub record State : Type 0 where
  pub epoch : ℕ
  pub last : ℕ
  pub next : ℕ
  pub records : List Record

-- Those at a chronicle.
abbrev pub state_of : Chronicle → State
state_of chronicle = record { epoch = (current chronicle).number; last = last_eid chronicle; next = next_id chronicle; records = live_now chronicle }

-- The entry that creates a record of this content, and the identifier that is reported.
abbrev pub Creates : List ℕ → Content → ℕ → State → Entry → Type 0
Creates stamp content id state made = (id ≡ state.next) × IsCreation state.last state.next stamp content made

-- The entry that gives the record of this identifier another content.
abbrev pub Alters : {T : Type 0} → List ℕ → ℕ → Content → T → State → Entry → Type 0
Alters stamp id content told state made = IsAlteration state.last stamp id content made

-- The entry that deletes the record of this identifier.
abbrev pub Deletes : {T : Type 0} → List ℕ → ℕ → T → State → Entry → Type 0
Deletes stamp id told state made = IsDeletion state.last state.records stamp id made

-- Why it is refused.
abbrev pub creates_not : Content → State → Option BookError
creates_not content state = create_refusal state.last state.next state.records content

abbrev pub alters_not : ℕ → Content → State → Option BookError
alters_not id content state = alter_refusal state.last state.records id content

abbrev pub deletes_not : ℕ → State → Option BookError
deletes_not id state = delete_refusal state.last state.records id

-- ---- what a call says

-- Of any desk: `stands desk chronicle` where it stands for the chronicle, and
-- `went before marks after` where these entries came from the one to the other.
module _ {D : Type 0} (stands : D → Chronicle → Type 0) (went : D → List Mark → D → Type 0) where
  -- It was asked. There is a chronicle that it stood for. Others' entries may have come first;
  -- after them, at each chronicle that it stood for, this was answered.
  pub record Reads (before after : D) (answered : Chronicle → Type 0) : Type 0 where
    pub some : (chronicle : Chronicle) × stands before chronicle
    pub others : List Mark
    pub theirs : AreOthers others
    pub grows : went before others after
    pub answers : (chronicle : Chronicle) → stands before chronicle → answered (extended chronicle (entries others))

  -- After others' entries the change was done, with an entry that is as it says, exactly where
  -- nothing refuses it there. Memory is the last refusal.
  abbrev pub Does : {T : Type 0} → (T → State → Entry → Type 0) → (State → Option BookError) → D → List Mark → D → Result T BookError
      → Type 0
  Does says refusal before others after (Ok told) =
      (made : Entry) × went before (others ++ own_mark made ∷ []) after
      × ((chronicle : Chronicle) → stands before chronicle → (refusal (state_of (extended chronicle (entries others))) ≡ None)
      × says told (state_of (extended chronicle (entries others))) made)
  Does says refusal before others after (Err refused.Memory) =
      went before others after × ((chronicle : Chronicle) → stands before chronicle
      → refusal (state_of (extended chronicle (entries others))) ≡ None)
  Does says refusal before others after (Err error) =
      went before others after × ((chronicle : Chronicle) → stands before chronicle
      → refusal (state_of (extended chronicle (entries others))) ≡ Some error)

  -- It was asked to change. There is a chronicle that it stood for. Others' entries may have come
  -- first.
  pub record Edits {T : Type 0} (says : T → State → Entry → Type 0) (refusal : State → Option BookError) (before after : D)
      (result : Result T BookError) : Type 0 where
    pub some : (chronicle : Chronicle) × stands before chronicle
    pub others : List Mark
    pub theirs : AreOthers others
    pub done : Does says refusal before others after result

-- ---- places in a chronicle

-- Places never fall, from the lowest to the highest.
abbrev pub Rise : ℕ → ℕ → List ℕ → Type 0
Rise low high [] = Unit {0}
Rise low high (place ∷ later) = (low ≤ place) × (place ≤ high) × Rise place high later

-- No place is past this one.
abbrev pub Within : ℕ → List ℕ → Type 0
Within most [] = Unit {0}
Within most (place ∷ later) = (place ≤ most) × Within most later

-- That many entries after a chronicle.
abbrev pub behind : Chronicle → List ℕ → List ℕ
behind chronicle steps = map (λ (step : ℕ). length chronicle.entries + step) steps
