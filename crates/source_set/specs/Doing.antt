-- An item of a source, done at a desk, or refused.
use Rattle.std.specs.Prelude.{◌≡◌, ℕ, List, [], ◌∷◌, Option, Some, None, Result, Ok, Err, drop, take}
use Rattle.swima_model.specs.declared.record.Content.{Content}
use Rattle.collector_core.specs.declared.chronicle.Mark.{Mark}
use Rattle.collector_core.specs.declared.error.BookError.{BookError}
use Rattle.collector_core.specs.declared.error.BookError.TheVariants as refused
use Rattle.collector_core.specs.Chronicle.{Chronicle}
use Rattle.collector_core.specs.Desks.{State, alters_not, creates_not, deletes_not, owned, state_of}
use Rattle.source_set.specs.Deeds.{Creates, Deed, Make, count, deletions, does, leaves}
use Rattle.source_set.specs.Keys.{Held, by_id, id_at, without_all}
use Rattle.source_set.specs.declared.doing.Undone.{Undone}
use Rattle.source_set.specs.declared.doing.Undone.TheVariants as undone
use Rattle.source_set.specs.declared.swept.Swept.{Swept}
use Rattle.source_set.specs.declared.told.Told.{Told}
use Rattle.source_set.specs.declared.told.Told.TheVariants as told

-- The keys that a source holds, a desk, and what was counted.
pub record Place (D : Type 0) : Type 0 where
  pub keys : List Held
  pub desk : D
  pub swept : Swept

-- ---- when an item is refused

-- It is of no key that is held.
abbrev pub IsUnknown : List Held → Told → ℕ → Type 0
IsUnknown keys (told.Change key content) at = (at ≡ key) × (id_at key keys ≡ None)
IsUnknown keys (told.Gone key) at = (at ≡ key) × (id_at key keys ≡ None)
IsUnknown keys other at = ⊥

-- A change or an end is of a key that is held.
abbrev pub IsKnown : List Held → Told → Type 0
IsKnown keys (told.Change key content) = (id : ℕ) × (id_at key keys ≡ Some id)
IsKnown keys (told.Gone key) = (id : ℕ) × (id_at key keys ≡ Some id)
IsKnown keys other = Unit {0}

-- Why the desk refuses it at a state: for an end, the first deletion that is not done.
abbrev pub addition_not : Content → Option ℕ → State → Option BookError
addition_not content None = creates_not content
addition_not content (Some id) = alters_not id content

abbrev pub alteration_not : Content → Option ℕ → State → Option BookError
alteration_not content None = λ state. None
alteration_not content (Some id) = alters_not id content

abbrev pub deletion_not : Option ℕ → State → Option BookError
deletion_not None = λ state. None
deletion_not (Some id) = deletes_not id

abbrev pub first_not : List Held → State → Option BookError
first_not [] = λ state. None
first_not (held ∷ others) = deletes_not held.1

abbrev pub does_not : List Held → ℕ → Told → State → Option BookError
does_not keys done (told.Add key content) = addition_not content (id_at key keys)
does_not keys done (told.Change key content) = alteration_not content (id_at key keys)
does_not keys done (told.Gone key) = deletion_not (id_at key keys)
does_not keys done told.Ended = first_not (drop done (by_id keys))
does_not keys done other = λ state. None

-- How many deletions of an end were done before it was refused; of another item none.
abbrev pub IsPart : Told → ℕ → Type 0
IsPart told.Ended done = Unit {0}
IsPart other done = done ≡ 0

-- ---- what a call says

-- Of any desk, at one stamp.
module _ {D : Type 0} (stands : D → Chronicle → Type 0) (went : D → List Mark → D → Type 0) (stamp : List ℕ) where
  -- From the one desk to the other these deeds were done, in order, and counted.
  pub record Works (before after : D) (swept counts : Swept) (deeds : List Deed) : Type 0 where
    pub marks : List Mark
    pub grows : went before marks after
    pub made : Make stamp deeds (owned marks)
    pub counted : counts ≡ count swept deeds

  -- At some chronicle that the desk stands for, this is the refusal.
  abbrev pub Refuses : D → (State → Option BookError) → BookError → Type 0
  Refuses desk refusal refused.Memory = Unit {0}
  Refuses desk refusal error = (chronicle : Chronicle) × stands desk chronicle × (refusal (state_of chronicle) ≡ Some error)

  -- A record was created, with the identifier that is answered, or the desk refused it.
  abbrev pub CreatesOne : Content → D → D → Swept → Swept → Result ℕ BookError → Type 0
  CreatesOne content before after swept counts (Ok id) = Works before after swept counts (Creates id content ∷ [])
  CreatesOne content before after swept counts (Err error) = Works before after swept counts [] × Refuses after (creates_not content) error

  -- One deed was done, or the desk refused it.
  abbrev pub Once : Deed → (State → Option BookError) → D → D → Swept → Swept → Result Unit Undone → Type 0
  Once deed refusal before after swept counts (Ok done) = Works before after swept counts (deed ∷ [])
  Once deed refusal before after swept counts (Err (undone.UnknownKey key)) = ⊥
  Once deed refusal before after swept counts (Err (undone.Book error)) = Works before after swept counts [] × Refuses after refusal error

  -- The item was done; or it is of no key that is held, and nothing was done; or the desk refused
  -- it, or memory ran out. Then the first deletions of an end may be done, and their keys are gone.
  abbrev pub Performs : Told → Place D → Place D → Result Unit Undone → Type 0
  Performs item before after (Ok done) = (new : ℕ) × IsKnown before.keys item × Works before.desk after.desk before.swept after.swept (does before.keys new item)
      × (after.keys ≡ leaves before.keys new item)
  Performs item before after (Err (undone.UnknownKey key)) = IsUnknown before.keys item key × Works before.desk after.desk before.swept after.swept [] × (after.keys ≡ before.keys)
  Performs item before after (Err (undone.Book error)) = (part : ℕ) × IsPart item part
      × Works before.desk after.desk before.swept after.swept (deletions (take part (by_id before.keys)))
      × (after.keys ≡ without_all (take part (by_id before.keys)) before.keys) × Refuses after.desk (does_not before.keys part item) error
