-- What a pass of a shelf has seen, and what of it is its own; and what the calls of a shelf say of
-- it.
use Rattle.std.specs.Prelude.{◌≡◌, ◌+◌, ◌||◌, ◌&&◌, ℕ, Bool, true, false, List, [], ◌∷◌, ◌++◌, map, refl, Result, Ok, Err, if◌then◌else◌}
use base.Stored.{Coded-set}
use Rattle.std.specs.Coded.{Coded, code_by, coded×, coded_bool, coded_list}
use Rattle.atomic_table.specs.Seated.{TableId, table_id_coded}
use Rattle.collector_core.specs.contracts.book.Book as book_type
use Rattle.collector_core.specs.contracts.chronicle.Mark as mark_type
use Rattle.collector_core.specs.declared.book.edit.Changed.{Changed}
use Rattle.collector_core.specs.declared.book.edit.Edit.{Edit}
use Rattle.collector_core.specs.declared.chronicle.Entry.{Entry}
use Rattle.collector_core.specs.declared.chronicle.Mark.{Mark}
use Rattle.collector_core.specs.declared.error.BookError.{BookError}
use Rattle.collector_core.specs.Chronicle.{Chronicle, extended}
use Rattle.collector_core.specs.Desks.{AreOthers, AreOwn, State, entries, own_mark}
use Rattle.collector_core.specs.Edits.{Makes, edited_id}
use Rattle.collector_core.specs.Standing.{BookView, Stands, StandsForSome}
use Rattle.book_lock.specs.Logs.{LegalWith, StandsWith}

-- ---- a pass

-- A pass: the shelf that it is of, and the book that was opened. `seen` has the entries since then
-- that it has seen, in order, with its own marked. A pass that is sole is the only one of the shelf
-- that may change.
pub record PassView : Type 0 where
  pub shelf : TableId
  pub start : BookView
  pub seen : List Mark
  pub may_change : Bool
  pub sole : Bool

-- How a pass is kept in proofs.
abbrev pub pass_coded : Coded PassView
pass_coded =
    code_by (TableId × (BookView × (List Mark × (Bool × Bool))))
    (coded× table_id_coded (coded× book_type.the_row.coded (coded× (coded_list mark_type.the_row.coded) (coded× coded_bool coded_bool))))
    (λ p. (p.shelf, (p.start, (p.seen, (p.may_change, p.sole)))))
    (λ q. record { shelf = q.0; start = q.1.0; seen = q.1.1.0; may_change = q.1.1.1.0; sole = q.1.1.1.1 })
    (λ _. refl)

pub shelf_set : (one other : TableId) (p q : one ≡ other) → p ≡ q
shelf_set one other p q = Coded-set table_id_coded one other p q

-- The places of its own entries among those that it has seen, from this place on: they rise.
abbrev pub own_places_from : ℕ → List Mark → List ℕ
own_places_from place [] = []
own_places_from place (mark ∷ later) =
    if mark.own then place ∷ own_places_from (place + 1) later else own_places_from (place + 1) later

abbrev pub own_places : PassView → List ℕ
own_places pass = own_places_from 0 pass.seen

-- What is true of each pass. Its opened book stood for some chronicle, and what it has seen may
-- follow on each such chronicle. A sole pass may change, and all that it has seen is its own. A
-- pass that may not change has no entry of its own.
pub record IsSound (pass : PassView) : Type 0 where
  pub some : StandsForSome pass.start
  pub lawful : LegalWith pass.start (entries pass.seen)
  pub sole_may : pass.sole ≡ true → pass.may_change ≡ true
  pub sole_own : pass.sole ≡ true → AreOwn pass.seen
  pub bare : pass.may_change ≡ false → AreOthers pass.seen

-- ---- a pass as a desk

-- It stands for the chronicles that the opened book stood for, each followed by what it has seen.
pub record PassStands (pass : PassView) (chronicle : Chronicle) : Type 0 where
  pub before : Chronicle
  pub stood : Stands pass.start before
  pub is : chronicle ≡ extended before (entries pass.seen)
  pub lawful : LegalWith pass.start (entries pass.seen)

-- From the one state to the other it saw these entries. On a sole pass all are its own.
pub record PassWent (before : PassView) (marks : List Mark) (after : PassView) : Type 0 where
  pub shelf : after.shelf ≡ before.shelf
  pub start : after.start ≡ before.start
  pub seen : after.seen ≡ before.seen ++ marks
  pub may_change : after.may_change ≡ before.may_change
  pub sole : after.sole ≡ before.sole
  pub alone : before.sole ≡ true → AreOwn marks
  pub lawful : LegalWith before.start (entries before.seen) → LegalWith after.start (entries after.seen)

-- It is as it was, but has seen others' entries too.
abbrev pub Grows : PassView → PassView → Type 0
Grows before after = (others : List Mark) × AreOthers others × PassWent before others after

-- To what a sole pass has seen, a change adds its own entry and nothing else. A change that is
-- refused adds nothing.
abbrev pub AddsOwn : {T : Type 0} → List Mark → Result T BookError → List Mark → Type 0
AddsOwn before (Ok told) after = (made : Entry) × (after ≡ before ++ own_mark made ∷ [])
AddsOwn before (Err error) after = after ≡ before

-- The edit makes the entry, and concerns the record that is reported.
abbrev pub Reports : Edit → Changed → State → Entry → Type 0
Reports edit changed state made = Makes edit state made × (changed.id ≡ edited_id edit state)

-- ---- several passes

-- What a pass has seen, as another sees it that has no entry of its own.
abbrev pub as_other : Mark → Mark
as_other mark = record { entry = mark.entry; own = false }

abbrev pub as_others : List Mark → List Mark
as_others seen = map as_other seen

-- One list begins the other, and no place in it is own in both.
abbrev pub Agree : List Mark → List Mark → Type 0
Agree [] other = Unit {0}
Agree (mark ∷ later) [] = Unit {0}
Agree (mark ∷ later) (other ∷ others) = (mark.entry ≡ other.entry) × ((mark.own && other.own) ≡ false) × Agree later others

-- The longer list, in which is own what is so in either.
abbrev pub merged : List Mark → List Mark → List Mark
merged [] other = other
merged (mark ∷ later) [] = mark ∷ later
merged (mark ∷ later) (other ∷ others) = record { entry = mark.entry; own = mark.own || other.own } ∷ merged later others

-- The pass after it has met another.
abbrev pub met : PassView → PassView → PassView
met pass other = record {
  shelf = pass.shelf;
  start = pass.start;
  seen = merged pass.seen other.seen;
  may_change = pass.may_change || other.may_change;
  sole = pass.sole || other.sole;
}

-- The new pass that was split from it.
abbrev pub split_from : PassView → Bool → PassView
split_from pass changes = record {
  shelf = pass.shelf;
  start = pass.start;
  seen = as_others pass.seen;
  may_change = changes;
  sole = false;
}

-- ---- the end

-- The book stands for what the last pass has seen, and between the pass and it these were others'
-- entries; on a sole pass there are none.
pub record Closes (pass : PassView) (ended : BookView) (last : PassView) : Type 0 where
  pub others : List Mark
  pub theirs : AreOthers others
  pub grows : PassWent pass others last
  pub stands : StandsWith pass.start ended (entries last.seen)
  pub alone : pass.sole ≡ true → others ≡ []
