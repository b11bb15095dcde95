-- The steps of a pass on the table of its shelf. Each is one step on a word or a slot:
--
-- | step | word or slot | what changes of the pass |
-- |---|---|---|
-- | draw | next ticket, a compare-and-exchange that adds 1, until it succeeds | it has the ticket |
-- | look | turn, a load | it is at its turn, where the turn is its ticket |
-- | read at turn | count, a load; the book leaves the slot | it has seen all that was entered |
-- | take | slot, an exchange with nothing | nothing |
-- | commit | count, an addition of 1 | it has seen its own entry too, and has committed |
-- | bring back | slot, an exchange with the book | nothing |
-- | pass on | turn, an addition of 1; the book is in the slot again | it has no ticket |
-- | split | a load | it is not sole, where the new pass may change |
-- | join | a load | it has the longer list, and the entries of both are its own |
-- | settle | a load | it forgets the two lists that were joined |
--
-- A close is draw, look, read at turn and take.
use Rattle.std.specs.Prelude.{◌≡◌, ◌≤◌, ◌==◌, ◌||◌, ℕ, Bool, true, false, List, [], ◌∷◌, ◌++◌, length, Option, Some, None, MatchBool}
use Rattle.atomic_table.specs.Seated.{TableId}
use Rattle.atomic_table.specs.Table.{Me, Step}
use Rattle.atomic_table.specs.declared.shared.Seat.{Seat}
use Rattle.collector_core.specs.declared.chronicle.Entry.{Entry}
use Rattle.collector_core.specs.declared.chronicle.Mark.{Mark}
use Rattle.collector_core.specs.Desks.{AreOthers, AreOwn, entries, own_mark}
use Rattle.collector_core.specs.Standing.{BookView, book_of}
use Rattle.book_lock.specs.declared.view.View.{View}
use Rattle.book_lock.specs.Logs.{LegalWith, StandsWith}
use Rattle.book_lock.specs.Passes.{Agree, IsSound, PassView, as_others, merged}

-- A seat: what its pass knows, and what it has taken.
abbrev pub Seated : Type 0
Seated = Me (Option BookView) View

-- The seat is one of a shelf.
abbrev pub IsAt : TableId → TableId → Type 0
IsAt shelf seat = (seat ≡ shelf) × (shelf.words ≡ 3) × (shelf.slots ≡ 1)

-- It is the same seat.
abbrev pub Stays : Seat (Option BookView) View → Seat (Option BookView) View → Type 0
Stays before after = (after.table_id ≡ before.table_id) × (after.id ≡ before.id)

-- What callers see of a pass.
abbrev pub pass_of : TableId → View → PassView
pass_of shelf v = record { shelf = shelf; start = v.start; seen = v.seen; may_change = v.may_change; sole = v.sole }

-- The pass is at rest: it has taken nothing and has no ticket.
pub record Rests (shelf : TableId) (m : Seated) : Type 0 where
  pub empty : m.1 ≡ []
  pub idle : m.0.stage ≡ 0
  pub live : m.0.spent ≡ false
  pub sound : IsSound (pass_of shelf m.0)

-- The first pass: it may change and is sole.
abbrev pub newcomer : BookView → View
newcomer start = record {
  start = start;
  seen = [];
  left = [];
  right = [];
  left_sole = false;
  right_sole = false;
  may_change = true;
  sole = true;
  spent = false;
  stage = 0;
  ticket = 0;
}

-- ---- draw, look

abbrev pub drawn : View → ℕ → View
drawn v ticket = record v { stage = 1; ticket = ticket }

abbrev pub drew : Step (Option BookView) → Seated → ℕ → Seated → Type 0
drew step m found after = MatchBool (found == step.first) (after ≡ (drawn m.0 found, m.1)) (after ≡ m)

abbrev pub reached : View → View
reached v = record v { stage = 2 }

abbrev pub looked : Step (Option BookView) → Seated → ℕ → Seated → Type 0
looked step m found after = MatchBool (found == m.0.ticket) (after ≡ (reached m.0, m.1)) (after ≡ m)

-- ---- read at turn, take

abbrev pub holding : View → List Mark → View
holding v seen = record v { stage = 3; seen = seen }

-- It has seen others' entries, and the book is with it, which stands for all that it has seen. A
-- sole pass had seen all before.
pub record Took (v : View) (carried : List (ℕ × Option BookView)) (after : Seated) : Type 0 where
  pub others : List Mark
  pub theirs : AreOthers others
  pub book : BookView
  pub is : after ≡ (holding v (v.seen ++ others), (0, Some book) ∷ carried)
  pub stands : StandsWith v.start book (entries (v.seen ++ others))
  pub alone : v.sole ≡ true → others ≡ []

abbrev pub took : Step (Option BookView) → Seated → ℕ → Seated → Type 0
took step m found after = Took m.0 m.1 after

-- The same after the take, from the draw on.
pub record HasBook (v : View) (after : Seated) (book : BookView) : Type 0 where
  pub others : List Mark
  pub theirs : AreOthers others
  pub ticket : ℕ
  pub is : after ≡ (record v { stage = 3; ticket = ticket; seen = v.seen ++ others }, (0, None) ∷ [])
  pub stands : StandsWith v.start book (entries (v.seen ++ others))
  pub alone : v.sole ≡ true → others ≡ []

-- ---- commit, pass on

abbrev pub committing : View → Entry → View
committing v made = record v { stage = 4; seen = v.seen ++ own_mark made ∷ [] }

abbrev pub committed : Entry → Step (Option BookView) → Seated → ℕ → Seated → Type 0
committed made step m found after = after ≡ (committing m.0 made, m.1)

abbrev pub resting : View → View
resting v = record v { stage = 0 }

abbrev pub passed : Step (Option BookView) → Seated → ℕ → Seated → Type 0
passed step m found after = after ≡ (resting m.0, [])

-- ---- split

abbrev pub other_of : View → Bool → View
other_of v changes = record {
  start = v.start;
  seen = as_others v.seen;
  left = [];
  right = [];
  left_sole = false;
  right_sole = false;
  may_change = changes;
  sole = false;
  spent = false;
  stage = 0;
  ticket = 0;
}

abbrev pub reader_of : View → View
reader_of v = other_of v false

abbrev pub changer_of : View → View
changer_of v = other_of v true

abbrev pub shared : View → View
shared v = record v { sole = false }

-- ---- join, settle

abbrev pub joined : View → View → View
joined v w = record {
  start = v.start;
  seen = merged v.seen w.seen;
  left = v.seen;
  right = w.seen;
  left_sole = v.sole;
  right_sole = w.sole;
  may_change = v.may_change || w.may_change;
  sole = v.sole || w.sole;
  spent = v.spent;
  stage = 0;
  ticket = 0;
}

-- The book of nobody.
abbrev pub no_book : BookView
no_book = book_of (record { epoch = 0; cap = 0; contents = [] })

-- The pass that was taken in.
abbrev pub gone : View
gone = record {
  start = no_book;
  seen = [];
  left = [];
  right = [];
  left_sole = false;
  right_sole = false;
  may_change = false;
  sole = false;
  spent = true;
  stage = 0;
  ticket = 0;
}

abbrev pub settling : View → View
settling v = record v { left = []; right = []; left_sole = false; right_sole = false }

-- One of the two lists begins the other, and no place is own in both. That of a sole pass is the
-- longer. What is true of each pass of the pass itself.
pub record Settled (v : View) (carried : List (ℕ × Option BookView)) (after : Seated) : Type 0 where
  pub is : after ≡ (settling v, carried)
  pub agree : Agree v.left v.right
  pub left_whole : v.left_sole ≡ true → length v.right ≤ length v.left
  pub right_whole : v.right_sole ≡ true → length v.left ≤ length v.right
  pub sole_may : v.sole ≡ true → v.may_change ≡ true
  pub sole_own : v.sole ≡ true → AreOwn v.seen
  pub bare : v.may_change ≡ false → AreOthers v.seen
  pub lawful : LegalWith v.start (entries v.seen)

abbrev pub settled : Step (Option BookView) → Seated → ℕ → Seated → Type 0
settled step m found after = Settled m.0 m.1 after
