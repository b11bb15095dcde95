-- The rule of a shelf: what is true of its table between any two steps. The words are the count of
-- entries, the next ticket and the turn; the slot has the book; and a seat has what its pass knows.
--
-- 1. There is one list of entries, as many as the count says, which may follow on each chronicle
--    that the opened book stood for. Each entry is of exactly one pass. What a pass has seen is a
--    prefix of the list, with its own entries marked, all of which it has seen. Each of the two
--    lists that a join left with a pass is a prefix too.
-- 2. A pass that may not change has no entry of its own. A sole pass may change, and no other may:
--    so all entries are its own, and it has seen them all.
-- 3. Tickets differ. They are at least the turn and below the next ticket, which is the turn and as
--    many more as passes have tickets.
-- 4. A pass that is at its turn has the turn as its ticket. From its read at turn on it has seen
--    the whole list.
-- 5. The slot is empty only while the pass whose ticket is the turn has the book. Where the book is
--    in the slot, it stands for each chronicle that the opened book stood for, followed by the
--    list.
-- 6. The count is at most the turn, and 1 more while the pass at its turn has committed.
use Rattle.std.specs.Prelude.{◌≡◌, ◌≢◌, ◌⊎◌, ◌<◌, ◌≤◌, ◌+◌, ◌^◌, ℕ, zero, suc, true, false, List, [], ◌∷◌, length, Option, Some}
use mathlib.Core.Option as maybe
use mathlib.Core.Option.{some, none}
use lib.ListN.{get_elem?}
use Rattle.atomic_table.specs.Table.{State}
use Rattle.collector_core.specs.Desks.{entries}
use Rattle.collector_core.specs.Standing.{BookView}
use Rattle.book_lock.specs.declared.view.View.{View}
use Rattle.book_lock.specs.Logs.{Begins, Known, LegalWith, Logged, NoneBy, Saw, StandsWith, entries_in, marked}
use Rattle.book_lock.specs.Passes.{Agree}

-- What is true of one pass, by its number.
pub record Knows (start : BookView) (tickets turn : ℕ) (log : List Logged) (number : ℕ) (v : View) : Type 0 where
  -- Sentence 1. A pass that another took in knows nothing of the opened book.
  pub opened : v.spent ≡ false → v.start ≡ start
  pub saw : Saw number log v.seen
  pub left : Begins (entries v.left) log
  pub right : Begins (entries v.right) log
  pub agree : Agree v.left v.right
  pub left_whole : v.left_sole ≡ true → length v.right ≤ length v.left
  pub right_whole : v.right_sole ≡ true → length v.left ≤ length v.right
  -- Sentence 2.
  pub bare : v.may_change ≡ false → NoneBy number log
  -- Sentence 3.
  pub ticketed : 0 < v.stage → (turn ≤ v.ticket) × (v.ticket < tickets)
  -- Sentence 4.
  pub at_turn : 2 ≤ v.stage → v.ticket ≡ turn
  pub whole : 3 ≤ v.stage → v.seen ≡ marked number log

-- Sentence 2, of a sole pass.
pub record Alone (views : List View) (number : ℕ) (v : View) : Type 0 where
  pub may : v.sole ≡ true → v.may_change ≡ true
  pub only : v.sole ≡ true → (other : ℕ) (u : View) → get_elem? views other ≡ some u → u.may_change ≡ true → other ≡ number

-- How many passes have a ticket.
abbrev pub has_ticket : ℕ → ℕ
has_ticket zero = 0
has_ticket (suc stage) = 1

abbrev pub waiting : List View → ℕ
waiting [] = 0
waiting (v ∷ later) = has_ticket v.stage + waiting later

-- The book is in the slot, and no pass has it.
pub record IsHome (start : BookView) (log : List Logged) (views : List View) (homes : List (maybe.Option (Option BookView))) : Type 0 where
  pub book : BookView
  pub there : homes ≡ some (Some book) ∷ []
  pub stands : StandsWith start book (entries_in log)
  pub nobody : (number : ℕ) (v : View) → get_elem? views number ≡ some v → v.stage < 3

-- The slot is empty, and a pass at its turn has the book.
pub record IsOut (views : List View) (homes : List (maybe.Option (Option BookView))) : Type 0 where
  pub empty : homes ≡ none ∷ []
  pub number : ℕ
  pub v : View
  pub there : get_elem? views number ≡ some v
  pub holds : 3 ≤ v.stage

-- The rule.
pub record Kept (start : BookView) (s : State (Option BookView) View) : Type 0 where
  pub log : List Logged
  pub tickets : ℕ
  pub turn : ℕ
  pub words : s.words ≡ length log ∷ tickets ∷ turn ∷ []
  pub room : tickets < 2 ^ 64
  -- Sentence 1, and what the others say of one pass.
  pub legal : LegalWith start (entries_in log)
  pub known : Known (length s.views) log
  pub each : (number : ℕ) (v : View) → get_elem? s.views number ≡ some v → Knows start tickets turn log number v
  -- Sentence 2.
  pub alone : (number : ℕ) (v : View) → get_elem? s.views number ≡ some v → Alone s.views number v
  -- Sentence 3.
  pub distinct : (one other : ℕ) (v w : View) → get_elem? s.views one ≡ some v → get_elem? s.views other ≡ some w
      → 0 < v.stage → 0 < w.stage → v.ticket ≡ w.ticket → one ≡ other
  pub counted : tickets ≡ turn + waiting s.views
  -- Sentence 5.
  pub place : IsHome start log s.views s.homes ⊎ IsOut s.views s.homes
  -- Sentence 6.
  pub at_most : length log ≤ turn + 1
  pub fewer : ((number : ℕ) (v : View) → get_elem? s.views number ≡ some v → v.stage ≢ 4) → length log ≤ turn
