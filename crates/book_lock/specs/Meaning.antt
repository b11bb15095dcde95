-- What the definitions mean: each is proved as a law.
use Rattle.std.specs.Prelude.{◌≡◌, ◌≤◌, ◌<◌, ◌+◌, ℕ, true, List, [], ◌∷◌, length, Option}
use mathlib.Core.Option.{some}
use lib.ListN.{get_elem?}
use Rattle.atomic_table.specs.Table.{State}
use Rattle.collector_core.specs.Desks.{AreOwn, entries}
use Rattle.collector_core.specs.Standing.{BookView}
use Rattle.book_lock.specs.declared.view.View.{View}
use Rattle.book_lock.specs.Logs.{StandsWith, marked}
use Rattle.book_lock.specs.Passes.{Closes, PassView, own_places}
use Rattle.book_lock.specs.Rule.{Kept}
use Rattle.book_lock.specs.Together.{MetAll, one_if, own_at, owners}

-- ---- one pass

-- Each place is above those before it, and at least this one.
abbrev pub RiseFrom : ℕ → List ℕ → Type 0
RiseFrom low [] = Unit {0}
RiseFrom low (place ∷ later) = (low ≤ place) × RiseFrom (place + 1) later

-- The places of a pass's own entries rise.
abbrev pub OwnPlacesRise : Type 0
OwnPlacesRise = (pass : PassView) → RiseFrom 0 (own_places pass)

-- ---- all passes of a shelf, between any two steps

-- A sole pass has seen every entry, and each of them is its own.
abbrev pub SoleHasSeenAll : Type 0
SoleHasSeenAll = (start : BookView) (s : State (Option BookView) View) (kept : Kept start s) (number : ℕ) (v : View)
    → get_elem? s.views number ≡ some v → v.sole ≡ true → (v.seen ≡ marked number kept.log) × AreOwn v.seen

-- The pass has the entry at the place as its own.
abbrev pub Owns : List View → ℕ → ℕ → Type 0
Owns views place number = (v : View) × (get_elem? views number ≡ some v) × (own_at v.seen place ≡ true)

-- Each entry is exactly one pass's own.
abbrev pub EachIsOwned : Type 0
EachIsOwned = (start : BookView) (s : State (Option BookView) View) (kept : Kept start s) (place : ℕ) → place < length kept.log
    → (number : ℕ) × Owns s.views place number × ((other : ℕ) → Owns s.views place other → other ≡ number)

-- ---- passes that met, with which the shelf was then closed

-- The book stands for what the last pass has seen. An entry of that was own in exactly one of the
-- passes where it is own there, and in none where it is not. Where one of the passes was sole, each
-- entry was own in exactly one.
abbrev pub MetAreTheChronicle : Type 0
MetAreTheChronicle = (passes : List PassView) (one last : PassView) (ended : BookView) → MetAll passes one → Closes one ended last
    → StandsWith one.start ended (entries last.seen)
    × ((place : ℕ) → owners place passes ≡ one_if (own_at last.seen place))
    × (one.sole ≡ true → (place : ℕ) → place < length last.seen → owners place passes ≡ 1)
