-- What the passes of a shelf have entered since it was opened.
use Rattle.std.specs.Prelude.{◌≡◌, ◌≢◌, ◌<◌, ◌==◌, ℕ, List, [], ◌∷◌, ◌++◌, map}
use Rattle.collector_core.specs.declared.chronicle.Entry.{Entry}
use Rattle.collector_core.specs.declared.chronicle.Mark.{Mark}
use Rattle.collector_core.specs.Chronicle.{Chronicle, extended}
use Rattle.collector_core.specs.Legal.{IsLegal}
use Rattle.collector_core.specs.Standing.{BookView, Stands}

-- The entries may follow on each chronicle that the opened book stood for.
abbrev pub LegalWith : BookView → List Entry → Type 0
LegalWith start further = (chronicle : Chronicle) → Stands start chronicle → IsLegal (extended chronicle further)

-- The book stands for each of them, followed by the entries.
abbrev pub StandsWith : BookView → BookView → List Entry → Type 0
StandsWith start book further = (chronicle : Chronicle) → Stands start chronicle → Stands book (extended chronicle further)

-- ---- entries, and whose they are

-- An entry, and the number of the pass that made it.
abbrev pub Logged : Type 0
Logged = Entry × ℕ

-- The entries alone.
abbrev pub entries_in : List Logged → List Entry
entries_in log = map (λ (e : Logged). e.0) log

-- An entry as a pass sees it.
abbrev pub mark_by : ℕ → Logged → Mark
mark_by number e = record { entry = e.0; own = e.1 == number }

-- The entries as a pass sees them: its own are marked.
abbrev pub marked : ℕ → List Logged → List Mark
marked number log = map (mark_by number) log

-- None is of the pass.
abbrev pub NoneBy : ℕ → List Logged → Type 0
NoneBy number [] = Unit {0}
NoneBy number (e ∷ later) = (e.1 ≢ number) × NoneBy number later

-- Each is of one of that many passes.
abbrev pub Known : ℕ → List Logged → Type 0
Known count [] = Unit {0}
Known count (e ∷ later) = (e.1 < count) × Known count later

-- The pass has seen a prefix of the list, in which all that is its own stands.
pub record Saw (number : ℕ) (log : List Logged) (seen : List Mark) : Type 0 where
  pub first : List Logged
  pub rest : List Logged
  pub whole : log ≡ first ++ rest
  pub is : seen ≡ marked number first
  pub none : NoneBy number rest

-- The entries are a prefix of the list.
abbrev pub Begins : List Entry → List Logged → Type 0
Begins entries log = (rest : List Entry) × (entries_in log ≡ entries ++ rest)
