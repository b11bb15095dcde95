-- Tables of faults, over faults of any type. Where several rows show, the fault with the lowest
-- place counts, and of two at one place the earlier row. A table has its rows in the order of their
-- places, so the fault that counts is that of the first row that shows.
use Rattle.std.specs.Prelude.{◌≡◌, ◌≤◌, ℕ, Bool, true, List, [], ◌∷◌, Option, Some, None, Result, Ok, Err, if◌then◌else◌}
use Rattle.std.specs.List.{AllByRecursion}

-- A row of a table: whether it shows, and the fault that it is.
pub record Row (F : Type 0) : Type 0 where
  pub shows : Bool
  pub fault : F

-- The fault of the first row that shows.
abbrev pub first_shown : {F : Type 0} → List (Row F) → Option F
first_shown [] = None
first_shown (row ∷ rows) = if row.shows then Some row.fault else first_shown rows

-- A value, unless there is a fault.
abbrev pub unless : {F A : Type 0} → Option F → A → Result A F
unless None value = Ok value
unless (Some fault) value = Err fault

-- No row that shows has a place below the limit. The place of a fault is `place`.
abbrev pub AreNotBelow : {F : Type 0} → (F → ℕ) → ℕ → List (Row F) → Type 0
AreNotBelow {F} place limit rows = AllByRecursion (λ (row : Row F). row.shows ≡ true → limit ≤ place row.fault) rows

-- No row that shows has a lower place than the fault.
abbrev pub IsLowest : {F : Type 0} → (F → ℕ) → F → List (Row F) → Type 0
IsLowest place fault rows = AreNotBelow place (place fault) rows
