-- What the first row of a table of faults that shows says of its rows.
use Rattle.std.proofs.Common.{◌≡◌, ◌≤◌, ℕ, Bool, true, false, cond, List, [], ◌∷◌, ◌++◌, Option, Some, None, Ok, Err, ◌⊎◌, inl, inr, refl, sym, ap, subst, ◌∙◌, arith}
use Rattle.wire_base.specs.FaultTable.{Row, first_shown, unless, AreNotBelow, IsLowest}

-- ---- a value, unless there is a fault

-- A value is there where no fault shows, and else the fault.
pub unless_ok : {F A : Type 0} (o : Option F) (x y : A) → unless o x ≡ Ok y → (o ≡ None) × (x ≡ y)
unless_ok None x y e = (refl, cc)
unless_ok (Some fault) x y e = absurd cc

pub unless_err : {F A : Type 0} (o : Option F) (x : A) (fault : F) → unless o x ≡ Err fault → o ≡ Some fault
unless_err None x fault e = absurd cc
unless_err (Some other) x fault e = cc

-- ---- rows that show

-- The first fault of two tables, one after the other.
abbrev pub or_else : {F : Type 0} → Option F → Option F → Option F
or_else None second = second
or_else (Some fault) second = Some fault

pub first_shown-append : {F : Type 0} (first second : List (Row F)) → first_shown (first ++ second) ≡ or_else (first_shown first) (first_shown second)
first_shown-append [] second = refl
first_shown-append (row ∷ rows) second =
    elim row.shows as (λ (b : Bool). cond b (Some row.fault) (first_shown (rows ++ second)) ≡ or_else (cond b (Some row.fault) (first_shown rows)) (first_shown second)) [
      | true ↦ refl
      | false ↦ first_shown-append rows second
    ]

-- No row of a table shows.
abbrev pub NoneShow : {F : Type 0} → List (Row F) → Type 0
NoneShow [] = Unit {0}
NoneShow (row ∷ rows) = (row.shows ≡ false) × NoneShow rows

none_of : {F : Type 0} (b : Bool) (fault : F) (rest : Option F) → cond b (Some fault) rest ≡ None → (b ≡ false) × (rest ≡ None)
none_of true fault rest e = absurd cc
none_of false fault rest e = (refl, e)

-- There is no first fault exactly where no row shows.
pub none_show : {F : Type 0} (rows : List (Row F)) → first_shown rows ≡ None → NoneShow rows
none_show [] e = tt
none_show (row ∷ rows) e = let n = none_of row.shows row.fault (first_shown rows) e in (n.0, none_show rows n.1)

pub show_none : {F : Type 0} (rows : List (Row F)) → NoneShow rows → first_shown rows ≡ None
show_none [] none = refl
show_none (row ∷ rows) none = rw none.0 (show_none rows none.1)

-- ---- places

never : false ≡ true → ⊥
never e = cc

-- Where no row shows, none is below any limit.
none_below : {F : Type 0} (place : F → ℕ) (limit : ℕ) (rows : List (Row F)) → NoneShow rows → AreNotBelow place limit rows
none_below place limit [] none = tt
none_below place limit (row ∷ rows) none = (λ shows. absurd (never (sym none.0 ∙ shows)), none_below place limit rows none.1)

pub none_shows-below : {F : Type 0} (place : F → ℕ) (limit : ℕ) (rows : List (Row F)) → first_shown rows ≡ None → AreNotBelow place limit rows
none_shows-below place limit rows e = none_below place limit rows (none_show rows e)

-- The rows stand in the order of their places, from this place on.
abbrev pub AreRising : {F : Type 0} → (F → ℕ) → ℕ → List (Row F) → Type 0
AreRising place low [] = Unit {0}
AreRising place low (row ∷ rows) = (low ≤ place row.fault) × AreRising place (place row.fault) rows

lower : {F : Type 0} (place : F → ℕ) (low high : ℕ) (rows : List (Row F)) → low ≤ high → AreRising place high rows → AreRising place low rows
lower place low high [] le rising = tt
lower place low high (row ∷ rows) le rising = (omega (arith, le, rising.0), rising.1)

-- What is below the first place is below all.
above : {F : Type 0} (place : F → ℕ) (low : ℕ) (rows : List (Row F)) → AreRising place low rows → AreNotBelow place low rows
above place low [] rising = tt
above place low (row ∷ rows) rising = (λ shows. rising.0, above place low rows (lower place low (place row.fault) rows rising.0 rising.1))

-- The first row that shows, or one after it.
first_or_later : {F : Type 0} (shows : Bool) (first fault : F) (rest : Option F) → cond shows (Some first) rest ≡ Some fault → (first ≡ fault) ⊎ ((shows ≡ false) × (rest ≡ Some fault))
first_or_later true first fault rest e = inl cc
first_or_later false first fault rest e = inr (refl, e)

-- The first row that shows has the lowest place.
pub first_is_lowest : {F : Type 0} (place : F → ℕ) (low : ℕ) (rows : List (Row F)) (fault : F) → AreRising place low rows → first_shown rows ≡ Some fault → IsLowest place fault rows
first_is_lowest place low [] fault rising e = absurd cc
first_is_lowest {F} place low (row ∷ rows) fault rising e =
    elim (first_or_later row.shows row.fault fault (first_shown rows) e) [
      | inl is ↦ subst (λ (f : F). AreNotBelow place (place f) (row ∷ rows)) is (λ shows. omega arith, above place (place row.fault) rows rising.1)
      | inr later ↦ (λ shows. absurd (never (sym later.0 ∙ shows)), first_is_lowest place (place row.fault) rows fault rising.1 later.1)
    ]
