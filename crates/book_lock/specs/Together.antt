-- Many passes of one shelf that met, one after another.
use Rattle.std.specs.Prelude.{◌≡◌, ◌⊎◌, ◌<◌, ◌+◌, ℕ, zero, suc, Bool, true, false, List, [], ◌∷◌, ◌++◌, length}
use Rattle.std.specs.List.{list_any}
use Rattle.atomic_table.specs.Seated.{TableId}
use Rattle.collector_core.specs.declared.chronicle.Entry.{Entry}
use Rattle.collector_core.specs.declared.chronicle.Mark.{Mark}
use Rattle.collector_core.specs.Desks.{entries}
use Rattle.book_lock.specs.Passes.{PassView}

-- All are passes of the shelf.
abbrev pub AreOf : TableId → List PassView → Type 0
AreOf shelf [] = Unit {0}
AreOf shelf (pass ∷ later) = (pass.shelf ≡ shelf) × AreOf shelf later

-- None of them may change.
abbrev pub AreReaders : List PassView → Type 0
AreReaders [] = Unit {0}
AreReaders (pass ∷ later) = (pass.may_change ≡ false) × AreReaders later

-- Whether one of them may.
abbrev pub one_may : List PassView → Bool
one_may passes = list_any (λ (pass : PassView). pass.may_change) passes

-- Whether an entry is own, at a place of what a pass has seen.
abbrev pub own_at : List Mark → ℕ → Bool
own_at [] place = false
own_at (mark ∷ later) zero = mark.own
own_at (mark ∷ later) (suc place) = own_at later place

abbrev pub one_if : Bool → ℕ
one_if true = 1
one_if false = 0

-- How many of the passes have the entry at the place as their own.
abbrev pub owners : ℕ → List PassView → ℕ
owners place [] = 0
owners place (pass ∷ later) = one_if (own_at pass.seen place) + owners place later

-- The entries of each are a prefix of these.
abbrev pub AllBegin : List PassView → List Mark → Type 0
AllBegin [] seen = Unit {0}
AllBegin (pass ∷ later) seen = ((rest : List Entry) × (entries seen ≡ entries pass.seen ++ rest)) × AllBegin later seen

-- One of them has seen that many.
abbrev pub OneHas : List PassView → ℕ → Type 0
OneHas [] count = ⊥
OneHas (pass ∷ later) count = (length pass.seen ≡ count) ⊎ OneHas later count

-- What the passes come to in one. What each has seen is a prefix of what this one has, and one of
-- them has seen as much. An entry that is own here was so in exactly one of them, and one that is
-- not in none. This one may change where any might, and is sole where any was: then each entry was
-- own in exactly one.
pub record MetAll (passes : List PassView) (one : PassView) : Type 0 where
  pub begin : AllBegin passes one.seen
  pub no_more : OneHas passes (length one.seen)
  pub owned : (place : ℕ) → owners place passes ≡ one_if (own_at one.seen place)
  pub may_change : one.may_change ≡ one_may passes
  pub sole : one.sole ≡ list_any (λ (pass : PassView). pass.sole) passes
  pub each_once : one.sole ≡ true → (place : ℕ) → place < length one.seen → owners place passes ≡ 1
