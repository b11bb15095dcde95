-- What sources report, item by item.
use Rattle.std.specs.Prelude.{◌≡◌, Bool, true, false, List, [], ◌∷◌}
use Rattle.source_set.specs.declared.told.Told.{Told}
use Rattle.source_set.specs.declared.told.Told.TheVariants as told

-- A call of the outside failed.
abbrev pub is_failed : Told → Bool
is_failed (told.Add key content) = false
is_failed (told.Change key content) = false
is_failed (told.Gone key) = false
is_failed (told.Bad line) = false
is_failed told.Quiet = false
is_failed told.Ended = false
is_failed told.Failed = true
is_failed told.Memory = false

-- Of the items that were left this one was reported, and later ones are left. Where none was left,
-- the source is quiet.
abbrev pub Tells : List Told → Told → List Told → Type 0
Tells [] item later = (item ≡ told.Quiet) × (later ≡ [])
Tells (first ∷ others) item later = (item ≡ first) × (later ≡ others)

-- Of any source: `reports source items` where it will report exactly these items.
module _ {S : Type 0} (reports : S → List Told → Type 0) where
  -- It reported an item of those that were left.
  abbrev pub Gave : S → Told → S → Type 0
  Gave before item after = (items : List Told) → reports before items
      → (later : List Told) × Tells items item later × reports after later

  -- What a call of the source says: after a failed call, and out of memory, nothing of the items.
  abbrev pub Reported : S → Told → S → Type 0
  Reported before told.Failed after = Unit {0}
  Reported before told.Memory after = Unit {0}
  Reported before item after = Gave before item after

  -- What is said of a source of lines beside this: after a failed call, and out of memory, all
  -- items are left that were left before.
  abbrev pub LeavesAll : S → Told → S → Type 0
  LeavesAll before told.Failed after = (items : List Told) → reports before items → reports after items
  LeavesAll before told.Memory after = (items : List Told) → reports before items → reports after items
  LeavesAll before item after = Unit {0}
