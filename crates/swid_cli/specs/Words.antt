-- The words of the command line.
use Rattle.std.specs.Prelude.{◌≡◌, ◌⊎◌, ℕ, List, [], ◌∷◌, codes}
use Rattle.std.specs.Fmt.{decimal}
use Rattle.swima_model.specs.declared.report.Kind.{Kind}
use Rattle.swima_model.specs.declared.report.Kind.TheVariants.{Ids, Full}
use Rattle.session_day.specs.Day.{IsCount}

-- The word for a kind of reports.
abbrev pub kind_word : Kind → List ℕ
kind_word Ids = codes "ids"
kind_word Full = codes "full"

-- The words are `mirror` with a kind.
abbrev pub IsMirror : Kind → List (List ℕ) → Type 0
IsMirror kind words = words ≡ codes "mirror" ∷ kind_word kind ∷ []

-- The word is `tag`.
abbrev pub IsTag : List (List ℕ) → Type 0
IsTag words = words ≡ codes "tag" ∷ []

-- The words are `tag` and `verify`.
abbrev pub IsTagVerify : List (List ℕ) → Type 0
IsTagVerify words = words ≡ codes "tag" ∷ codes "verify" ∷ []

-- The word is `links`.
abbrev pub IsLinks : List (List ℕ) → Type 0
IsLinks words = words ≡ codes "links" ∷ []

-- The word is `replay`.
abbrev pub IsReplay : List (List ℕ) → Type 0
IsReplay words = words ≡ codes "replay" ∷ []

-- A word is a number of packages that a day may have: its decimal digits, without a sign or leading
-- zeros.
abbrev pub IsCountWord : List ℕ → ℕ → Type 0
IsCountWord word count = IsCount count × (decimal count ≡ word)

-- The words are `make` and such a number.
abbrev pub IsMake : ℕ → List (List ℕ) → Type 0
IsMake count words = (word : List ℕ) × IsCountWord word count × (words ≡ codes "make" ∷ word ∷ [])

-- The words are a command line.
abbrev pub IsCommandLine : List (List ℕ) → Type 0
IsCommandLine words = IsMirror Ids words ⊎ IsMirror Full words ⊎ IsTag words ⊎ IsTagVerify words ⊎ IsLinks words ⊎ IsReplay words ⊎ ((count : ℕ) × IsMake count words)
