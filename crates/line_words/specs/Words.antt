-- The words of a line: what stands before, between and after its spaces.
use Rattle.std.specs.Prelude.{◌==◌, ℕ, List, [], ◌∷◌, Option, None, Some, if◌then◌else◌}

-- An octet before the first word.
abbrev pub onto_first : ℕ → List (List ℕ) → List (List ℕ)
onto_first octet [] = (octet ∷ []) ∷ []
onto_first octet (word ∷ others) = (octet ∷ word) ∷ others

-- The words. Two spaces have the empty word between them.
unfoldable pub words : List ℕ → List (List ℕ)
words [] = [] ∷ []
words (octet ∷ octets) = if octet == 32 then [] ∷ words octets else onto_first octet (words octets)

-- Those that are not read yet.
abbrev pub words_left : Option (List ℕ) → List (List ℕ)
words_left None = []
words_left (Some rest) = words rest
