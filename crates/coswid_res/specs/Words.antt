-- The words of the tables, as relations between a value and an item, and between a value and the
-- pairs of a map.
use Rattle.std.specs.Prelude.{◌≡◌, ◌≢◌, ◌⊎◌, ℕ, ℤ, pos, Bool, List, [], ◌∷◌, Option, Some, None}
use Rattle.cbor_det.specs.Term.{Term, Terms, Pairs, integer, octets, text, array, map, tagged, boolean, no_terms, term}
use Rattle.cbor_det.specs.Lookup.{value_under, other_than}
use Rattle.cbor_det.specs.View.{pairs_view}
use Rattle.cbor_det.specs.declared.item.Pairs as code
use Rattle.coswid_res.specs.declared.resources.hash.HashEntry.{HashEntry}
use Rattle.coswid_res.specs.Keys.{Key, number}
use Rattle.coswid_res.specs.Schema.{Name, table, keys_of}

-- What a value may be read from.
abbrev pub Text : List ℕ → Term → Type 0
Text s t = t ≡ text s

abbrev pub Boolean : Bool → Term → Type 0
Boolean b t = t ≡ boolean b

abbrev pub Integer : ℤ → Term → Type 0
Integer z t = t ≡ integer z

abbrev pub Unsigned : ℕ → Term → Type 0
Unsigned n t = t ≡ integer (pos n)

-- with its tag, or without
abbrev pub Uri : List ℕ → Term → Type 0
Uri s t = (t ≡ tagged 32 (text s)) ⊎ (t ≡ text s)

abbrev pub Time : ℤ → Term → Type 0
Time z t = (t ≡ tagged 1 (integer z)) ⊎ (t ≡ integer z)

abbrev pub Hash : HashEntry → Term → Type 0
Hash h t = t ≡ array (term (integer h.algorithm) (term (octets h.value) no_terms))

-- each value with the item at its place
abbrev pub Each : {A : Type 0} → (A → Term → Type 0) → List A → Terms → Type 0
Each Is [] no_terms = Unit {0}
Each Is (v ∷ vs) (term t ts) = Is v t × Each Is vs ts
Each Is vs ts = ⊥

-- an array that is not empty, or one value alone
abbrev pub OneOrMore : {A : Type 0} → (A → Term → Type 0) → List A → Term → Type 0
OneOrMore Is vs (array ts) = (vs ≢ []) × Each Is vs ts
OneOrMore Is (v ∷ []) t = Is v t
OneOrMore Is vs t = ⊥

-- a map with these pairs
abbrev pub IsMap : (Pairs → Type 0) → Term → Type 0
IsMap Are (map ps) = Are ps
IsMap Are t = ⊥

abbrev pub Agree : {A : Type 0} → (A → Term → Type 0) → Option A → Option Term → Type 0
Agree Is None None = Unit {0}
Agree Is (Some v) (Some t) = Is v t
Agree Is v t = ⊥

-- The key with this number is there, and its value is this.
abbrev pub RequiredAt : {A : Type 0} → ℕ → (A → Term → Type 0) → A → Pairs → Type 0
RequiredAt n Is v ps = Agree Is (Some v) (value_under n ps)

-- The key with this number is there and its value is this, or neither is.
abbrev pub OptionalAt : {A : Type 0} → ℕ → (A → Term → Type 0) → Option A → Pairs → Type 0
OptionalAt n Is v ps = Agree Is v (value_under n ps)

-- The same of a key by its name.
abbrev pub Required : {A : Type 0} → Key → (A → Term → Type 0) → A → Pairs → Type 0
Required k Is v ps = RequiredAt (number k) Is v ps

abbrev pub Optional : {A : Type 0} → Key → (A → Term → Type 0) → Option A → Pairs → Type 0
Optional k Is v ps = OptionalAt (number k) Is v ps

-- All other pairs are the extras.
abbrev pub Rest : Name → code.Pairs → Pairs → Type 0
Rest name extras ps = pairs_view extras ≡ other_than (keys_of (table name)) ps
