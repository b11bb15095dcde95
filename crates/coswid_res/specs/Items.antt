-- The one item that a value is written as, and what stands under the keys of a map.
use Rattle.std.specs.Prelude.{ℕ, ℤ, pos, List, [], ◌∷◌, Option, Some}
use Rattle.std.specs.Option.{option_map}
use Rattle.cbor_det.specs.Term.{Term, integer, octets, text, array, tagged, no_terms, term}
use Rattle.cbor_det.specs.Laid.{Row}
use Rattle.cbor_det.specs.View.{terms_of}
use Rattle.coswid_res.specs.declared.resources.hash.HashEntry.{HashEntry}
use Rattle.coswid_res.specs.Keys.{Key, number}

abbrev pub unsigned_item : ℕ → Term
unsigned_item n = integer (pos n)

-- with its tag
abbrev pub uri_item : List ℕ → Term
uri_item s = tagged 32 (text s)

abbrev pub time_item : ℤ → Term
time_item z = tagged 1 (integer z)

abbrev pub hash_item : HashEntry → Term
hash_item h = array (term (integer h.algorithm) (term (octets h.value) no_terms))

-- one alone, and more as an array
abbrev pub row_item : List Term → Term
row_item (t ∷ []) = t
row_item ts = array (terms_of ts)

-- What stands under a key that must be there, and under one that may be.
abbrev pub required_pair : {A : Type 0} → Key → (A → Term) → A → Row
required_pair k item v = (number k, Some (item v))

abbrev pub optional_pair : {A : Type 0} → Key → (A → Term) → Option A → Row
optional_pair k item v = (number k, option_map item v)
