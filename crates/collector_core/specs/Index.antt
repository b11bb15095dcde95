-- How records are found by their software identifiers: by keys that stand in order.
use Rattle.std.specs.Prelude.{◌≡◌, ◌==◌, ◌||◌, ◌+◌, ◌*◌, ◌%◌, ◌^◌, ◌<◌, ℕ, Bool, true, not, ◌&&◌, List, [], ◌∷◌, ◌++◌, option_to_list}
use Rattle.std.specs.BTreeSet.{BTreeSet, contains}
use Rattle.std.specs.List.{fold, list_any}
use Rattle.std.specs.Ordering.{nat_cmp}
use Rattle.std.specs.Str.{bytes_eq}
use Rattle.swima_model.specs.declared.record.Record.{Record}
use Rattle.swima_model.specs.Live.{record_of}

-- The digest of octets and one more, from that of the octets. It is below 2 ^ 32.
abbrev pub add_octet : ℕ → ℕ → ℕ
add_octet sum octet = (sum * 16777619 + octet) % 4294967291

-- The digest of octets.
unfoldable pub digest : List ℕ → ℕ
digest octets = fold add_octet 0 octets

-- The key of a record: the digest of its software identifier, and after it its own identifier.
abbrev pub key_of : List ℕ → ℕ → ℕ
key_of ident id = digest ident * 2 ^ 32 + id

-- The record has this key.
abbrev pub has_key : ℕ → Record → Bool
has_key key held = key_of held.content.ident held.id == key

-- The index has the keys of the records, and no other.
abbrev pub IsIndex : BTreeSet ℕ → List Record → Type 0
IsIndex index records = (key : ℕ) → contains nat_cmp index key ≡ list_any (has_key key) records

-- A key came in.
abbrev pub PutsKey : ℕ → BTreeSet ℕ → BTreeSet ℕ → Type 0
PutsKey key old new = (other : ℕ) → contains nat_cmp new other ≡ ((key == other) || contains nat_cmp old other)

-- A key came in, in place of another.
abbrev pub ExchangesKey : ℕ → ℕ → BTreeSet ℕ → BTreeSet ℕ → Type 0
ExchangesKey from to old new = (other : ℕ) → contains nat_cmp new other ≡ ((to == other) || (not (from == other) && contains nat_cmp old other))

-- A key went out.
abbrev pub DropsKey : ℕ → BTreeSet ℕ → BTreeSet ℕ → Type 0
DropsKey key old new = (other : ℕ) → contains nat_cmp new other ≡ (not (key == other) && contains nat_cmp old other)

-- What was found has the identifier of each key that has one of the digests.
abbrev pub HasAll : BTreeSet ℕ → BTreeSet ℕ → BTreeSet ℕ → Type 0
HasAll index digests found =
    (sum id : ℕ) → id < 2 ^ 32 → contains nat_cmp digests sum ≡ true → contains nat_cmp index (sum * 2 ^ 32 + id) ≡ true → contains nat_cmp found id ≡ true

-- What was found has the identifier of each record whose software identifier is among the targets.
abbrev pub Finds : List (List ℕ) → BTreeSet ℕ → BTreeSet ℕ → Type 0
Finds targets index found =
    (ident : List ℕ) (id : ℕ) → id < 2 ^ 32 → list_any (λ target. bytes_eq target ident) targets ≡ true → contains nat_cmp index (key_of ident id) ≡ true
    → contains nat_cmp found id ≡ true

-- The records of these identifiers, in the order of the identifiers.
abbrev pub picked : List ℕ → List Record → List Record
picked [] records = []
picked (id ∷ others) records = option_to_list (record_of id records) ++ picked others records
