-- The keys that a source holds, each with the identifier of its record, in order of key.
use Rattle.std.specs.Prelude.{ℕ, List, [], ◌∷◌, Option, map}
use Rattle.std.specs.BTreeMap.{insert_entry, is_at}
use Rattle.std.specs.Map.{lookup, remove_entry}
use Rattle.std.specs.Ordering.{nat_cmp}
use Rattle.swima_model.specs.ByNumber.{in_order_by}

-- A key, and the identifier of its record.
abbrev pub Held : Type 0
Held = ℕ × ℕ

-- The identifier of the record of a key, where the key is held.
abbrev pub id_at : ℕ → List Held → Option ℕ
id_at key keys = lookup (is_at (nat_cmp key)) keys

-- The keys with one more, and without one.
abbrev pub with_key : ℕ → ℕ → List Held → List Held
with_key key id keys = insert_entry nat_cmp keys key id

abbrev pub without : ℕ → List Held → List Held
without key keys = remove_entry (is_at (nat_cmp key)) keys

-- The keys without some.
abbrev pub without_all : List Held → List Held → List Held
without_all [] keys = keys
without_all (held ∷ others) keys = without_all others (without held.0 keys)

-- ---- in order of identifier

abbrev pub ids : List Held → List ℕ
ids keys = map (λ (held : Held). held.1) keys

-- The keys in order of identifier, those of one identifier as they stood.
abbrev pub by_id : List Held → List Held
by_id keys = in_order_by (λ (held : Held). held.1) keys
