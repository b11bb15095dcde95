-- A reader of items, octet by octet, as a machine. It is no definition of what an item or a fault
-- is: the laws in proofs/ tie it to `Spelling` and to `Shows` in both directions. The private
-- contracts of the code cite it.
use Rattle.std.specs.Prelude.{ℕ, zero, suc, ◌+◌, ◌*◌, ◌^◌, ◌==◌, ◌||◌, pos, negsuc, Bool, true, false, List, [], ◌∷◌, ◌++◌, nat_lt, if◌then◌else◌, Option, Some, None}
use Rattle.std.specs.Ordering.{nat_cmp, match_ordering}
use Rattle.std.specs.Str.{is_utf8, bytes_eq}
use Rattle.std.specs.Cmp.Lexicographic.{slice_cmp}
use Rattle.cbor_det.specs.declared.string_kind.StringKind.{StringKind}
use Rattle.cbor_det.specs.declared.string_kind.StringKind.TheVariants.{ByteString, TextString}
use Rattle.cbor_det.specs.declared.limits.Limits.{Limits}
use Rattle.cbor_det.specs.declared.initial.Major.{Major}
use Rattle.cbor_det.specs.declared.initial.Major.TheVariants.{Unsigned, Negative, String, Array, Map, Tag}
use Rattle.cbor_det.specs.declared.initial.Beginning.{Beginning}
use Rattle.cbor_det.specs.declared.initial.Beginning.TheVariants.{Argued, Argument, Chunks, Elements, Members, Bool as Boolean}
use Rattle.cbor_det.specs.declared.initial.Initial.{Initial}
use Rattle.cbor_det.specs.declared.initial.Initial.TheVariants.{Item, Break, Float, Simple, Malformed}
use Rattle.cbor_det.specs.Term.{Term, Terms, Pairs, integer, array, map, tagged, boolean, no_terms, no_pairs, pair, count, pair_count, plus}
use Rattle.cbor_det.specs.Canonical.{canon}
use Rattle.cbor_det.specs.Spelling.{string}
use Rattle.cbor_det.specs.Faults.{Place, top, at_chunk, at_element, at_key, at_value, at_content, height}
use Rattle.cbor_det.specs.Initial.{initial_of}

-- Where the machine stands.
pub data State : Type 0 where
  -- an initial byte is due at a place
  due : Place → State
  -- that many octets of an argument are still due, and those that came are the number so far
  argument : (p : Place) (at : ℕ) (major : Major) (left number : ℕ) → State
  -- that many octets of a definite string are still due, after those that came
  content : (p : Place) (at : ℕ) (kind : StringKind) (left : ℕ) (came : List ℕ) → State
  -- an item ended
  whole : Term → State
  -- a fault showed
  faulty : (kind at : ℕ) → State

abbrev pub is_full : Option ℕ → ℕ → Bool
is_full None there = false
is_full (Some all) there = there == all

-- A map holds a key with this canonical spelling.
abbrev pub is_held : Pairs → List ℕ → Bool
is_held no_pairs s = false
is_held (pair k v ps) s = bytes_eq s (canon k) || is_held ps s

-- The pairs with one more, at its place in the order of the keys' canonical spellings.
abbrev pub insert : Term → Term → Pairs → Pairs
insert k v no_pairs = pair k v no_pairs
insert k v (pair l w ps) =
    match_ordering (slice_cmp nat_cmp (canon k) (canon l)) (pair k v (pair l w ps)) (pair k v ps) (pair l w (insert k v ps))

-- An item that began at this offset ended at the place.
unfoldable pub item_ended : Place → ℕ → Term → State
item_ended top at t = whole t
item_ended (at_chunk a kind s p) at t = faulty 2 at
item_ended (at_element a all ts p) at t =
    if is_full all (count (plus ts t)) then item_ended p a (array (plus ts t)) else due (at_element a all (plus ts t) p)
item_ended (at_key a all ps p) at k = if is_held ps (canon k) then faulty 8 at else due (at_value a all ps k p)
item_ended (at_value a all ps k p) at v =
    if is_full all (pair_count (insert k v ps)) then item_ended p a (map (insert k v ps)) else due (at_key a all (insert k v ps) p)
item_ended (at_content a n p) at t = item_ended p a (tagged n t)

-- an array or a map with what stands in it so far
abbrev pub filled_array : Place → ℕ → Option ℕ → Terms → State
filled_array p at all ts = if is_full all (count ts) then item_ended p at (array ts) else due (at_element at all ts p)

abbrev pub filled_map : Place → ℕ → Option ℕ → Pairs → State
filled_map p at all ps = if is_full all (pair_count ps) then item_ended p at (map ps) else due (at_key at all ps p)

abbrev pub is_part : StringKind → List ℕ → Bool
is_part ByteString s = true
is_part TextString s = is_utf8 s

-- A definite string ended: a chunk, or an item.
abbrev pub string_given : Place → ℕ → StringKind → List ℕ → State
string_given (at_chunk a k t p) at kind s = due (at_chunk a k (t ++ s) p)
string_given p at kind s = item_ended p at (string kind s)

unfoldable pub string_ended : Place → ℕ → StringKind → List ℕ → State
string_ended p at kind s = if is_part kind s then string_given p at kind s else faulty 7 at

abbrev pub string_begun : Place → ℕ → StringKind → ℕ → State
string_begun p at kind zero = string_ended p at kind []
string_begun p at kind (suc n) = content p at kind (suc n) []

-- A head is in, and `i` octets.
unfoldable pub argued : Limits → ℕ → Place → ℕ → Major → ℕ → State
argued limits i p at Unsigned n = if nat_lt n (2 ^ 63) then item_ended p at (integer (pos n)) else faulty 5 at
argued limits i p at Negative n = if nat_lt n (2 ^ 63) then item_ended p at (integer (negsuc n)) else faulty 5 at
argued limits i p at (String kind) n = if nat_lt limits.octets (i + n) then faulty 9 at else string_begun p at kind n
argued limits i p at Array n = filled_array p at (Some n) no_terms
argued limits i p at Map n = filled_map p at (Some n) no_pairs
argued limits i p at Tag n = due (at_content at n p)

-- An item begins at the offset `i`, where one may stand.
unfoldable pub opened : Limits → ℕ → Place → Beginning → State
opened limits i p (Argued major n) = argued limits (i + 1) p i major n
opened limits i p (Argument major left) = argument p i major left 0
opened limits i p (Chunks kind) = due (at_chunk i kind [] p)
opened limits i p Elements = due (at_element i None no_terms p)
opened limits i p Members = due (at_key i None no_pairs p)
opened limits i p (Boolean b) = item_ended p i (boolean b)

unfoldable pub broken : ℕ → Place → State
broken i (at_element a None ts p) = item_ended p a (array ts)
broken i (at_key a None ps p) = item_ended p a (map ps)
broken i p = faulty 2 i

abbrev pub item_begun : Limits → ℕ → Place → Initial → State
item_begun limits i p Malformed = faulty 2 i
item_begun limits i p Break = broken i p
item_begun limits i p Float = faulty 3 i
item_begun limits i p Simple = faulty 4 i
item_begun limits i p (Item beginning) = if nat_lt limits.depth (height p + 1) then faulty 6 i else opened limits i p beginning

-- whether a chunk of a string of one kind may be of the other
abbrev pub same_kind : StringKind → StringKind → Bool
same_kind ByteString ByteString = true
same_kind ByteString TextString = false
same_kind TextString ByteString = false
same_kind TextString TextString = true

-- whether a head of this type is one of a string of the kind
abbrev pub is_string : StringKind → Major → Bool
is_string kind (String other) = same_kind kind other
is_string kind m = false

abbrev pub string_head : StringKind → Initial → Bool
string_head kind (Item (Argued m n)) = is_string kind m
string_head kind (Item (Argument m left)) = is_string kind m
string_head kind x = false

abbrev pub chunk_opened : Limits → ℕ → Place → Initial → State
chunk_opened limits i p (Item beginning) = opened limits i p beginning
chunk_opened limits i p x = faulty 2 i

abbrev pub chunk_begun : Limits → ℕ → ℕ → StringKind → List ℕ → Place → Initial → State
chunk_begun limits i a kind s p Break = string_ended p a kind s
chunk_begun limits i a kind s p x = if string_head kind x then chunk_opened limits i (at_chunk a kind s p) x else faulty 2 i

unfoldable pub begun : Limits → ℕ → Place → Initial → State
begun limits i (at_chunk a kind s p) x = chunk_begun limits i a kind s p x
begun limits i p x = item_begun limits i p x

-- One octet, where the machine has not stopped.
unfoldable pub step : Limits → ℕ → State → ℕ → State
step limits i (due p) b = begun limits i p (initial_of b)
step limits i (argument p at major zero n) b = faulty 0 0
step limits i (argument p at major (suc zero) n) b = argued limits (i + 1) p at major (256 * n + b)
step limits i (argument p at major (suc (suc left)) n) b = argument p at major (suc left) (256 * n + b)
step limits i (content p at kind zero s) b = faulty 0 0
step limits i (content p at kind (suc zero) s) b = string_ended p at kind (s ++ b ∷ [])
step limits i (content p at kind (suc (suc left)) s) b = content p at kind (suc left) (s ++ b ∷ [])
step limits i (whole t) b = whole t
step limits i (faulty kind at) b = faulty kind at

abbrev pub is_over : State → Bool
is_over (due p) = false
is_over (argument p at major left n) = false
is_over (content p at kind left s) = false
is_over (whole t) = true
is_over (faulty kind at) = true

-- It stops after an item and after a fault, and gives what is left. `i` octets came before.
abbrev pub run : Limits → ℕ → State → List ℕ → State × List ℕ
run limits i s [] = (s, [])
run limits i s (b ∷ bs) = if is_over s then (s, b ∷ bs) else run limits (i + 1) (step limits i s b) bs
