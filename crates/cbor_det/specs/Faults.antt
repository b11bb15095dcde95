-- Where an initial byte is due, and which fault octets show (RFC 8949, and the table of
-- docs/rules/cbor.md). Sections are of the RFC. The limits on octets and depth are our own:
-- section 10 asks a decoder for some.
use Rattle.std.specs.Prelude.{◌≡◌, ◌≢◌, ◌<◌, ◌≤◌, ◌⊎◌, ℕ, ◌+◌, ◌/◌, ◌%◌, ◌^◌, List, [], ◌∷◌, ◌++◌, length, take, Option, Some, None, Contains, IfSome}
use Rattle.std.specs.Str.{IsUtf8}
use Rattle.cbor_det.specs.declared.limits.Limits.{Limits}
use Rattle.cbor_det.specs.declared.string_kind.StringKind.{StringKind}
use Rattle.cbor_det.specs.declared.string_kind.StringKind.TheVariants.{TextString}
use Rattle.cbor_det.specs.Term.{Term, Terms, Pairs, no_pairs, pair, count, pair_count, depth, terms_depth, pairs_depth}
use Rattle.cbor_det.specs.Canonical.{canon}
use Rattle.cbor_det.specs.Spelling.{IsHead, stop, opening, major_of, Chunks, Rises, Spelling, Series, PairSeries}

-- What is open round a place where an initial byte is due, the innermost first. `at` is the offset
-- of its initial byte, `all` the count that its head gives, or None where a break ends it, and then
-- comes what stands in it whole.
pub data Place : Type 0 where
  top : Place
  -- a chunk of an indefinite string, or its break (section 3.2.3); `joined` are the chunks so far
  at_chunk : (at : ℕ) (kind : StringKind) (joined : List ℕ) (round : Place) → Place
  -- an element of an array (section 3.1), or its break (section 3.2.2)
  at_element : (at : ℕ) (all : Option ℕ) (ts : Terms) (round : Place) → Place
  -- a key of a map (section 3.1), or its break (section 3.2.2), and the value of a key; the pairs
  -- stand in order of their keys, however they came
  at_key : (at : ℕ) (all : Option ℕ) (ps : Pairs) (round : Place) → Place
  at_value : (at : ℕ) (all : Option ℕ) (ps : Pairs) (key : Term) (round : Place) → Place
  -- the content of a tag (section 3.4)
  at_content : (at : ℕ) (number : ℕ) (round : Place) → Place

-- how many items and strings are open
abbrev pub height : Place → ℕ
height top = 0
height (at_chunk at kind s p) = height p + 1
height (at_element at all ts p) = height p + 1
height (at_key at all ps p) = height p + 1
height (at_value at all ps k p) = height p + 1
height (at_content at n p) = height p + 1

abbrev pub IsChunkPlace : Place → Type 0
IsChunkPlace (at_chunk at kind s p) = Unit {0}
IsChunkPlace p = ⊥

-- An item of this depth may stand here: no chunk is due, and the limit on depth is kept.
abbrev pub Admits : Limits → Place → ℕ → Type 0
Admits limits p deep = ¬ IsChunkPlace p × (height p + deep ≤ limits.depth)

-- A definite string of this kind may stand here: as a chunk of its own kind (section 3.2.3; a chunk
-- is no item and has no depth), or as an item.
abbrev pub AdmitsString : Limits → Place → StringKind → Type 0
AdmitsString limits (at_chunk at kind s p) other = kind ≡ other
AdmitsString limits p other = Admits limits p 1

-- An array or a map begins by a head with a count (section 3.1), or by one that a break will answer
-- (section 3.2.2).
pub data Opens (major : ℕ) : Option ℕ → List ℕ → Type 0 where
  counted : (n : ℕ) (h : List ℕ) → IsHead major n h → Opens major (Some n) h
  until_break : Opens major None (opening major ∷ [])

abbrev pub MoreAreDue : Option ℕ → ℕ → Type 0
MoreAreDue all there = IfSome all (λ n. there < n)

-- the keys, by their canonical spellings: two items with one canonical spelling are one
-- (section 5.6.1)
abbrev pub keys : Pairs → List (List ℕ)
keys no_pairs = []
keys (pair k v ps) = canon k ∷ keys ps

-- After these octets an initial byte is due at this place, and no item has ended. Nothing has come
-- that is malformed, a float, a simple value, out of range, too deep, not UTF-8 or a doubled key.
-- (This does not look at the limit on octets.)
pub data Upto (limits : Limits) : Place → List ℕ → Type 0 where
  start : Upto limits top []
  -- section 3.2.3
  chunk_due : (p : Place) (kind : StringKind) (o s r : List ℕ) → Upto limits p o → Admits limits p 1
      → Chunks kind s r → Upto limits (at_chunk (length o) kind s p) (o ++ opening (major_of kind) ∷ r)
  -- sections 3.1 and 3.2.2
  element_due : (p : Place) (all : Option ℕ) (ts : Terms) (o h r : List ℕ) → Upto limits p o → Admits limits p (terms_depth ts + 1)
      → Opens 4 all h → Series ts r → MoreAreDue all (count ts) → Upto limits (at_element (length o) all ts p) (o ++ (h ++ r))
  -- sections 3.1 and 3.2.2, and 5.6 on keys
  key_due : (p : Place) (all : Option ℕ) (ps : Pairs) (o h r : List ℕ) → Upto limits p o → Admits limits p (pairs_depth ps + 1)
      → Opens 5 all h → PairSeries ps r → Rises ps → MoreAreDue all (pair_count ps)
      → Upto limits (at_key (length o) all ps p) (o ++ (h ++ r))
  value_due : (p : Place) (map_at : ℕ) (all : Option ℕ) (ps : Pairs) (k : Term) (o s : List ℕ) → Upto limits (at_key map_at all ps p) o
      → Admits limits p (depth k + 1) → Spelling k s → ¬ Contains (keys ps) (canon k) → Upto limits (at_value map_at all ps k p) (o ++ s)
  -- section 3.4
  content_due : (p : Place) (n : ℕ) (o h : List ℕ) → Upto limits p o → Admits limits p 1
      → IsHead 6 n h → Upto limits (at_content (length o) n p) (o ++ h)

-- The initial byte: three bits of major type and five of additional information (section 3).
abbrev pub major : ℕ → ℕ
major b = b / 32

abbrev pub information : ℕ → ℕ
information b = b % 32

-- additional information that is reserved (section 3)
abbrev pub IsReserved : ℕ → Type 0
IsReserved b = (28 ≤ information b) × (information b ≤ 30)

-- an indefinite length on a type that has none (section 3)
abbrev pub IsNeverOpen : ℕ → Type 0
IsNeverOpen b = (information b ≡ 31) × ((major b ≡ 0) ⊎ (major b ≡ 1) ⊎ (major b ≡ 6))

-- neither the head of a chunk of this kind nor the break (section 3.2.3)
abbrev pub IsNoChunk : StringKind → ℕ → Type 0
IsNoChunk kind b = (b ≢ stop) × ((major b ≢ major_of kind) ⊎ (28 ≤ information b))

-- where a break ends what is open (section 3.2.1): not between a key and its value (section 3.2.2)
abbrev pub TakesBreak : Place → Type 0
TakesBreak (at_chunk at kind s p) = Unit {0}
TakesBreak (at_element at all ts p) = all ≡ None
TakesBreak (at_key at all ps p) = all ≡ None
TakesBreak p = ⊥

-- no initial byte that may stand here (sections 3, 3.2.1, 3.2.2 and 3.2.3)
abbrev pub IsMalformed : Place → ℕ → Type 0
IsMalformed (at_chunk at kind s p) b = IsNoChunk kind b
IsMalformed p b = IsReserved b ⊎ IsNeverOpen b ⊎ ((b ≡ stop) × ¬ TakesBreak p)

-- a floating-point number (section 3.3)
abbrev pub IsFloat : ℕ → Type 0
IsFloat b = (0xf9 ≤ b) × (b ≤ 0xfb)

-- another value of major type 7 than false and true (section 3.3; floats and reserved octets among
-- them, which have a lower kind)
abbrev pub IsSimple : ℕ → Type 0
IsSimple b = (major b ≡ 7) × (b ≢ 0xf4) × (b ≢ 0xf5) × (b ≢ stop)

-- An item one deeper than the limit begins with this byte. (A break is no item.)
abbrev pub IsTooDeep : Limits → Place → ℕ → Type 0
IsTooDeep limits p b = ¬ IsChunkPlace p × (limits.depth < height p + 1) × (b ≢ stop)

-- An input begins with this item, spelled by that many octets, within the limits.
pub record Begins (limits : Limits) (input : List ℕ) (t : Term) (len : ℕ) : Type 0 where
  pub within : len ≤ length input
  pub short : len ≤ limits.octets
  pub spelled : Spelling t (take len input)
  pub shallow : depth t ≤ limits.depth

abbrev pub HasNoItem : Limits → List ℕ → Type 0
HasNoItem limits input = (t : Term) (n : ℕ) → ¬ Begins limits input t n

-- Once these octets are in, and no sooner, they show a fault of this kind at this offset: a rule
-- for each row of the table. Another row may show sooner, or be of a lower kind: `IsFault` takes
-- the first. Kind 1 is what no row shows.
pub data Shows (limits : Limits) : List ℕ → ℕ → ℕ → Type 0 where
  -- sections 3, 3.2.1, 3.2.2 and 3.2.3
  malformed : (p : Place) (o : List ℕ) (b : ℕ) → Upto limits p o → IsMalformed p b → Shows limits (o ++ b ∷ []) 2 (length o)
  -- section 3.3, floating-point numbers: no items of ours
  float : (p : Place) (o : List ℕ) (b : ℕ) → Upto limits p o → IsFloat b → Shows limits (o ++ b ∷ []) 3 (length o)
  -- section 3.3, simple values: two of them are items of ours
  simple : (p : Place) (o : List ℕ) (b : ℕ) → Upto limits p o → IsSimple b → Shows limits (o ++ b ∷ []) 4 (length o)
  -- section 3.1, major types 0 and 1: integers of 64 bits with a sign are items of ours
  range : (p : Place) (o : List ℕ) (n : ℕ) (h : List ℕ) (m : ℕ) → Upto limits p o → Admits limits p 1 → m ≤ 1
      → IsHead m n h → 2 ^ 63 ≤ n → Shows limits (o ++ h) 5 (length o)
  -- our limit on depth
  too_deep : (p : Place) (o : List ℕ) (b : ℕ) → Upto limits p o → IsTooDeep limits p b → Shows limits (o ++ b ∷ []) 6 (length o)
  -- sections 3.1 and 5.3.1 on texts, and 3.2.3 on their chunks
  not_utf8 : (p : Place) (o h s : List ℕ) → Upto limits p o → AdmitsString limits p TextString
      → IsHead 3 (length s) h → ¬ IsUtf8 s → Shows limits (o ++ (h ++ s)) 7 (length o)
  -- sections 5.3.1 and 5.6 on keys
  doubled : (p : Place) (map_at : ℕ) (all : Option ℕ) (ps : Pairs) (o s : List ℕ) (k : Term) → Upto limits (at_key map_at all ps p) o
      → Admits limits p (depth k + 1) → Spelling k s → Contains (keys ps) (canon k) → Shows limits (o ++ s) 8 (length o)
  -- our limit on octets, by a string's length and by the octets that came
  long_string : (p : Place) (o h : List ℕ) (kind : StringKind) (n : ℕ) → Upto limits p o → AdmitsString limits p kind
      → IsHead (major_of kind) n h → limits.octets < length o + length h + n → Shows limits (o ++ h) 9 (length o)
  past_limit : (o : List ℕ) → length o ≡ limits.octets → HasNoItem limits o → Shows limits o 9 (length o)

-- The fault of an input: the row that shows after the fewest octets, the lower kind on a tie, and
-- of one kind the lower offset. Nothing after the limit is looked at.
pub record IsFault (limits : Limits) (input : List ℕ) (kind at : ℕ) : Type 0 where
  pub after : ℕ
  pub within : after ≤ length input
  pub short : after ≤ limits.octets
  pub shows : Shows limits (take after input) kind at
  pub fewest : (n k a : ℕ) → n < after → ¬ Shows limits (take n input) k a
  pub lowest : (k a : ℕ) → Shows limits (take after input) k a → (kind < k) ⊎ ((kind ≡ k) × (at ≤ a))

-- Neither an item nor a fault: a feed goes on, and a whole input is cut short.
pub record IsCut (limits : Limits) (input : List ℕ) : Type 0 where
  pub no_item : HasNoItem limits input
  pub no_fault : (kind at : ℕ) → ¬ IsFault limits input kind at
