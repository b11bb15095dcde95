-- The spellings of an item: RFC 8949, section 3.
use Rattle.std.specs.Prelude.{◌≡◌, ◌<◌, ℕ, ◌+◌, ◌*◌, ◌^◌, pos, negsuc, true, false, List, [], ◌∷◌, ◌++◌, length}
use Rattle.std.specs.Ordering.{nat_cmp}
use Rattle.std.specs.declared.cmp.Ordering.TheVariants.{Less}
use Rattle.std.specs.Str.{IsUtf8}
use Rattle.std.specs.Cmp.Lexicographic.{slice_cmp}
use Rattle.cbor_det.specs.declared.string_kind.StringKind.{StringKind}
use Rattle.cbor_det.specs.declared.string_kind.StringKind.TheVariants.{ByteString, TextString}
use Rattle.cbor_det.specs.Term.{Term, Terms, Pairs, integer, octets, text, array, map, tagged, boolean, no_terms, no_pairs, pair, count, pair_count, plus}
use Rattle.cbor_det.specs.Canonical.{Form, bound, head, canon}

-- An argument has any form that holds it (section 3).
pub record IsHead (major n : ℕ) (spelled : List ℕ) : Type 0 where
  pub form : Form
  pub fits : n < bound form
  pub is : spelled ≡ head form major n

-- the octet that ends what has an indefinite length (section 3.2.1), and the octet that begins it
-- (section 3.2)
abbrev pub stop : ℕ
stop = 0xff

abbrev pub opening : ℕ → ℕ
opening major = 32 * major + 31

-- the major types of strings (section 3.1)
abbrev pub major_of : StringKind → ℕ
major_of ByteString = 2
major_of TextString = 3

-- A definite string: a text is UTF-8 (section 3.1), and so is each chunk of a text by itself
-- (section 3.2.3).
abbrev pub IsPart : StringKind → List ℕ → Type 0
IsPart ByteString s = Unit {0}
IsPart TextString s = IsUtf8 s

abbrev pub string : StringKind → List ℕ → Term
string ByteString s = octets s
string TextString s = text s

-- Chunks one after another, which joined are the string (section 3.2.3).
pub data Chunks (kind : StringKind) : List ℕ → List ℕ → Type 0 where
  no_chunks : Chunks kind [] []
  chunk : (t s o h : List ℕ) → Chunks kind t o → IsPart kind s → IsHead (major_of kind) (length s) h → Chunks kind (t ++ s) (o ++ h ++ s)

-- The keys' canonical spellings rise strictly: in bytewise order (section 4.2.1), and no key twice
-- (section 5.6).
abbrev pub IsBelow : Term → Pairs → Type 0
IsBelow k no_pairs = Unit {0}
IsBelow k (pair l v ps) = slice_cmp nat_cmp (canon k) (canon l) ≡ Less

abbrev pub Rises : Pairs → Type 0
Rises no_pairs = Unit {0}
Rises (pair k v ps) = IsBelow k ps × Rises ps

-- The pairs `more` are those of `ps`, and this one somewhere among them: a map means the same in
-- whatever order its pairs come (section 5.6).
pub data PutsIn (k v : Term) : Pairs → Pairs → Type 0 where
  here : (ps : Pairs) → PutsIn k v ps (pair k v ps)
  later : (l w : Term) (ps more : Pairs) → PutsIn k v ps more → PutsIn k v (pair l w ps) (pair l w more)

-- The rules of an item. Of the integers of section 3.1 those of 64 bits with a sign are items here.
mutual
  pub data Spelling : Term → List ℕ → Type 0 where
    -- integers: major types 0 and 1 (section 3.1)
    unsigned : (n : ℕ) (h : List ℕ) → n < 2 ^ 63 → IsHead 0 n h → Spelling (integer (pos n)) h
    negative : (n : ℕ) (h : List ℕ) → n < 2 ^ 63 → IsHead 1 n h → Spelling (integer (negsuc n)) h
    -- strings: major types 2 and 3 with a length (section 3.1), and in chunks (section 3.2.3) up to
    -- a break (section 3.2.1)
    definite_string : (kind : StringKind) (s h : List ℕ) → IsPart kind s → IsHead (major_of kind) (length s) h → Spelling (string kind s) (h ++ s)
    indefinite_string : (kind : StringKind) (s o : List ℕ) → Chunks kind s o
        → Spelling (string kind s) (opening (major_of kind) ∷ (o ++ stop ∷ []))
    -- arrays: major type 4 with a count (section 3.1), and up to a break (section 3.2.2)
    definite_array : (ts : Terms) (h r : List ℕ) → IsHead 4 (count ts) h → Series ts r → Spelling (array ts) (h ++ r)
    indefinite_array : (ts : Terms) (r : List ℕ) → Series ts r → Spelling (array ts) (opening 4 ∷ (r ++ stop ∷ []))
    -- maps: major type 5 with a count of pairs (section 3.1), and up to a break (section 3.2.2)
    definite_map : (ps : Pairs) (h r : List ℕ) → Rises ps → IsHead 5 (pair_count ps) h → PairSeries ps r → Spelling (map ps) (h ++ r)
    indefinite_map : (ps : Pairs) (r : List ℕ) → Rises ps → PairSeries ps r → Spelling (map ps) (opening 5 ∷ (r ++ stop ∷ []))
    -- a tag and its content: major type 6 (section 3.4)
    under_tag : (n : ℕ) (t : Term) (h o : List ℕ) → IsHead 6 n h → Spelling t o → Spelling (tagged n t) (h ++ o)
    -- false and true: values 20 and 21 of major type 7 (section 3.3)
    is_false : Spelling (boolean false) (0xf4 ∷ [])
    is_true : Spelling (boolean true) (0xf5 ∷ [])

  -- Items one after another (section 3.1): none, or some and then one more.
  pub data Series : Terms → List ℕ → Type 0 where
    no_items : Series no_terms []
    item : (ts : Terms) (t : Term) (r o : List ℕ) → Series ts r → Spelling t o → Series (plus ts t) (r ++ o)

  -- Keys, each with its value after it (section 3.1), in any order (section 5.6): none, or some
  -- and then one more, which stands somewhere among them.
  pub data PairSeries : Pairs → List ℕ → Type 0 where
    no_members : PairSeries no_pairs []
    member : (ps more : Pairs) (k v : Term) (r o q : List ℕ) → PairSeries ps r → Spelling k o → Spelling v q → PutsIn k v ps more
        → PairSeries more (r ++ (o ++ q))
