-- The first form fault of an item: what is missing or written in no form that its key has, and
-- where (RFC 9393, section 2).
use Rattle.std.specs.Prelude.{ℕ, ◌+◌, ◌==◌, ℤ, pos, Bool, true, false, List, [], ◌∷◌, length, Option, Some, None, if◌then◌else◌}
use Rattle.cbor_det.specs.Term.{Term, Terms, Pairs, integer, octets, text, array, map, tagged, boolean, no_terms, term, no_pairs, pair}
use Rattle.cbor_det.specs.Lookup.{value_under, is_unsigned}
use Rattle.coswid_res.specs.declared.fault.FormFault.{FormFault}
use Rattle.coswid_res.specs.Schema.{Form, Field, Line, one, one_or_more, a_text, a_boolean, an_integer, an_unsigned, an_identifier, a_code, a_uri, a_time, a_hash, a_map, anything, table, key_of, field_of, required_keys}

-- A fault has a kind, and the keys and indices that lead to it from the top.
abbrev pub fault : ℕ → List ℤ → Option FormFault
fault kind path = Some (record { kind = kind; path = path })

abbrev pub wrong_form : Option FormFault
wrong_form = fault 2 []

-- a fault of a part, as one of the whole
abbrev pub under : ℕ → Option FormFault → Option FormFault
under place None = None
under place (Some f) = fault f.kind (pos place ∷ f.path)

-- the first of two
abbrev pub or_else : Option FormFault → Option FormFault → Option FormFault
or_else None later = later
or_else (Some f) later = Some f

-- the fault of a key that must be there and is not
abbrev pub absent : ℕ → Option Term → Option FormFault
absent k None = fault 1 (pos k ∷ [])
absent k (Some t) = None

-- the first of these keys that is not there
abbrev pub missing : List ℕ → Pairs → Option FormFault
missing [] ps = None
missing (k ∷ ks) ps = or_else (absent k (value_under k ps)) (missing ks ps)

-- The form of one value. One of several may stand alone.
abbrev pub form_of : Field → Form
form_of (one form) = form
form_of (one_or_more form) = form

-- What is neither an array nor a map is in one of these forms.
abbrev pub is_plain : Form → Term → Bool
is_plain anything t = true
is_plain a_text (text s) = true
is_plain a_boolean (boolean b) = true
is_plain an_integer (integer z) = true
is_plain an_unsigned (integer (pos n)) = true
is_plain an_identifier (text s) = true
is_plain an_identifier (octets s) = length s == 16
is_plain a_code (integer z) = true
is_plain a_code (text s) = true
is_plain a_uri (text s) = true
is_plain a_uri (tagged n (text s)) = n == 32
is_plain a_time (integer z) = true
is_plain a_time (tagged n (integer z)) = n == 1
is_plain form t = false

abbrev pub unless_wrong : Bool → Option FormFault
unless_wrong true = None
unless_wrong false = wrong_form

abbrev pub is_integer : Term → Bool
is_integer (integer z) = true
is_integer other = false

abbrev pub is_octets : Term → Bool
is_octets (octets s) = true
is_octets other = false

-- A hash is an array of two: its algorithm and its value.
abbrev pub hash_fault : Terms → Option FormFault
hash_fault (term algorithm (term value no_terms)) = or_else (under 0 (unless_wrong (is_integer algorithm))) (under 1 (unless_wrong (is_octets value)))
hash_fault others = wrong_form

-- an array that stands for one value
abbrev pub single_fault : Form → Terms → Option FormFault
single_fault anything ts = None
single_fault a_hash ts = hash_fault ts
single_fault other ts = wrong_form

-- an array, of whose elements this is the first fault
abbrev pub array_fault : Field → Terms → Option FormFault → Option FormFault
array_fault (one form) ts first = single_fault form ts
array_fault (one_or_more form) no_terms first = wrong_form
array_fault (one_or_more form) (term t ts) first = first

-- The first fault of what stands under the keys of these lines, where it is known for each key.
abbrev pub lines_first : (ℕ → Field → Option FormFault) → List Line → Option FormFault
lines_first first [] = None
lines_first first (line ∷ lines) = or_else (first (key_of line) (field_of line)) (lines_first first lines)

-- a map, where this is the first fault under each key: a missing key comes before it
abbrev pub map_fault : Form → Pairs → (ℕ → Field → Option FormFault) → Option FormFault
map_fault anything ps first = None
map_fault (a_map name) ps first = or_else (missing (required_keys (table name)) ps) (lines_first first (table name))
map_fault other ps first = wrong_form

-- The known keys of a map are looked at as its table lists them: they rise.
abbrev mutual
  pub field_fault : Field → Term → Option FormFault
  field_fault field (array ts) = array_fault field ts (elements_fault (form_of field) 0 ts)
  field_fault field (map ps) = map_fault (form_of field) ps (λ k f. key_fault k f ps)
  field_fault field (integer z) = unless_wrong (is_plain (form_of field) (integer z))
  field_fault field (octets s) = unless_wrong (is_plain (form_of field) (octets s))
  field_fault field (text s) = unless_wrong (is_plain (form_of field) (text s))
  field_fault field (boolean b) = unless_wrong (is_plain (form_of field) (boolean b))
  field_fault field (tagged n t) = unless_wrong (is_plain (form_of field) (tagged n t))

  pub elements_fault : Form → ℕ → Terms → Option FormFault
  elements_fault form i no_terms = None
  elements_fault form i (term t ts) = or_else (under i (field_fault (one form) t)) (elements_fault form (i + 1) ts)

  -- the fault of what stands under a key
  pub key_fault : ℕ → Field → Pairs → Option FormFault
  key_fault k field no_pairs = None
  key_fault k field (pair key v ps) = if is_unsigned k key then under k (field_fault field v) else key_fault k field ps

-- what stands under a key of a map: a key that is not listed has any value
abbrev pub look_up : List Line → ℕ → Field
look_up [] k = one anything
look_up (line ∷ lines) k = if key_of line == k then field_of line else look_up lines k

abbrev pub field_at : List Line → Term → Field
field_at lines (integer (pos k)) = look_up lines k
field_at lines other = one anything

-- the number that a known key has in a path
abbrev pub place_of : Term → ℕ
place_of (integer (pos k)) = k
place_of other = 0

-- the first fault of the known pairs as they stand
abbrev pub pairs_fault : List Line → Pairs → Option FormFault
pairs_fault lines no_pairs = None
pairs_fault lines (pair k v ps) = or_else (under (place_of k) (field_fault (field_at lines k) v)) (pairs_fault lines ps)
