-- The table of a map by columns: under each key one field of a value, with what it is read from and
-- what it is written as. RFC 9393, section 2.
use Rattle.std.specs.Prelude.{◌≡◌, List, [], ◌∷◌, Option, map as map_list}
use Rattle.cbor_det.specs.Laid.{Row, put_rows}
use Rattle.cbor_det.specs.Lookup.{other_than}
use Rattle.cbor_det.specs.Term.{Term, Pairs, map}
use Rattle.cbor_det.specs.View.{pairs_view}
use Rattle.cbor_det.specs.declared.item.Pairs as code
use Rattle.coswid_res.specs.Items.{row_item, required_pair, optional_pair}
use Rattle.coswid_res.specs.Keys.{Key}
use Rattle.coswid_res.specs.Schema.{Line, required_key, optional_key, keys_of}
use Rattle.coswid_res.specs.Words.{IsMap, Required, Optional}

-- A key that must be there, or one that may be.
pub data Column (R : Type 0) : Type 1 where
  required : {A : Type 0} → Key → (A → Term → Type 0) → (A → Term) → (R → A) → Column R
  optional : {A : Type 0} → Key → (A → Term → Type 0) → (A → Term) → (R → Option A) → Column R

-- The pairs under all other keys are the extras.
pub record Table (R : Type 0) : Type 1 where
  pub columns : List (Column R)
  pub extras : R → code.Pairs

-- The lines of a table.
abbrev pub line : {R : Type 0} → Column R → Line
line (required k Is item field) = required_key k
line (optional k Is item field) = optional_key k

abbrev pub lines : {R : Type 0} → List (Column R) → List Line
lines [] = []
lines (c ∷ cs) = line c ∷ lines cs

-- The fields of a value, column by column.
abbrev pub Value : {R : Type 0} → Column R → Type 0
Value (required {A} k Is item field) = A
Value (optional {A} k Is item field) = Option A

abbrev pub value : {R : Type 0} (c : Column R) → R → Value c
value (required k Is item field) r = field r
value (optional k Is item field) r = field r

abbrev pub Values : {R : Type 0} → List (Column R) → Type 0
Values [] = Unit {0}
Values (c ∷ cs) = Value c × Values cs

abbrev pub values : {R : Type 0} (cs : List (Column R)) → R → Values cs
values [] r = tt
values (c ∷ cs) r = (value c r, values cs r)

-- a field, and those after it
infixr 4 ◌⨾◌
abbrev pub ◌⨾◌ : {A B : Type 0} → A → B → A × B
field ⨾ fields = (field, fields)

-- Each field is read from what stands under its key.
abbrev pub Matches : {R : Type 0} (c : Column R) → Value c → Pairs → Type 0
Matches (required k Is item field) v ps = Required k Is v ps
Matches (optional k Is item field) v ps = Optional k Is v ps

abbrev pub Are : {R : Type 0} (cs : List (Column R)) → Values cs → Pairs → Type 0
Are [] vs ps = Unit {0}
Are (c ∷ cs) vs ps = Matches c vs.0 ps × Are cs vs.1 ps

-- The pairs that a value is read from, and the map of them.
pub record KeysOf {R : Type 0} (t : Table R) (r : R) (ps : Pairs) : Type 0 where
  pub keys : Are t.columns (values t.columns r) ps
  pub extras : pairs_view (t.extras r) ≡ other_than (keys_of (lines t.columns)) ps

abbrev pub MapOf : {R : Type 0} → Table R → R → Term → Type 0
MapOf t r = IsMap (KeysOf t r)

-- What each field is written as, under its key.
abbrev pub row : {R : Type 0} (c : Column R) → Value c → Row
row (required k Is item field) v = required_pair k item v
row (optional k Is item field) v = optional_pair k item v

abbrev pub rows : {R : Type 0} (cs : List (Column R)) → Values cs → List Row
rows [] vs = []
rows (c ∷ cs) vs = row c vs.0 ∷ rows cs vs.1

abbrev pub rows_of : {R : Type 0} → Table R → R → List Row
rows_of t r = rows t.columns (values t.columns r)

-- The pairs that a value is written as, the map of them, and what several are written as.
abbrev pub pairs_of : {R : Type 0} → Table R → R → Pairs
pairs_of t r = put_rows (rows_of t r) (pairs_view (t.extras r))

abbrev pub map_of : {R : Type 0} → Table R → R → Term
map_of t r = map (pairs_of t r)

abbrev pub maps_of : {R : Type 0} → Table R → List R → Term
maps_of t rs = row_item (map_list (map_of t) rs)
