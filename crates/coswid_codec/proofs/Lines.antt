-- What each line of a table gives: of a map that is written again, of two values read from one map,
-- and of a map without a fault.
use Rattle.std.proofs.Common.{◌≡◌, ◌≤◌, ◌-◌, ℕ, List, [], ◌∷◌, Option, Some, None, refl, sym, ap, ◌∙◌, subst, arith}
use Rattle.std.specs.Option.{option_map}
use Rattle.cbor_det.specs.Lookup.{value_under}
use Rattle.cbor_det.specs.Term.{Term, Pairs, map, pairs_depth}
use Rattle.coswid_res.specs.Fault.{or_else, absent, missing, field_fault}
use Rattle.coswid_res.specs.Reading.{value_fault, line_fault, lines_fault, keys_fault}
use Rattle.coswid_res.specs.Schema.{Name, table, Line, Field, one, a_map, required, optional, required_keys}
use Rattle.coswid_res.specs.Words.{Agree, RequiredAt, OptionalAt, IsMap}
use Rattle.coswid_res.proofs.Maps.{or_none, map_told}
use Rattle.coswid_codec.proofs.Lawful.{Told, Lawful, MapTold, MapLawful, next, next_less, under_none, wrong}
use Rattle.coswid_codec.proofs.Facts.{agree_told}

-- read again from what is written

-- where it is known of what is read alone
pub again_by : {A : Type 0} (field : Field) (Is : A → Term → Type 0) (item : A → Term) (most : ℕ) (x : Option A) (o : Option Term)
    → Agree (λ (v : A) (t : Term). Told field Is item most v t) x o → Agree Is x (option_map item x)
again_by field Is item most None None told = tt
again_by field Is item most (Some v) (Some t) told = told.again
again_by field Is item most x o told = absurd told

pub optional_again : {A : Type 0} {field : Field} {Is : A → Term → Type 0} {item : A → Term} {most : ℕ} (k : ℕ) (x : Option A) (ps qs : Pairs) → Lawful field Is item most → OptionalAt k Is x ps
    → value_under k qs ≡ option_map item x → OptionalAt k Is x qs
optional_again {field} {Is} {item} {most} k x ps qs law is e =
    let P : Option Term → Type 0 = λ o. Agree Is x o in
    subst P (sym e) (again_by field Is item most x (value_under k ps) (agree_told field Is item most x (value_under k ps) law is))

-- of two values read from one map

agree_same : {A : Type 0} {field : Field} {Is : A → Term → Type 0} {item : A → Term} {most : ℕ} (x y : Option A) (o : Option Term) → Lawful field Is item most → Agree Is x o → Agree Is y o → x ≡ y
agree_same None None None law first second = refl
agree_same {A} (Some v) (Some w) (Some t) law first second = ap (λ (u : A). Some u) (law.same v w t first second)
agree_same None (Some w) None law first second = absurd second
agree_same (Some v) None (Some t) law first second = absurd second
agree_same x y o law first second = absurd first

pub required_same : {A : Type 0} {field : Field} {Is : A → Term → Type 0} {item : A → Term} {most : ℕ} (k : ℕ) (v w : A) (ps : Pairs) → Lawful field Is item most → RequiredAt k Is v ps → RequiredAt k Is w ps
    → v ≡ w
required_same k v w ps law first second = let e : Some v ≡ Some w = agree_same (Some v) (Some w) (value_under k ps) law first second in cc

pub optional_same : {A : Type 0} {field : Field} {Is : A → Term → Type 0} {item : A → Term} {most : ℕ} (k : ℕ) (x y : Option A) (ps : Pairs) → Lawful field Is item most → OptionalAt k Is x ps → OptionalAt k Is y ps
    → x ≡ y
optional_same k x y ps law first second = agree_same x y (value_under k ps) law first second

-- of a map without a fault

abbrev pub NoneEach : List Line → Pairs → Type 0
NoneEach [] ps = Unit {0}
NoneEach (line ∷ lines) ps = (line_fault line ps ≡ None) × NoneEach lines ps

none_each : (lines : List Line) (ps : Pairs) → lines_fault lines ps ≡ None → NoneEach lines ps
none_each [] ps none = tt
none_each (line ∷ lines) ps none = let both = or_none (line_fault line ps) (lines_fault lines ps) none in (both.0, none_each lines ps both.1)

pub line_none : (name : Name) (ps : Pairs) → keys_fault name ps ≡ None → NoneEach (table name) ps
line_none name ps none = none_each (table name) ps (or_none (missing (required_keys (table name)) ps) (lines_fault (table name) ps) none).1

required_by : {A : Type 0} (field : Field) (Is : A → Term → Type 0) (item : A → Term) (most k : ℕ) (o : Option Term) → Lawful field Is item most
    → or_else (absent k o) (value_fault k field o) ≡ None → (v : A) × Agree Is (Some v) o
required_by field Is item most k (Some t) law none = law.some t (under_none k (field_fault field t) none)
required_by field Is item most k None law none = absurd cc

pub required_some : {A : Type 0} {field : Field} {Is : A → Term → Type 0} {item : A → Term} {most : ℕ} (k : ℕ) (ps : Pairs) → Lawful field Is item most → line_fault (required k field) ps ≡ None
    → (v : A) × RequiredAt k Is v ps
required_some {field} {Is} {item} {most} k ps law none = required_by field Is item most k (value_under k ps) law none

some_by : {A : Type 0} (field : Field) (Is : A → Term → Type 0) (item : A → Term) (most k : ℕ) (o : Option Term) → Lawful field Is item most → value_fault k field o ≡ None
    → (x : Option A) × Agree Is x o
some_by field Is item most k None law none = (None, tt)
some_by field Is item most k (Some t) law none = let found = law.some t (under_none k (field_fault field t) none) in (Some found.0, found.1)

pub optional_some : {A : Type 0} {field : Field} {Is : A → Term → Type 0} {item : A → Term} {most : ℕ} (k : ℕ) (ps : Pairs) → Lawful field Is item most → line_fault (optional k field) ps ≡ None
    → (x : Option A) × OptionalAt k Is x ps
optional_some {field} {Is} {item} {most} k ps law none = some_by field Is item most k (value_under k ps) law none

-- A map is read and written by its pairs.

pub pairs_told : {A : Type 0} (name : Name) (Keys : A → Pairs → Type 0) (pairs : A → Pairs) (least : ℕ) (v : A) (ps : Pairs) → MapTold name Keys pairs least v ps
    → Told (one (a_map name)) (λ (w : A). IsMap (Keys w)) (λ (w : A). map (pairs w)) (next least) v (map ps)
pairs_told name Keys pairs least v ps it = record {
  none = map_told name ps ∙ it.none;
  again = it.again;
  proper = λ p. it.proper p;
  within = λ n le deep.
      let l : pairs_depth (pairs v) ≤ n - 1 = it.within (n - 1) (next_less least n le) (omega (arith, deep)) in
      omega (arith, l, deep);
  few = λ n le. it.few n le;
}

module _ {A : Type 0} (name : Name) (Keys : A → Pairs → Type 0) (pairs : A → Pairs) (least : ℕ) (law : MapLawful name Keys pairs least) where
  told : (v : A) (t : Term) → IsMap (Keys v) t → Told (one (a_map name)) (λ (w : A). IsMap (Keys w)) (λ (w : A). map (pairs w)) (next least) v t
  told v (map ps) is = pairs_told name Keys pairs least v ps (law.told v ps is)
  told v t is = absurd is

  same : (v w : A) (t : Term) → IsMap (Keys v) t → IsMap (Keys w) t → v ≡ w
  same v w (map ps) first second = law.same v w ps first second
  same v w t first second = absurd first

  some : (t : Term) → field_fault (one (a_map name)) t ≡ None → (v : A) × IsMap (Keys v) t
  some (map ps) none = law.some ps (sym (map_told name ps) ∙ none)
  some t none = wrong none

  pub map_law : Lawful (one (a_map name)) (λ (v : A). IsMap (Keys v)) (λ (v : A). map (pairs v)) (next least)
  map_law = record { told = told; same = same; some = some }
