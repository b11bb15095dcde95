-- What is proved of each form of values, and of each map: a reader and a writer of it agree.
use Rattle.std.proofs.Common.{◌≡◌, ◌≤◌, ℕ, zero, suc, ◌+◌, ◌-◌, max, Option, Some, None, Bool, true, false, refl, sym, arith}
use Rattle.std.proofs.lemmas.Option.{none-some}
use Rattle.cbor_det.specs.Term.{Term, Pairs, map, depth, pairs_depth}
use Rattle.cbor_det.specs.Proper.{IsProper, IsProperMap}
use Rattle.cbor_det.proofs.Counts.{most}
use Rattle.coswid_res.specs.declared.fault.FormFault.{FormFault}
use Rattle.coswid_res.specs.Schema.{Name, Field}
use Rattle.coswid_res.specs.Fault.{field_fault, under, unless_wrong, wrong_form}
use Rattle.coswid_res.specs.Reading.{keys_fault}
use Rattle.coswid_codec.specs.Laws.{FormLaw}

-- Of a value and an item from which it may be read. `least` is the depth that the written item may
-- have in any case. No table has more than 16 lines, so a written map has at most 16 pairs more.
pub record Told {A : Type 0} (field : Field) (Is : A → Term → Type 0) (item : A → Term) (least : ℕ) (v : A) (t : Term) : Type 0 where
  pub none : field_fault field t ≡ None
  pub again : Is v (item v)
  pub proper : IsProper t → IsProper (item v)
  pub within : (n : ℕ) → least ≤ n → depth t ≤ n → depth (item v) ≤ n
  pub few : (n : ℕ) → most t ≤ n → most (item v) ≤ n + 16

pub record Lawful {A : Type 0} (field : Field) (Is : A → Term → Type 0) (item : A → Term) (least : ℕ) : Type 0 where
  pub told : (v : A) (t : Term) → Is v t → Told field Is item least v t
  pub same : (v w : A) (t : Term) → Is v t → Is w t → v ≡ w
  pub some : (t : Term) → field_fault field t ≡ None → (v : A) × Is v t

-- the same of a map
pub record MapTold {A : Type 0} (name : Name) (Keys : A → Pairs → Type 0) (pairs : A → Pairs) (least : ℕ) (v : A) (ps : Pairs) : Type 0 where
  pub none : keys_fault name ps ≡ None
  pub again : Keys v (pairs v)
  pub proper : IsProperMap ps → IsProperMap (pairs v)
  pub within : (n : ℕ) → least ≤ n → pairs_depth ps ≤ n → pairs_depth (pairs v) ≤ n
  pub few : (n : ℕ) → most (map ps) ≤ n → most (map (pairs v)) ≤ n + 16

pub record MapLawful {A : Type 0} (name : Name) (Keys : A → Pairs → Type 0) (pairs : A → Pairs) (least : ℕ) : Type 0 where
  pub told : (v : A) (ps : Pairs) → Keys v ps → MapTold name Keys pairs least v ps
  pub same : (v w : A) (ps : Pairs) → Keys v ps → Keys w ps → v ≡ w
  pub some : (ps : Pairs) → keys_fault name ps ≡ None → (v : A) × Keys v ps

-- The bound of what holds such values: one level more, but where there is no bound there is none.
abbrev pub next : ℕ → ℕ
next zero = zero
next (suc n) = suc (suc n)

pub next_less : (least n : ℕ) → next least ≤ n → least ≤ n - 1
next_less zero n le = omega arith
next_less (suc m) n le = let l : suc (suc m) ≤ n = le in omega (arith, l)

pub next_more : (least n : ℕ) → next least ≤ n → least ≤ n
next_more zero n le = omega arith
next_more (suc m) n le = let l : suc (suc m) ≤ n = le in omega (arith, l)

-- A wrong form is a fault.
pub wrong : {A : Type 0} → wrong_form ≡ None → A
wrong {A} e = absurd (none-some _ (sym e))

pub right : (b : Bool) → unless_wrong b ≡ None → b ≡ true
right true e = refl
right false e = wrong e

-- What is at a place has no fault where the whole has none there.
pub under_none : (place : ℕ) (first : Option FormFault) → under place first ≡ None → first ≡ None
under_none place None e = refl
under_none place (Some f) e = absurd cc

pub form_law : {A : Type 0} (field : Field) (Is : A → Term → Type 0) (item : A → Term) (least levels : ℕ) → least ≤ levels → Lawful field Is item least → FormLaw field Is item levels
form_law field Is item least levels le law = record {
  no_fault = λ t. (law.some t, λ found. (law.told found.0 t found.1).none);
  one_item = law.same;
  again = λ v t is. (law.told v t is).again;
  proper = λ v t is p. (law.told v t is).proper p;
  shallow = λ v t is. (law.told v t is).within (max levels (depth t)) (omega (arith, le)) (omega arith);
}
