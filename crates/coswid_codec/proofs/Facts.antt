-- What is known of a line of the table of a map, and of the field that stands for it.
use Rattle.std.proofs.Common.{◌≡◌, ◌≤◌, ◌+◌, ℕ, max, List, [], ◌∷◌, Option, Some, None, refl, ap, ◌∙◌, subst, arith, inl, inr}
use Rattle.std.specs.Option.{option_map}
use Rattle.std.specs.Prelude.{IfSome}
use Rattle.cbor_det.specs.Adding.{put}
use Rattle.cbor_det.specs.Laid.{Row, put_row}
use Rattle.cbor_det.specs.Lookup.{is_unsigned, value_under}
use Rattle.cbor_det.specs.Proper.{IsProper, ArePairsProper}
use Rattle.cbor_det.specs.Term.{Term, Pairs, no_pairs, pair, depth, pairs_depth}
use Rattle.cbor_det.proofs.Counts.{most, pairs_most}
use Rattle.coswid_res.specs.declared.fault.FormFault.{FormFault}
use Rattle.coswid_res.specs.Fault.{or_else, under, absent}
use Rattle.coswid_res.specs.Reading.{value_fault, line_fault}
use Rattle.coswid_res.specs.Schema.{Line, Field, required, optional, key_of}
use Rattle.coswid_res.specs.Words.{Agree, RequiredAt, OptionalAt}
use Rattle.coswid_codec.proofs.Fields.{number, found_by}
use Rattle.coswid_codec.proofs.Lawful.{Told, Lawful}
use Rattle.coswid_codec.proofs.Lengths.{under_most}

abbrev pub put_if : ℕ → Option Term → Pairs → Pairs
put_if k None ps = ps
put_if k (Some t) ps = put (number k) t ps

-- what is known of a line of the table and of the row that stands for it
pub record Fact (line : Line) (row : Row) (least : ℕ) (ps : Pairs) : Type 0 where
  pub none : line_fault line ps ≡ None
  pub fills : (qs : Pairs) → put_row row qs ≡ put_if (key_of line) row.1 qs
  pub proper : ArePairsProper ps → IfSome row.1 IsProper
  pub within : (n : ℕ) → least ≤ n → pairs_depth ps ≤ n → IfSome row.1 (λ t. depth t ≤ n)
  pub few : (n : ℕ) → pairs_most ps ≤ n → IfSome row.1 (λ t. most t ≤ n + 16)

abbrev pub Facts : ℕ → Pairs → List Line → List Row → Type 0
Facts least ps [] [] = Unit {0}
Facts least ps (line ∷ lines) (e ∷ es) = Fact line e least ps × Facts least ps lines es
Facts least ps lines es = ⊥

pub there : {A : Type 0} (Is : A → Term → Type 0) (v : A) (o : Option Term) → Agree Is (Some v) o → (t : Term) × (o ≡ Some t) × Is v t
there Is v (Some t) is = (t, refl, is)
there Is v None is = absurd is

pub under_proper : (k : ℕ) (ps : Pairs) (t : Term) → value_under k ps ≡ Some t → ArePairsProper ps → IsProper t
under_proper k no_pairs t e proper = absurd cc
under_proper k (pair l w ps) t e proper = elim (found_by (is_unsigned k l) k w t (value_under k ps) e) [
  | inl is ↦ let P : Term → Type 0 = λ u. IsProper u in subst P is proper.1
  | inr rest ↦ under_proper k ps t rest proper.2
]

pub under_within : (k : ℕ) (ps : Pairs) (t : Term) (n : ℕ) → value_under k ps ≡ Some t → pairs_depth ps ≤ n → depth t ≤ n
under_within k no_pairs t n e deep = absurd cc
under_within k (pair l w ps) t n e deep =
    let d : max (depth l) (max (depth w) (pairs_depth ps)) ≤ n = deep in
    elim (found_by (is_unsigned k l) k w t (value_under k ps) e) [
      | inl is ↦ let P : Term → Type 0 = λ u. depth u ≤ n in subst P is (omega (arith, d))
      | inr rest ↦ under_within k ps t n rest (omega (arith, d))
    ]

told_by : {A : Type 0} (field : Field) (Is : A → Term → Type 0) (item : A → Term) (most least k : ℕ) (x : Option A) (o : Option Term) (ps : Pairs) → most ≤ least → value_under k ps ≡ o
    → Agree (λ (v : A) (t : Term). Told field Is item most v t) x o → Fact (optional k field) (k, option_map item x) least ps
told_by field Is item most least k None None ps le e told = record {
  none = ap (λ (o : Option Term). value_fault k field o) e;
  fills = λ qs. refl;
  proper = λ p. tt;
  within = λ n less deep. tt;
  few = λ n less. tt;
}
told_by field Is item most least k (Some v) (Some t) ps le e told = record {
  none = ap (λ (o : Option Term). value_fault k field o) e ∙ ap (λ (o : Option FormFault). under k o) told.none;
  fills = λ qs. refl;
  proper = λ p. told.proper (under_proper k ps t e p);
  within = λ n less deep. told.within n (omega (arith, le, less)) (under_within k ps t n e deep);
  few = λ n less. told.few n (under_most k ps t n e less);
}
told_by field Is item most least k x o ps le e told = absurd told

-- where it is known of what stands there alone
pub told_fact : {A : Type 0} (field : Field) (Is : A → Term → Type 0) (item : A → Term) (most least k : ℕ) (x : Option A) (ps : Pairs) → most ≤ least
    → Agree (λ (v : A) (t : Term). Told field Is item most v t) x (value_under k ps) → Fact (optional k field) (k, option_map item x) least ps
told_fact field Is item most least k x ps le told = told_by field Is item most least k x (value_under k ps) ps le refl told

pub agree_told : {A : Type 0} (field : Field) (Is : A → Term → Type 0) (item : A → Term) (most : ℕ) (x : Option A) (o : Option Term) → Lawful field Is item most → Agree Is x o
    → Agree (λ (v : A) (t : Term). Told field Is item most v t) x o
agree_told field Is item most None None law is = tt
agree_told field Is item most (Some v) (Some t) law is = law.told v t is
agree_told field Is item most x o law is = absurd is

pub optional_fact : {A : Type 0} {field : Field} {Is : A → Term → Type 0} {item : A → Term} {most : ℕ} (least k : ℕ) (x : Option A) (ps : Pairs) → Lawful field Is item most → most ≤ least
    → OptionalAt k Is x ps → Fact (optional k field) (k, option_map item x) least ps
optional_fact {field} {Is} {item} {most} least k x ps law le is = told_fact field Is item most least k x ps le (agree_told field Is item most x (value_under k ps) law is)

pub required_fact : {A : Type 0} {field : Field} {Is : A → Term → Type 0} {item : A → Term} {most : ℕ} (least k : ℕ) (v : A) (ps : Pairs) → Lawful field Is item most → most ≤ least
    → RequiredAt k Is v ps → Fact (required k field) (k, Some (item v)) least ps
required_fact {field} {Is} {item} {most} least k v ps law le is =
    let at = there Is v (value_under k ps) is in
    let found = optional_fact least k (Some v) ps law le is in
    let absence : absent k (value_under k ps) ≡ None = ap (λ (o : Option Term). absent k o) at.1 in
    record {
      none = ap (λ (o : Option FormFault). or_else o (value_fault k field (value_under k ps))) absence ∙ found.none;
      fills = found.fills;
      proper = found.proper;
      within = found.within;
      few = found.few;
    }
