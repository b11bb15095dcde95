-- A map by its table: what follows for the map that is written.
use Rattle.std.proofs.Common.{◌≡◌, ◌≤◌, ◌+◌, ℕ, max, List, [], ◌∷◌, length, Option, Some, None, refl, sym, ap, ◌∙◌, subst, arith}
use Rattle.std.specs.Prelude.{IfSome}
use Rattle.cbor_det.specs.Laid.{Row, put_rows}
use Rattle.cbor_det.specs.Lookup.{value_under, other_than}
use Rattle.cbor_det.specs.Proper.{IsProperMap}
use Rattle.cbor_det.specs.Term.{Term, Pairs, map, pair_count, pairs_depth}
use Rattle.cbor_det.proofs.Counts.{most, pairs_most}
use Rattle.coswid_res.specs.Fault.{absent, missing}
use Rattle.coswid_res.specs.Reading.{value_fault, line_fault, lines_fault, keys_fault}
use Rattle.coswid_res.specs.Schema.{Name, tag, table, Line, Field, required, optional, key_of, keys_of, required_keys}
use Rattle.coswid_res.proofs.Lines.{table_rises, none_first}
use Rattle.coswid_res.proofs.Maps.{or_none}
use Rattle.coswid_codec.proofs.Fields.{number, others_again}
use Rattle.coswid_codec.proofs.Lengths.{others_count, others_most, put_count, put_most}
use Rattle.coswid_codec.proofs.Facts.{put_if, Facts}
use Rattle.coswid_codec.proofs.Lawful.{MapTold}
use Rattle.coswid_codec.proofs.Placed.{AreFree, table_listed, all_free, placed, fills_placed, Holds, holds, others_placed, placed_proper, placed_within, others_proper, others_within}

-- No line has a fault.

required_none : (k : ℕ) (field : Field) (ps : Pairs) → line_fault (required k field) ps ≡ None → absent k (value_under k ps) ≡ None
required_none k field ps none = (or_none (absent k (value_under k ps)) (value_fault k field (value_under k ps)) none).0

pub none_missing : (least : ℕ) (ps : Pairs) (lines : List Line) (es : List Row) → Facts least ps lines es → missing (required_keys lines) ps ≡ None
none_missing least ps [] [] facts = refl
none_missing least ps (required k field ∷ lines) (e ∷ es) facts =
    none_first (absent k (value_under k ps)) (missing (required_keys lines) ps) (required_none k field ps facts.0.none) ∙ none_missing least ps lines es facts.1
none_missing least ps (optional k field ∷ lines) (e ∷ es) facts = none_missing least ps lines es facts.1
none_missing least ps lines es facts = absurd facts

pub lines_none : (least : ℕ) (ps : Pairs) (lines : List Line) (es : List Row) → Facts least ps lines es → lines_fault lines ps ≡ None
lines_none least ps [] [] facts = refl
lines_none least ps (line ∷ lines) (e ∷ es) facts = none_first (line_fault line ps) (lines_fault lines ps) facts.0.none ∙ lines_none least ps lines es facts.1
lines_none least ps lines es facts = absurd facts

-- No part of it has many more.

if_most : (n k : ℕ) (o : Option Term) (qs : Pairs) → IfSome o (λ t. most t ≤ n) → pairs_most qs ≤ n → pairs_most (put_if k o qs) ≤ n
if_most n k None qs value le = le
if_most n k (Some t) qs value le = put_most n (number k) t qs (omega arith) value le

placed_most : (least : ℕ) (ps : Pairs) (n : ℕ) (lines : List Line) (es : List Row) (qs : Pairs) → Facts least ps lines es → pairs_most ps ≤ n → pairs_most qs ≤ n + 16
    → pairs_most (placed lines es qs) ≤ n + 16
placed_most least ps n [] [] qs facts read le = le
placed_most least ps n (line ∷ lines) (e ∷ es) qs facts read le =
    placed_most least ps n lines es (put_if (key_of line) e.1 qs) facts.1 read (if_most (n + 16) (key_of line) e.1 qs (facts.0.few n read) le)
placed_most least ps n lines es qs facts read le = absurd facts

if_count : (k : ℕ) (o : Option Term) (qs : Pairs) → pair_count (put_if k o qs) ≤ pair_count qs + 1
if_count k None qs = omega arith
if_count k (Some t) qs = omega (arith, put_count (number k) t qs)

placed_count : (lines : List Line) (es : List Row) (qs : Pairs) → pair_count (placed lines es qs) ≤ pair_count qs + length lines
placed_count (line ∷ lines) (e ∷ es) qs =
    let l = placed_count lines es (put_if (key_of line) e.1 qs) in let m = if_count (key_of line) e.1 qs in omega (arith, l, m)
placed_count lines es qs = omega arith

table_short : (name : Name) → length (table name) ≤ 16
table_short tag = omega arith
table_short name = omega arith

placed_few : (least : ℕ) (ps : Pairs) (name : Name) (es : List Row) (n : ℕ) → Facts least ps (table name) es → most (map ps) ≤ n → (qs : Pairs) → pair_count qs ≤ n → pairs_most qs ≤ n
    → most (map (placed (table name) es qs)) ≤ n + 16
placed_few least ps name es n facts read qs count le =
    let d : max (pair_count ps) (pairs_most ps) ≤ n = read in
    let l = placed_count (table name) es qs in
    let m : pairs_most (placed (table name) es qs) ≤ n + 16 = placed_most least ps n (table name) es qs facts (omega (arith, d)) (omega (arith, le)) in
    omega (arith, l, m, count, table_short name)

-- what follows for the map that is written
pub record Made (name : Name) (es : List Row) (xs : Pairs) (least : ℕ) (ps : Pairs) : Type 0 where
  pub none : keys_fault name ps ≡ None
  pub holds : Holds (table name) es (put_rows es xs)
  pub rest : xs ≡ other_than (keys_of (table name)) (put_rows es xs)
  pub proper : IsProperMap ps → IsProperMap (put_rows es xs)
  pub within : (n : ℕ) → least ≤ n → pairs_depth ps ≤ n → pairs_depth (put_rows es xs) ≤ n
  pub few : (n : ℕ) → most (map ps) ≤ n → most (map (put_rows es xs)) ≤ n + 16

pub made : (name : Name) (es : List Row) (xs : Pairs) (least : ℕ) (ps : Pairs) → Facts least ps (table name) es → xs ≡ other_than (keys_of (table name)) ps → Made name es xs least ps
made name es xs least ps facts is =
    let ns = keys_of (table name) in
    let e : put_rows es xs ≡ placed (table name) es xs = fills_placed least ps (table name) es xs facts in
    let F : Pairs → Type 0 = λ qs. AreFree (table name) qs in
    let free : AreFree (table name) xs = subst F (sym is) (all_free ns (table name) ps (table_listed name)) in
    let P : Pairs → Type 0 = λ qs. IsProperMap qs in
    let H : Pairs → Type 0 = λ qs. Holds (table name) es qs in
    record {
      none = none_first (missing (required_keys (table name)) ps) (lines_fault (table name) ps) (none_missing least ps (table name) es facts) ∙ lines_none least ps (table name) es facts;
      holds = subst H (sym e) (holds 0 (table name) es xs (table_rises name) free);
      rest = is ∙ sym (others_again ns ps) ∙ sym (ap (λ (qs : Pairs). other_than ns qs) is) ∙ sym (others_placed ns (table name) es xs (table_listed name))
          ∙ sym (ap (λ (qs : Pairs). other_than ns qs) e);
      proper = λ p. subst P (sym e) (placed_proper least ps 0 (table name) es xs facts (table_rises name) free p.1 (subst P (sym is) (others_proper ns ps p)));
      within = λ n le deep.
          let D : Pairs → Type 0 = λ qs. pairs_depth qs ≤ n in
          subst D (sym e) (placed_within least ps n (table name) es xs facts le deep (subst D (sym is) (others_within ns ps n deep)));
      few = λ n read.
          let d : max (pair_count ps) (pairs_most ps) ≤ n = read in
          let D : Pairs → Type 0 = λ qs. most (map qs) ≤ n + 16 in
          let Q : Pairs → Type 0 = λ qs. (pair_count qs ≤ n) × (pairs_most qs ≤ n) in
          let others : Q xs = subst Q (sym is) (omega (arith, d, others_count ns ps), others_most ns ps n (omega (arith, d))) in
          subst D (sym e) (placed_few least ps name es n facts read xs others.0 others.1);
    }

-- What is known of a map that is written from rows and others.
pub made_told : {A : Type 0} {name : Name} {Keys : A → Pairs → Type 0} {pairs : A → Pairs} {es : List Row} {xs : Pairs} {least : ℕ} {v : A} {ps : Pairs} → Made name es xs least ps → put_rows es xs ≡ pairs v
    → Keys v (pairs v) → MapTold name Keys pairs least v ps
made_told all e again =
    let P : Pairs → Type 0 = λ qs. IsProperMap qs in
    record {
      none = all.none;
      again = again;
      proper = λ p. subst P e (all.proper p);
      within = λ n le deep. let D : Pairs → Type 0 = λ qs. pairs_depth qs ≤ n in subst D e (all.within n le deep);
      few = λ n le. let D : Pairs → Type 0 = λ qs. most (map qs) ≤ n + 16 in subst D e (all.few n le);
    }
