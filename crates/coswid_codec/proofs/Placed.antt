-- The pairs with the fields of a table put into them: what stands under each key then, and that
-- they are proper.
use Rattle.std.proofs.Common.{◌≡◌, ◌≤◌, ◌<◌, ◌==◌, ◌^◌, ◌+◌, ◌&&◌, ℕ, max, Bool, true, false, List, [], ◌∷◌, Option, Some, None, if◌then◌else◌, refl, ap, ◌∙◌, arith}
use Rattle.std.proofs.lemmas.Bool.{and_parts, ne_eqb}
use Rattle.std.specs.Prelude.{IfSome}
use Rattle.std.specs.declared.cmp.Ordering.TheVariants.{Less}
use Rattle.cbor_det.specs.Laid.{Row, put_rows}
use Rattle.cbor_det.specs.Lookup.{value_under, is_one_of, other_than}
use Rattle.cbor_det.specs.Proper.{IsProper, ArePairsProper, IsProperMap}
use Rattle.cbor_det.specs.Spelling.{IsBelow, Rises}
use Rattle.cbor_det.specs.Term.{Term, Pairs, integer, no_pairs, pair, depth, pairs_depth}
use Rattle.cbor_det.proofs.Order.{key_cmp, below_trans}
use Rattle.coswid_res.specs.Schema.{Name, tag, table, Line, key_of, keys_of}
use Rattle.coswid_res.proofs.Lines.{Rising}
use Rattle.coswid_codec.proofs.Fields.{number, under_other, under_this, others_put, others_none, put_proper, put_within}
use Rattle.coswid_codec.proofs.Facts.{put_if, Facts}

-- Nothing stands under these keys.
abbrev pub AreFree : List Line → Pairs → Type 0
AreFree [] qs = Unit {0}
AreFree (line ∷ lines) qs = (value_under (key_of line) qs ≡ None) × AreFree lines qs

-- Each is one of these keys.
abbrev pub AreListed : List ℕ → List Line → Type 0
AreListed ns [] = Unit {0}
AreListed ns (line ∷ lines) = (is_one_of ns (number (key_of line)) ≡ true) × AreListed ns lines

abbrev are_listed : List ℕ → List Line → Bool
are_listed ns [] = true
are_listed ns (line ∷ lines) = is_one_of ns (number (key_of line)) && are_listed ns lines

listed : (ns : List ℕ) (lines : List Line) → are_listed ns lines ≡ true → AreListed ns lines
listed ns [] is = tt
listed ns (line ∷ lines) is =
    let parts = and_parts (is_one_of ns (number (key_of line))) (are_listed ns lines) is in
    (parts.0, listed ns lines parts.1)

pub table_listed : (name : Name) → AreListed (keys_of (table name)) (table name)
table_listed tag = listed (keys_of (table tag)) (table tag) refl
table_listed name = listed (keys_of (table name)) (table name) refl

pub all_free : (ns : List ℕ) (lines : List Line) (ps : Pairs) → AreListed ns lines → AreFree lines (other_than ns ps)
all_free ns [] ps are = tt
all_free ns (line ∷ lines) ps are = (others_none ns (key_of line) ps are.0, all_free ns lines ps are.1)

-- the pairs with the fields of these lines
abbrev pub placed : List Line → List Row → Pairs → Pairs
placed (line ∷ lines) (e ∷ es) qs = placed lines es (put_if (key_of line) e.1 qs)
placed lines es qs = qs

pub fills_placed : (least : ℕ) (ps : Pairs) (lines : List Line) (es : List Row) (qs : Pairs) → Facts least ps lines es → put_rows es qs ≡ placed lines es qs
fills_placed least ps [] [] qs facts = refl
fills_placed least ps (line ∷ lines) (e ∷ es) qs facts =
    ap (λ (rs : Pairs). put_rows es rs) (facts.0.fills qs) ∙ fills_placed least ps lines es (put_if (key_of line) e.1 qs) facts.1
fills_placed least ps lines es qs facts = absurd facts

other_key : (k j : ℕ) (o : Option Term) (qs : Pairs) → (j == k) ≡ false → value_under k (put_if j o qs) ≡ value_under k qs
other_key k j None qs not = refl
other_key k j (Some t) qs not = under_other k j t qs not

this_key : (k : ℕ) (o : Option Term) (qs : Pairs) → value_under k qs ≡ None → value_under k (put_if k o qs) ≡ o
this_key k None qs none = none
this_key k (Some t) qs none = under_this k t qs none

free_put : (low j : ℕ) (o : Option Term) (lines : List Line) (qs : Pairs) → Rising low lines → j < low → AreFree lines qs → AreFree lines (put_if j o qs)
free_put low j o [] qs up lt free = tt
free_put low j o (line ∷ lines) qs up lt free =
    let le : low ≤ key_of line = up.0 in
    (other_key (key_of line) j o qs (ne_eqb j (key_of line) (λ e. omega (arith, e, le, lt))) ∙ free.0, free_put (key_of line + 1) j o lines qs up.2 (omega (arith, le, lt)) free.1)

-- A key below those of the lines is left as it is.
stays : (k low : ℕ) (lines : List Line) (es : List Row) (qs : Pairs) → Rising low lines → k < low → value_under k (placed lines es qs) ≡ value_under k qs
stays k low (line ∷ lines) (e ∷ es) qs up lt =
    let le : low ≤ key_of line = up.0 in
    stays k (key_of line + 1) lines es (put_if (key_of line) e.1 qs) up.2 (omega (arith, le, lt))
    ∙ other_key k (key_of line) e.1 qs (ne_eqb (key_of line) k (λ same. omega (arith, same, le, lt)))
stays k low lines es qs up lt = refl

-- Under the key of each line stands what its row has.
abbrev pub Holds : List Line → List Row → Pairs → Type 0
Holds (line ∷ lines) (e ∷ es) qs = (value_under (key_of line) qs ≡ e.1) × Holds lines es qs
Holds lines es qs = Unit {0}

pub holds : (low : ℕ) (lines : List Line) (es : List Row) (qs : Pairs) → Rising low lines → AreFree lines qs → Holds lines es (placed lines es qs)
holds low (line ∷ lines) (e ∷ es) qs up free = (
  stays (key_of line) (key_of line + 1) lines es (put_if (key_of line) e.1 qs) up.2 (omega arith) ∙ this_key (key_of line) e.1 qs free.0,
  holds (key_of line + 1) lines es (put_if (key_of line) e.1 qs) up.2 (free_put (key_of line + 1) (key_of line) e.1 lines qs up.2 (omega arith) free.1),
)
holds low lines es qs up free = tt

others_if : (ns : List ℕ) (k : ℕ) (o : Option Term) (qs : Pairs) → is_one_of ns (number k) ≡ true → other_than ns (put_if k o qs) ≡ other_than ns qs
others_if ns k None qs is = refl
others_if ns k (Some t) qs is = others_put ns k t qs is

pub others_placed : (ns : List ℕ) (lines : List Line) (es : List Row) (qs : Pairs) → AreListed ns lines → other_than ns (placed lines es qs) ≡ other_than ns qs
others_placed ns (line ∷ lines) (e ∷ es) qs are =
    others_placed ns lines es (put_if (key_of line) e.1 qs) are.1 ∙ others_if ns (key_of line) e.1 qs are.0
others_placed ns lines es qs are = refl

if_proper : (k : ℕ) (o : Option Term) (qs : Pairs) → k < 2 ^ 63 → value_under k qs ≡ None → IfSome o IsProper → IsProperMap qs → IsProperMap (put_if k o qs)
if_proper k None qs small none value proper = proper
if_proper k (Some t) qs small none value proper = put_proper k t qs small none value proper

pub placed_proper : (least : ℕ) (ps : Pairs) (low : ℕ) (lines : List Line) (es : List Row) (qs : Pairs) → Facts least ps lines es → Rising low lines → AreFree lines qs → ArePairsProper ps
    → IsProperMap qs → IsProperMap (placed lines es qs)
placed_proper least ps low [] [] qs facts up free read proper = proper
placed_proper least ps low (line ∷ lines) (e ∷ es) qs facts up free read proper =
    let small : key_of line < 256 = up.1 in
    placed_proper least ps (key_of line + 1) lines es (put_if (key_of line) e.1 qs) facts.1 up.2 (free_put (key_of line + 1) (key_of line) e.1 lines qs up.2 (omega arith) free.1) read
    (if_proper (key_of line) e.1 qs (omega (arith, small)) free.0 (facts.0.proper read) proper)
placed_proper least ps low lines es qs facts up free read proper = absurd facts

-- An item has a level at least.
some_depth : (t : Term) → 1 ≤ depth t
some_depth (integer z) = omega arith
some_depth t = omega arith

if_within : (n k : ℕ) (o : Option Term) (qs : Pairs) → IfSome o (λ t. depth t ≤ n) → pairs_depth qs ≤ n → pairs_depth (put_if k o qs) ≤ n
if_within n k None qs value deep = deep
if_within n k (Some t) qs value deep =
    let level : 1 ≤ depth t = some_depth t in
    let bound : depth t ≤ n = value in
    put_within n (number k) t qs (omega (arith, level, bound)) value deep

pub placed_within : (least : ℕ) (ps : Pairs) (n : ℕ) (lines : List Line) (es : List Row) (qs : Pairs) → Facts least ps lines es → least ≤ n → pairs_depth ps ≤ n → pairs_depth qs ≤ n
    → pairs_depth (placed lines es qs) ≤ n
placed_within least ps n [] [] qs facts le read deep = deep
placed_within least ps n (line ∷ lines) (e ∷ es) qs facts le read deep =
    placed_within least ps n lines es (put_if (key_of line) e.1 qs) facts.1 le read (if_within n (key_of line) e.1 qs (facts.0.within n le read) deep)
placed_within least ps n lines es qs facts le read deep = absurd facts

-- The other pairs are proper, and no deeper.

below_next : (k l : Term) (ps : Pairs) → key_cmp k l ≡ Less → IsBelow l ps → IsBelow k ps
below_next k l no_pairs e is = tt
below_next k l (pair m v ps) e is = below_trans k l m e is

below_others_by : (b : Bool) (ns : List ℕ) (k l w : Term) (ps : Pairs) → key_cmp k l ≡ Less → IsBelow k (other_than ns ps)
    → IsBelow k (if b then other_than ns ps else pair l w (other_than ns ps))
below_others_by true ns k l w ps e rest = rest
below_others_by false ns k l w ps e rest = e

below_others : (ns : List ℕ) (k : Term) (ps : Pairs) → IsBelow k ps → Rises ps → IsBelow k (other_than ns ps)
below_others ns k no_pairs is up = tt
below_others ns k (pair l w ps) is up = below_others_by (is_one_of ns l) ns k l w ps is (below_others ns k ps (below_next k l ps is up.0) up.1)

others_proper_by : (b : Bool) (ns : List ℕ) (l w : Term) (ps : Pairs) → IsProperMap (pair l w ps) → IsProperMap (other_than ns ps)
    → IsProperMap (if b then other_than ns ps else pair l w (other_than ns ps))
others_proper_by true ns l w ps proper rest = rest
others_proper_by false ns l w ps proper rest = ((below_others ns l ps proper.0.0 proper.0.1, rest.0), (proper.1.0, proper.1.1, rest.1))

pub others_proper : (ns : List ℕ) (ps : Pairs) → IsProperMap ps → IsProperMap (other_than ns ps)
others_proper ns no_pairs proper = (tt, tt)
others_proper ns (pair l w ps) proper = others_proper_by (is_one_of ns l) ns l w ps proper (others_proper ns ps (proper.0.1, proper.1.2))

others_within_by : (b : Bool) (ns : List ℕ) (l w : Term) (ps : Pairs) (n : ℕ) → pairs_depth (pair l w ps) ≤ n → pairs_depth (other_than ns ps) ≤ n
    → pairs_depth (if b then other_than ns ps else pair l w (other_than ns ps)) ≤ n
others_within_by true ns l w ps n deep rest = rest
others_within_by false ns l w ps n deep rest = let d : max (depth l) (max (depth w) (pairs_depth ps)) ≤ n = deep in omega (arith, d, rest)

pub others_within : (ns : List ℕ) (ps : Pairs) (n : ℕ) → pairs_depth ps ≤ n → pairs_depth (other_than ns ps) ≤ n
others_within ns no_pairs n deep = deep
others_within ns (pair l w ps) n deep =
    let d : max (depth l) (max (depth w) (pairs_depth ps)) ≤ n = deep in
    others_within_by (is_one_of ns l) ns l w ps n deep (others_within ns ps n (omega (arith, d)))
