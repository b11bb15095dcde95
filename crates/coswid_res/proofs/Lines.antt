-- Line by line and pair by pair the first fault of a map is the same.
use Rattle.std.proofs.Common.{◌≡◌, ℕ, ◌+◌, ◌<◌, ◌≤◌, inl, inr, Bool, true, false, ◌&&◌, nat_le, nat_lt, pos, negsuc, List, [], ◌∷◌, Option, Some, None, refl, sym, ap, ◌∙◌, subst, arith}
use Rattle.std.proofs.lemmas.Bool.{and_parts, leb-true, ltb-true, ne_eqb, eq-eqb, cases_lt, cond-true, cond-false}
use Rattle.std.specs.Ordering.{nat_cmp}
use Rattle.std.specs.declared.cmp.Ordering.TheVariants.{Less}
use Rattle.std.specs.Cmp.Lexicographic.{slice_cmp}
use Rattle.cbor_det.specs.Term.{Term, Pairs, integer, octets, text, array, map, tagged, boolean, no_pairs, pair}
use Rattle.cbor_det.specs.Canonical.{canon}
use Rattle.cbor_det.specs.Lookup.{value_under, is_unsigned}
use Rattle.cbor_det.specs.Spelling.{IsBelow, Rises}
use Rattle.cbor_det.proofs.Order.{below_trans}
use Rattle.coswid_res.specs.declared.fault.FormFault.{FormFault}
use Rattle.coswid_res.specs.Schema.{Name, tag, entity, link, software_meta, payload, evidence, directory, path_elements, file, process, resource, table, Line, Field, one, anything, required, optional, key_of, field_of, required_keys}
use Rattle.coswid_res.specs.Fault.{or_else, under, absent, missing, look_up, field_fault, pairs_fault}
use Rattle.coswid_res.specs.Reading.{value_fault, lines_fault, LineByLine}
use Rattle.coswid_res.proofs.Keys.{numbers_in_order}
use Rattle.coswid_res.proofs.Maps.{behind, or_none, map_told}

-- the first fault of what stands under the keys, missing keys left out
abbrev pub values_fault : List Line → Pairs → Option FormFault
values_fault [] ps = None
values_fault (line ∷ lines) ps = or_else (value_fault (key_of line) (field_of line) (value_under (key_of line) ps)) (values_fault lines ps)

pub none_first : (first later : Option FormFault) → first ≡ None → or_else first later ≡ later
none_first first later is = ap (λ (o : Option FormFault). or_else o later) is

-- Where no key is missing, the lines report the faults of their values.
filled : (lines : List Line) (ps : Pairs) → missing (required_keys lines) ps ≡ None → lines_fault lines ps ≡ values_fault lines ps
filled [] ps none = refl
filled (optional k field ∷ lines) ps none = ap (λ (rest : Option FormFault). or_else (value_fault k field (value_under k ps)) rest) (filled lines ps none)
filled (required k field ∷ lines) ps none =
    let parts = or_none (absent k (value_under k ps)) (missing (required_keys lines) ps) none in
    ap (λ (first : Option FormFault). or_else (or_else first (value_fault k field (value_under k ps))) (lines_fault lines ps)) parts.0
    ∙ ap (λ (rest : Option FormFault). or_else (value_fault k field (value_under k ps)) rest) (filled lines ps parts.1)

-- what stands under a key that is not listed
any_none : (t : Term) → field_fault (one anything) t ≡ None
any_none (integer z) = refl
any_none t = refl

under_any : (place : ℕ) (t : Term) → under place (field_fault (one anything) t) ≡ None
under_any place t = ap (λ (o : Option FormFault). under place o) (any_none t)

-- The keys of these lines rise from a number on, and are below 256.
abbrev pub Rising : ℕ → List Line → Type 0
Rising low [] = Unit {0}
Rising low (line ∷ lines) = (low ≤ key_of line) × (key_of line < 256) × Rising (key_of line + 1) lines

abbrev rising : ℕ → List Line → Bool
rising low [] = true
rising low (line ∷ lines) = nat_le low (key_of line) && (nat_lt (key_of line) 256 && rising (key_of line + 1) lines)

rises : (low : ℕ) (lines : List Line) → rising low lines ≡ true → Rising low lines
rises low [] is = tt
rises low (line ∷ lines) is =
    let parts = and_parts (nat_le low (key_of line)) (nat_lt (key_of line) 256 && rising (key_of line + 1) lines) is in
    let more = and_parts (nat_lt (key_of line) 256) (rising (key_of line + 1) lines) parts.1 in
    (leb-true low (key_of line) parts.0, ltb-true (key_of line) 256 more.0, rises (key_of line + 1) lines more.1)

pub table_rises : (name : Name) → Rising 0 (table name)
table_rises tag = rises 0 (table tag) refl
table_rises name = rises 0 (table name) refl

-- A pair whose key no line has changes nothing.
apart : (lines : List Line) (low : ℕ) (key v : Term) (ps : Pairs) → Rising low lines → ((k : ℕ) → low ≤ k → is_unsigned k key ≡ false)
    → values_fault lines (pair key v ps) ≡ values_fault lines ps
apart [] low key v ps up not = refl
apart (line ∷ lines) low key v ps up not =
    let e : value_under (key_of line) (pair key v ps) ≡ value_under (key_of line) ps = cond-false _ _ _ (not (key_of line) up.0) in
    let le : low ≤ key_of line = up.0 in
    let next : (k : ℕ) → key_of line + 1 ≤ k → is_unsigned k key ≡ false = λ k above. not k (omega (arith, above, le)) in
    ap (λ (o : Option Term). or_else (value_fault (key_of line) (field_of line) o) (values_fault lines (pair key v ps))) e
    ∙ ap (λ (rest : Option FormFault). or_else (value_fault (key_of line) (field_of line) (value_under (key_of line) ps)) rest)
    (apart lines (key_of line + 1) key v ps up.2 next)

look_none : (lines : List Line) (low n : ℕ) → Rising low lines → n < low → look_up lines n ≡ one anything
look_none [] low n up lt = refl
look_none (line ∷ lines) low n up lt =
    let le : low ≤ key_of line = up.0 in
    cond-false _ _ _ (ne_eqb (key_of line) n (λ e. omega (arith, e, le, lt))) ∙ look_none lines (key_of line + 1) n up.2 (omega (arith, le, lt))

-- Nothing stands under a number up to this one.
abbrev Free : ℕ → Pairs → Type 0
Free n ps = (k : ℕ) → k ≤ n → k < 256 → value_under k ps ≡ None

-- what a pair adds whose key is a number
abbrev Adds : List Line → ℕ → Term → Pairs → Type 0
Adds lines n v ps = values_fault lines (pair (integer (pos n)) v ps) ≡ or_else (under n (field_fault (look_up lines n) v)) (values_fault lines ps)

here : (line : Line) (lines : List Line) (low : ℕ) (v : Term) (ps : Pairs) → Rising low (line ∷ lines) → Free (key_of line) ps → Adds (line ∷ lines) (key_of line) v ps
here line lines low v ps up free =
    let same : is_unsigned (key_of line) (integer (pos (key_of line))) ≡ true = eq-eqb (key_of line) (key_of line) refl in
    let found : value_under (key_of line) (pair (integer (pos (key_of line))) v ps) ≡ Some v = cond-true _ _ _ same in
    let none : value_under (key_of line) ps ≡ None = free (key_of line) (omega arith) up.1 in
    let listed : look_up (line ∷ lines) (key_of line) ≡ field_of line = cond-true _ _ _ same in
    let next : (j : ℕ) → key_of line + 1 ≤ j → is_unsigned j (integer (pos (key_of line))) ≡ false = λ j above. ne_eqb (key_of line) j (λ e. omega (arith, e, above)) in
    ap (λ (o : Option Term). or_else (value_fault (key_of line) (field_of line) o) (values_fault lines (pair (integer (pos (key_of line))) v ps))) found
    ∙ ap (λ (rest : Option FormFault). or_else (under (key_of line) (field_fault (field_of line) v)) rest)
    (apart lines (key_of line + 1) (integer (pos (key_of line))) v ps up.2 next)
    ∙ sym (
    ap (λ (f : Field). or_else (under (key_of line) (field_fault f v)) (values_fault (line ∷ lines) ps)) listed
    ∙ ap (λ (o : Option Term). or_else (under (key_of line) (field_fault (field_of line) v)) (or_else (value_fault (key_of line) (field_of line) o) (values_fault lines ps))) none)

adds : (lines : List Line) (low n : ℕ) (v : Term) (ps : Pairs) → Rising low lines → Free n ps → Adds lines n v ps
adds [] low n v ps up free = sym (none_first (under n (field_fault (one anything) v)) None (under_any n v))
adds (line ∷ lines) low n v ps up free = elim (cases_lt n (key_of line)) [
  | inl lt ↦
      let not : (j : ℕ) → key_of line ≤ j → is_unsigned j (integer (pos n)) ≡ false = λ j le. ne_eqb n j (λ e. omega (arith, e, le, lt)) in
      let up_here : Rising (key_of line) (line ∷ lines) = (omega arith, up.1, up.2) in
      apart (line ∷ lines) (key_of line) (integer (pos n)) v ps up_here not
      ∙ sym (ap (λ (f : Field). or_else (under n (field_fault f v)) (values_fault (line ∷ lines) ps)) (look_none (line ∷ lines) (key_of line) n up_here lt)
      ∙ none_first (under n (field_fault (one anything) v)) (values_fault (line ∷ lines) ps) (under_any n v))
  | inr le ↦ elim (cases_lt (key_of line) n) [
    | inl lt ↦
        let past : value_under (key_of line) (pair (integer (pos n)) v ps) ≡ value_under (key_of line) ps =
        cond-false _ _ _ (ne_eqb n (key_of line) (λ e. omega (arith, e, lt))) in
        let none : value_under (key_of line) ps ≡ None = free (key_of line) le up.1 in
        ap (λ (o : Option Term). or_else (value_fault (key_of line) (field_of line) o) (values_fault lines (pair (integer (pos n)) v ps))) (past ∙ none)
        ∙ adds lines (key_of line + 1) n v ps up.2 free
        ∙ sym (
        ap (λ (f : Field). or_else (under n (field_fault f v)) (values_fault (line ∷ lines) ps)) (cond-false _ _ _ (ne_eqb (key_of line) n (λ e. omega (arith, e, lt))))
        ∙ ap (λ (o : Option Term). or_else (under n (field_fault (look_up lines n) v)) (or_else (value_fault (key_of line) (field_of line) o) (values_fault lines ps))) none)
    | inr ge ↦
        let P : ℕ → Type 0 = λ m. Free m ps → Adds (line ∷ lines) m v ps in
        let e : key_of line ≡ n = omega (arith, le, ge) in
        subst P e (here line lines low v ps up) free
  ]
]

-- After a number stand no smaller ones.
not_that : (n k : ℕ) (l : Term) → slice_cmp nat_cmp (canon (integer (pos n))) (canon l) ≡ Less → k ≤ n → k < 256 → is_unsigned k l ≡ false
not_that n k (integer (pos m)) less le small =
    ne_eqb m k (λ e.
    let P : ℕ → Type 0 = λ j. slice_cmp nat_cmp (canon (integer (pos n))) (canon (integer (pos j))) ≡ Less in
    let lt : n < k = numbers_in_order n k small (subst P e less) in
    omega (arith, lt, le))
not_that n k l less le small = refl

below_rest : (k l : Term) (ps : Pairs) → slice_cmp nat_cmp (canon k) (canon l) ≡ Less → IsBelow l ps → IsBelow k ps
below_rest k l no_pairs less is = tt
below_rest k l (pair m w ps) less is = below_trans k l m less is

free_behind : (n : ℕ) (ps : Pairs) → IsBelow (integer (pos n)) ps → Rises ps → Free n ps
free_behind n no_pairs is up = λ k le small. refl
free_behind n (pair l w ps) is up = λ k le small.
    cond-false _ _ _ (not_that n k l is le small) ∙ free_behind n ps (below_rest (integer (pos n)) l ps is up.0) up.1 k le small

nothing_there : (lines : List Line) → values_fault lines no_pairs ≡ None
nothing_there [] = refl
nothing_there (line ∷ lines) = nothing_there lines

other : (lines : List Line) (key v : Term) (ps : Pairs) → Rising 0 lines → ((k : ℕ) → is_unsigned k key ≡ false) → pairs_fault lines ps ≡ values_fault lines ps
    → or_else (under 0 (field_fault (one anything) v)) (pairs_fault lines ps) ≡ values_fault lines (pair key v ps)
other lines key v ps up not same =
    none_first (under 0 (field_fault (one anything) v)) (pairs_fault lines ps) (under_any 0 v) ∙ same ∙ sym (apart lines 0 key v ps up (λ k le. not k))

pair_by_pair : (lines : List Line) (ps : Pairs) → Rising 0 lines → Rises ps → pairs_fault lines ps ≡ values_fault lines ps
pair_by_pair lines no_pairs up rise = sym (nothing_there lines)
pair_by_pair lines (pair (integer (pos n)) v ps) up rise =
    ap (λ (rest : Option FormFault). or_else (under n (field_fault (look_up lines n) v)) rest) (pair_by_pair lines ps up rise.1)
    ∙ sym (adds lines 0 n v ps up (free_behind n ps rise.0 rise.1))
pair_by_pair lines (pair k v ps) up rise = other lines k v ps up (λ j. refl) (pair_by_pair lines ps up rise.1)

pub line_by_line : LineByLine
line_by_line name ps rise =
    behind (missing (required_keys (table name)) ps) (pairs_fault (table name) ps) (lines_fault (table name) ps)
    (λ none. pair_by_pair (table name) ps (table_rises name) rise ∙ sym (filled (table name) ps none))
    ∙ sym (map_told name ps)
