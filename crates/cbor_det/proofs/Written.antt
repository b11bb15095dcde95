-- The canonical spelling is a spelling, of one item alone.
use Rattle.std.proofs.Common.{◌≡◌, ℕ, ◌+◌, ◌^◌, ◌<◌, ◌≤◌, List, [], ◌++◌, length, max, refl, sym, ap, ◌∙◌, arith, subst, true, false, append_assoc, length-append, pos, negsuc}
use Rattle.std.specs.Prelude.{nat_lt}
use Rattle.std.proofs.lemmas.List.{append-nil, take_at}
use Rattle.std.proofs.lemmas.Bool.{cond_both, ltb-true}
use Rattle.cbor_det.specs.declared.string_kind.StringKind.{StringKind}
use Rattle.cbor_det.specs.declared.string_kind.StringKind.TheVariants.{ByteString, TextString}
use Rattle.cbor_det.specs.declared.limits.Limits.{Limits}
use Rattle.cbor_det.specs.Term.{Term, Terms, Pairs, integer, octets, text, array, map, tagged, boolean, no_terms, term, no_pairs, pair, count, pair_count, plus, depth}
use Rattle.cbor_det.specs.Canonical.{Form, direct, one, two, four, eight, bound, shortest, short_head, canon, canon_terms, canon_pairs}
use Rattle.cbor_det.specs.Spelling.{IsHead, IsPart, string, PutsIn, here, later, Spelling, Series, PairSeries, unsigned, negative, definite_string, indefinite_string, definite_array, indefinite_array, definite_map, indefinite_map, under_tag, is_false, is_true, no_items, item, no_members, member}
use Rattle.cbor_det.specs.Faults.{top, Begins}
use Rattle.cbor_det.specs.Proper.{IsProper, AreProper, ArePairsProper}
use Rattle.cbor_det.specs.Machine.{due, whole, item_ended, run}
use Rattle.cbor_det.proofs.Completes.{reads, chunks_part}
use Rattle.cbor_det.proofs.Shown.{ended}
use Rattle.cbor_det.proofs.Counts.{most, terms_most, pairs_most, spelled_most, canon_most}
use Rattle.cbor_det.proofs.Outcome.{same_whole}

-- heads

pub short_fits : (n : ℕ) → n < 2 ^ 64 → n < bound (shortest n)
short_fits n small =
    cond_both (nat_lt n 24) _ _ (λ (form : Form). n < bound form) (λ e. ltb-true n 24 e) (λ e0.
    cond_both (nat_lt n (2 ^ 8)) _ _ (λ (form : Form). n < bound form) (λ e. ltb-true n (2 ^ 8) e) (λ e1.
    cond_both (nat_lt n (2 ^ 16)) _ _ (λ (form : Form). n < bound form) (λ e. ltb-true n (2 ^ 16) e) (λ e2.
    cond_both (nat_lt n (2 ^ 32)) _ _ (λ (form : Form). n < bound form) (λ e. ltb-true n (2 ^ 32) e) (λ e3. small))))

pub short_is : (major n : ℕ) → n < 2 ^ 64 → IsHead major n (short_head major n)
short_is major n small = record { form = shortest n; fits = short_fits n small; is = refl }

below_bound : (form : Form) → bound form ≤ 2 ^ 64
below_bound direct = omega arith
below_bound one = omega arith
below_bound two = omega arith
below_bound four = omega arith
below_bound eight = omega arith

pub head_small : (major n : ℕ) (h : List ℕ) → IsHead major n h → n < 2 ^ 64
head_small major n h is = let b = below_bound is.form in let f = is.fits in omega (arith, b, f)

-- series with one more before

series_cons : (t : Term) (o : List ℕ) → Spelling t o → (ts : Terms) (r : List ℕ) → Series ts r → Series (term t ts) (o ++ r)
series_cons t o spelled ts r no_items = let P : List ℕ → Type 0 = λ x. Series (term t no_terms) x in subst P (sym (append-nil o)) (item no_terms t [] o no_items spelled)
series_cons t o spelled ts r (item us u q x series last) =
    let P : List ℕ → Type 0 = λ y. Series (term t (plus us u)) y in
    subst P (append_assoc o q x) (item (term t us) u (o ++ q) x (series_cons t o spelled us q series) last)

pairs_cons : (k v : Term) (o q : List ℕ) → Spelling k o → Spelling v q → (ps : Pairs) (r : List ℕ) → PairSeries ps r → PairSeries (pair k v ps) ((o ++ q) ++ r)
pairs_cons k v o q key value ps r no_members =
    let P : List ℕ → Type 0 = λ x. PairSeries (pair k v no_pairs) x in
    subst P (sym (append-nil (o ++ q))) (member no_pairs (pair k v no_pairs) k v [] o q no_members key value (here no_pairs))
pairs_cons k v o q key value ps r (member qs more l w u x y series first second puts) =
    let P : List ℕ → Type 0 = λ z. PairSeries (pair k v more) z in
    subst P (append_assoc (o ++ q) u (x ++ y)) (member (pair k v qs) (pair k v more) l w ((o ++ q) ++ u) x y (pairs_cons k v o q key value qs u series) first second (later k v qs more puts))

-- what has its canonical spelling

abbrev Each : Terms → Type 0
Each no_terms = Unit {0}
Each (term t ts) = Spelling t (canon t) × Each ts

abbrev EachPair : Pairs → Type 0
EachPair no_pairs = Unit {0}
EachPair (pair k v ps) = Spelling k (canon k) × Spelling v (canon v) × EachPair ps

each_series : (ts : Terms) → Each ts → Series ts (canon_terms ts)
each_series no_terms each = no_items
each_series (term t ts) each = series_cons t (canon t) each.0 ts (canon_terms ts) (each_series ts each.1)

each_pairs : (ps : Pairs) → EachPair ps → PairSeries ps (canon_pairs ps)
each_pairs no_pairs each = no_members
each_pairs (pair k v ps) each = pairs_cons k v (canon k) (canon v) each.0 each.1 ps (canon_pairs ps) (each_pairs ps each.2)

string_written : (kind : StringKind) (s : List ℕ) → IsPart kind s → length s < 2 ^ 64 → Spelling (string kind s) (canon (string kind s))
string_written ByteString s part small = definite_string ByteString s (short_head 2 (length s)) part (short_is 2 (length s) small)
string_written TextString s part small = definite_string TextString s (short_head 3 (length s)) part (short_is 3 (length s) small)

-- proper items

string_proper : (kind : StringKind) (s : List ℕ) → IsPart kind s → IsProper (string kind s)
string_proper ByteString s part = tt
string_proper TextString s part = part

proper_plus : (ts : Terms) (t : Term) → AreProper ts → IsProper t → AreProper (plus ts t)
proper_plus no_terms t all last = (last, tt)
proper_plus (term u ts) t all last = (all.0, proper_plus ts t all.1 last)

pub proper_puts : (k v : Term) (ps more : Pairs) → PutsIn k v ps more → ArePairsProper ps → IsProper k → IsProper v → ArePairsProper more
proper_puts k v ps more (here qs) all key value = (key, value, all)
proper_puts k v ps more (later l w qs rest puts) all key value = (all.0, all.1, proper_puts k v qs rest puts all.2 key value)

mutual
  -- What has a spelling is proper.
  pub spelled_proper : (t : Term) (o : List ℕ) → Spelling t o → IsProper t
  spelled_proper t o (unsigned n h lt is) = lt
  spelled_proper t o (negative n h lt is) = lt
  spelled_proper t o (definite_string kind s h part is) = string_proper kind s part
  spelled_proper t o (indefinite_string kind s q parts) = string_proper kind s (chunks_part kind s q parts)
  spelled_proper t o (definite_array ts h r is series) = series_proper ts r series
  spelled_proper t o (indefinite_array ts r series) = series_proper ts r series
  spelled_proper t o (definite_map ps h r rises is series) = (rises, pairs_proper ps r series)
  spelled_proper t o (indefinite_map ps r rises series) = (rises, pairs_proper ps r series)
  spelled_proper t o (under_tag n u h q is spelled) = (head_small 6 n h is, spelled_proper u q spelled)
  spelled_proper t o is_false = tt
  spelled_proper t o is_true = tt

  series_proper : (ts : Terms) (r : List ℕ) → Series ts r → AreProper ts
  series_proper ts r no_items = tt
  series_proper ts r (item us u q o series spelled) = proper_plus us u (series_proper us q series) (spelled_proper u o spelled)

  pairs_proper : (ps : Pairs) (r : List ℕ) → PairSeries ps r → ArePairsProper ps
  pairs_proper ps r no_members = tt
  pairs_proper ps r (member qs more k v u o q series key value puts) =
      proper_puts k v qs more puts (pairs_proper qs u series) (spelled_proper k o key) (spelled_proper v q value)

mutual
  -- A proper item is spelled by its canonical spelling, where each part has fewer than 2 ^ 64 of
  -- them.
  pub few_spelled : (t : Term) → IsProper t → most t < 2 ^ 64 → Spelling t (canon t)
  few_spelled (integer (pos n)) proper few = unsigned n (short_head 0 n) proper (short_is 0 n (let l : n < 2 ^ 63 = proper in omega (arith, l)))
  few_spelled (integer (negsuc n)) proper few = negative n (short_head 1 n) proper (short_is 1 n (let l : n < 2 ^ 63 = proper in omega (arith, l)))
  few_spelled (octets s) proper few = string_written ByteString s tt few
  few_spelled (text s) proper few = string_written TextString s proper few
  few_spelled (array ts) proper few =
      let l : max (count ts) (terms_most ts) < 2 ^ 64 = few in
      definite_array ts (short_head 4 (count ts)) (canon_terms ts) (short_is 4 (count ts) (omega (arith, l))) (each_series ts (terms_spelled ts proper (omega (arith, l))))
  few_spelled (map ps) proper few =
      let l : max (pair_count ps) (pairs_most ps) < 2 ^ 64 = few in
      definite_map ps (short_head 5 (pair_count ps)) (canon_pairs ps) proper.0 (short_is 5 (pair_count ps) (omega (arith, l))) (each_pairs ps (pairs_spelled ps proper.1 (omega (arith, l))))
  few_spelled (tagged n t) proper few = under_tag n t (short_head 6 n) (canon t) (short_is 6 n proper.0) (few_spelled t proper.1 few)
  few_spelled (boolean false) proper few = is_false
  few_spelled (boolean true) proper few = is_true

  terms_spelled : (ts : Terms) → AreProper ts → terms_most ts < 2 ^ 64 → Each ts
  terms_spelled no_terms proper few = tt
  terms_spelled (term t ts) proper few =
      let l : max (most t) (terms_most ts) < 2 ^ 64 = few in
      (few_spelled t proper.0 (omega (arith, l)), terms_spelled ts proper.1 (omega (arith, l)))

  pairs_spelled : (ps : Pairs) → ArePairsProper ps → pairs_most ps < 2 ^ 64 → EachPair ps
  pairs_spelled no_pairs proper few = tt
  pairs_spelled (pair k v ps) proper few =
      let l : max (most k) (max (most v) (pairs_most ps)) < 2 ^ 64 = few in
      (few_spelled k proper.0 (omega (arith, l)), few_spelled v proper.1 (omega (arith, l)), pairs_spelled ps proper.2 (omega (arith, l)))

-- What has a spelling has its canonical one.
pub written : (t : Term) (o : List ℕ) → Spelling t o → length o < 2 ^ 64 → Spelling t (canon t)
written t o spelled small = few_spelled t (spelled_proper t o spelled) (let l = spelled_most t o spelled in omega (arith, l, small))

-- So has a proper item whose canonical spelling has fewer than 2 ^ 64 octets.
pub proper_spelled : (t : Term) → IsProper t → length (canon t) < 2 ^ 64 → Spelling t (canon t)
proper_spelled t proper small = few_spelled t proper (let l = canon_most t in omega (arith, l, small))

-- unambiguous and prefix-free

reads_whole : (limits : Limits) (t : Term) (o x : List ℕ) → Spelling t o → length o ≤ limits.octets → depth t ≤ limits.depth → run limits 0 (due top) (o ++ x) ≡ (whole t, x)
unfolding item_ended
reads_whole limits t o x spelled room deep =
    reads limits t o spelled top 0 x ((λ e. e), omega arith) (omega arith) ∙ ended limits (0 + length o) t x

-- A spelling is of one item, and begins no other spelling.
pub one_item : (t u : Term) (o q x y : List ℕ) → Spelling t o → Spelling u q → o ++ x ≡ q ++ y → (t ≡ u) × (x ≡ y)
one_item t u o q x y first second e =
    let limits : Limits = record { octets = length o + length q; depth = depth t + depth u } in
    same_whole t u x y (sym (reads_whole limits t o x first (omega arith) (omega arith)) ∙ ap (λ (z : List ℕ). run limits 0 (due top) z) e ∙ reads_whole limits u q y second (omega arith) (omega arith))

-- Two proper items with one canonical spelling are one, where each part has fewer than 2 ^ 64 of
-- them.
pub few_same : (t u : Term) → IsProper t → IsProper u → most t < 2 ^ 64 → most u < 2 ^ 64 → canon t ≡ canon u → t ≡ u
few_same t u first second few less e =
    (one_item t u (canon t) (canon u) [] [] (few_spelled t first few) (few_spelled u second less) (ap (λ (z : List ℕ). z ++ []) e)).0

pub canon_same : (t u : Term) → IsProper t → IsProper u → length (canon t) < 2 ^ 64 → canon t ≡ canon u → t ≡ u
canon_same t u first second small e =
    few_same t u first second (let l = canon_most t in omega (arith, l, small)) (let l = canon_most u in omega (arith, l, ap length e, small)) e

-- What is written is read, whatever follows.
pub written_begins : (limits : Limits) (t : Term) (tail : List ℕ) → IsProper t → length (canon t) < 2 ^ 64 → length (canon t) ≤ limits.octets → depth t ≤ limits.depth
    → Begins limits (canon t ++ tail) t (length (canon t))
written_begins limits t tail proper small room deep =
    let P : List ℕ → Type 0 = λ x. Spelling t x in
    record {
      within = omega (arith, length-append (canon t) tail);
      short = room;
      spelled = subst P (sym (take_at (canon t) tail (length (canon t)) refl)) (proper_spelled t proper small);
      shallow = deep;
    }
