-- No part of an item has more octets, elements or pairs than a spelling of the item has octets.
use Rattle.std.proofs.Common.{◌≡◌, ℕ, ◌≤◌, max, List, [], ◌∷◌, ◌++◌, length, refl, ap, arith, true, false, length-append, pos, negsuc}
use Rattle.cbor_det.specs.declared.string_kind.StringKind.{StringKind}
use Rattle.cbor_det.specs.declared.string_kind.StringKind.TheVariants.{ByteString, TextString}
use Rattle.cbor_det.specs.Term.{Term, Terms, Pairs, integer, octets, text, array, map, tagged, boolean, no_terms, term, no_pairs, pair, count, pair_count, plus}
use Rattle.cbor_det.specs.Canonical.{Form, direct, one, two, four, eight, head, shortest, short_head, canon, canon_terms, canon_pairs}
use Rattle.cbor_det.specs.Spelling.{IsHead, stop, major_of, string, Chunks, no_chunks, chunk, PutsIn, here, later, Spelling, Series, PairSeries, unsigned, negative, definite_string, indefinite_string, definite_array, indefinite_array, definite_map, indefinite_map, under_tag, is_false, is_true, no_items, item, no_members, member}
use Rattle.cbor_det.proofs.Lengths.{count_plus}
use Rattle.cbor_det.proofs.Order.{count_puts}

-- a head, an item, and how many of them there are

head_some : (form : Form) (major n : ℕ) → 1 ≤ length (head form major n)
head_some direct major n = omega arith
head_some one major n = omega arith
head_some two major n = omega arith
head_some four major n = omega arith
head_some eight major n = omega arith

is_head_some : (major n : ℕ) (h : List ℕ) → IsHead major n h → 1 ≤ length h
is_head_some major n h is = let s = head_some is.form major n in let e = ap length is.is in omega (arith, s, e)

front_some : (x y : List ℕ) → 1 ≤ length x → 1 ≤ length (x ++ y)
front_some x y some = omega (arith, length-append x y)

canon_some : (t : Term) → 1 ≤ length (canon t)
canon_some (integer (pos n)) = head_some (shortest n) 0 n
canon_some (integer (negsuc n)) = head_some (shortest n) 1 n
canon_some (octets s) = front_some (short_head 2 (length s)) s (head_some (shortest (length s)) 2 (length s))
canon_some (text s) = front_some (short_head 3 (length s)) s (head_some (shortest (length s)) 3 (length s))
canon_some (array ts) = front_some (short_head 4 (count ts)) (canon_terms ts) (head_some (shortest (count ts)) 4 (count ts))
canon_some (map ps) = front_some (short_head 5 (pair_count ps)) (canon_pairs ps) (head_some (shortest (pair_count ps)) 5 (pair_count ps))
canon_some (tagged n t) = front_some (short_head 6 n) (canon t) (head_some (shortest n) 6 n)
canon_some (boolean false) = omega arith
canon_some (boolean true) = omega arith

pub spelling_some : (t : Term) (o : List ℕ) → Spelling t o → 1 ≤ length o
spelling_some t o (unsigned n h lt is) = is_head_some 0 n h is
spelling_some t o (negative n h lt is) = is_head_some 1 n h is
spelling_some t o (definite_string kind s h part is) = front_some h s (is_head_some (major_of kind) (length s) h is)
spelling_some t o (indefinite_string kind s q _) = omega arith
spelling_some t o (definite_array ts h r is series) = front_some h r (is_head_some 4 (count ts) h is)
spelling_some t o (indefinite_array ts r series) = omega arith
spelling_some t o (definite_map ps h r rises is series) = front_some h r (is_head_some 5 (pair_count ps) h is)
spelling_some t o (indefinite_map ps r rises series) = omega arith
spelling_some t o (under_tag n u h q is spelled) = front_some h q (is_head_some 6 n h is)
spelling_some t o is_false = omega arith
spelling_some t o is_true = omega arith

series_some : (ts : Terms) (r : List ℕ) → Series ts r → count ts ≤ length r
series_some ts r no_items = omega arith
series_some ts r (item us u q o series spelled) =
    let s = spelling_some u o spelled in let c = count_plus us u in let i = series_some us q series in omega (arith, length-append q o, s, c, i)

pairs_some : (ps : Pairs) (r : List ℕ) → PairSeries ps r → pair_count ps ≤ length r
pairs_some ps r no_members = omega arith
pairs_some ps r (member qs more k v u o q series key value puts) =
    let s = spelling_some k o key in let c = count_puts k v qs more puts in let i = pairs_some qs u series in omega (arith, length-append u (o ++ q), length-append o q, s, c, i)

chunks_some : (kind : StringKind) (s o : List ℕ) → Chunks kind s o → length s ≤ length o
chunks_some kind s o no_chunks = omega arith
chunks_some kind s o (chunk t u q h parts part is) =
    let i = chunks_some kind t q parts in omega (arith, length-append t u, length-append (q ++ h) u, length-append q h, i)

terms_some : (ts : Terms) → count ts ≤ length (canon_terms ts)
terms_some no_terms = omega arith
terms_some (term t ts) = let s = canon_some t in let i = terms_some ts in omega (arith, length-append (canon t) (canon_terms ts), s, i)

canon_pairs_some : (ps : Pairs) → pair_count ps ≤ length (canon_pairs ps)
canon_pairs_some no_pairs = omega arith
canon_pairs_some (pair k v ps) =
    let s = canon_some k in let i = canon_pairs_some ps in omega (arith, length-append (canon k ++ canon v) (canon_pairs ps), length-append (canon k) (canon v), s, i)

-- The most octets of a string, elements of an array, or pairs of a map, in an item.
abbrev mutual
  pub most : Term → ℕ
  most (integer z) = 0
  most (octets s) = length s
  most (text s) = length s
  most (array ts) = max (count ts) (terms_most ts)
  most (map ps) = max (pair_count ps) (pairs_most ps)
  most (tagged n t) = most t
  most (boolean b) = 0

  pub terms_most : Terms → ℕ
  terms_most no_terms = 0
  terms_most (term t ts) = max (most t) (terms_most ts)

  pub pairs_most : Pairs → ℕ
  pairs_most no_pairs = 0
  pairs_most (pair k v ps) = max (most k) (max (most v) (pairs_most ps))

most_plus : (ts : Terms) (t : Term) → terms_most (plus ts t) ≤ max (terms_most ts) (most t)
most_plus no_terms t = omega arith
most_plus (term u ts) t = let l = most_plus ts t in omega (arith, l)

most_puts : (k v : Term) (ps more : Pairs) → PutsIn k v ps more → pairs_most more ≤ max (most k) (max (most v) (pairs_most ps))
most_puts k v ps more (here qs) = omega arith
most_puts k v ps more (later l w qs rest puts) = let m = most_puts k v qs rest puts in omega (arith, m)

string_most : (kind : StringKind) (s : List ℕ) → most (string kind s) ≡ length s
string_most ByteString s = refl
string_most TextString s = refl

mutual
  -- No part of what is spelled has more of them than octets are spelled.
  pub spelled_most : (t : Term) (o : List ℕ) → Spelling t o → most t ≤ length o
  spelled_most t o (unsigned n h lt is) = omega arith
  spelled_most t o (negative n h lt is) = omega arith
  spelled_most t o (definite_string kind s h part is) = omega (arith, string_most kind s, length-append h s)
  spelled_most t o (indefinite_string kind s q parts) = let c = chunks_some kind s q parts in omega (arith, string_most kind s, length-append q (stop ∷ []), c)
  spelled_most t o (definite_array ts h r is series) =
      let c = series_some ts r series in let l = series_most ts r series in omega (arith, length-append h r, c, l)
  spelled_most t o (indefinite_array ts r series) =
      let c = series_some ts r series in let l = series_most ts r series in omega (arith, length-append r (stop ∷ []), c, l)
  spelled_most t o (definite_map ps h r rises is series) =
      let c = pairs_some ps r series in let l = members_most ps r series in omega (arith, length-append h r, c, l)
  spelled_most t o (indefinite_map ps r rises series) =
      let c = pairs_some ps r series in let l = members_most ps r series in omega (arith, length-append r (stop ∷ []), c, l)
  spelled_most t o (under_tag n u h q is spelled) = let l = spelled_most u q spelled in omega (arith, length-append h q, l)
  spelled_most t o is_false = omega arith
  spelled_most t o is_true = omega arith

  series_most : (ts : Terms) (r : List ℕ) → Series ts r → terms_most ts ≤ length r
  series_most ts r no_items = omega arith
  series_most ts r (item us u q o series spelled) =
      let l = series_most us q series in let m = spelled_most u o spelled in let p = most_plus us u in omega (arith, length-append q o, l, m, p)

  members_most : (ps : Pairs) (r : List ℕ) → PairSeries ps r → pairs_most ps ≤ length r
  members_most ps r no_members = omega arith
  members_most ps r (member qs more k v u o q series key value puts) =
      let l = members_most qs u series in
      let m = spelled_most k o key in
      let n = spelled_most v q value in
      let p = most_puts k v qs more puts in
      omega (arith, length-append u (o ++ q), length-append o q, l, m, n, p)

mutual
  -- Nor than its canonical spelling has.
  pub canon_most : (t : Term) → most t ≤ length (canon t)
  canon_most (integer (pos n)) = omega arith
  canon_most (integer (negsuc n)) = omega arith
  canon_most (octets s) = omega (arith, length-append (short_head 2 (length s)) s)
  canon_most (text s) = omega (arith, length-append (short_head 3 (length s)) s)
  canon_most (array ts) =
      let c = terms_some ts in let l = canon_terms_most ts in omega (arith, length-append (short_head 4 (count ts)) (canon_terms ts), c, l)
  canon_most (map ps) =
      let c = canon_pairs_some ps in let l = canon_pairs_most ps in omega (arith, length-append (short_head 5 (pair_count ps)) (canon_pairs ps), c, l)
  canon_most (tagged n t) = let l = canon_most t in omega (arith, length-append (short_head 6 n) (canon t), l)
  canon_most (boolean false) = omega arith
  canon_most (boolean true) = omega arith

  canon_terms_most : (ts : Terms) → terms_most ts ≤ length (canon_terms ts)
  canon_terms_most no_terms = omega arith
  canon_terms_most (term t ts) =
      let l = canon_most t in let m = canon_terms_most ts in omega (arith, length-append (canon t) (canon_terms ts), l, m)

  canon_pairs_most : (ps : Pairs) → pairs_most ps ≤ length (canon_pairs ps)
  canon_pairs_most no_pairs = omega arith
  canon_pairs_most (pair k v ps) =
      let l = canon_most k in
      let m = canon_most v in
      let n = canon_pairs_most ps in
      omega (arith, length-append (canon k ++ canon v) (canon_pairs ps), length-append (canon k) (canon v), l, m, n)
