-- Data items without where they lie in memory: RFC 8949, section 2.
use Rattle.std.specs.Prelude.{ℕ, ◌+◌, max, Bool, List}
use Rattle.std.specs.Prelude.{ℤ}

mutual
  pub data Term : Type 0 where
    integer : ℤ → Term
    octets : List ℕ → Term
    text : List ℕ → Term
    array : Terms → Term
    map : Pairs → Term
    tagged : ℕ → Term → Term
    boolean : Bool → Term

  -- items in order
  pub data Terms : Type 0 where
    no_terms : Terms
    term : Term → Terms → Terms

  -- a key and its value, and the pairs after them
  pub data Pairs : Type 0 where
    no_pairs : Pairs
    pair : Term → Term → Pairs → Pairs

abbrev pub count : Terms → ℕ
count no_terms = 0
count (term t ts) = count ts + 1

abbrev pub pair_count : Pairs → ℕ
pair_count no_pairs = 0
pair_count (pair k v ps) = pair_count ps + 1

-- one more item at the end
abbrev pub plus : Terms → Term → Terms
plus no_terms t = term t no_terms
plus (term u ts) t = term u (plus ts t)

-- An item's depth is 1 more than that of its deepest part.
abbrev mutual
  pub depth : Term → ℕ
  depth (integer z) = 1
  depth (octets s) = 1
  depth (text s) = 1
  depth (array ts) = terms_depth ts + 1
  depth (map ps) = pairs_depth ps + 1
  depth (tagged n t) = depth t + 1
  depth (boolean b) = 1

  pub terms_depth : Terms → ℕ
  terms_depth no_terms = 0
  terms_depth (term t ts) = max (depth t) (terms_depth ts)

  pub pairs_depth : Pairs → ℕ
  pairs_depth no_pairs = 0
  pairs_depth (pair k v ps) = max (depth k) (max (depth v) (pairs_depth ps))
