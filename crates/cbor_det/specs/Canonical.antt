-- The canonical spelling of an item: RFC 8949, section 4.2.1 (core deterministic encoding).
use Rattle.std.specs.Prelude.{ℕ, ◌+◌, ◌*◌, ◌^◌, pos, negsuc, true, false, List, [], ◌∷◌, ◌++◌, length, nat_lt, if◌then◌else◌}
use Rattle.wire_base.specs.Numbers.{octets_of}
use Rattle.cbor_det.specs.Term.{Term, Terms, Pairs, integer, octets, text, array, map, tagged, boolean, no_terms, term, no_pairs, pair, count, pair_count}

-- How the argument of a head is spelled (section 3): in the initial byte itself, or in that many
-- octets after it.
pub data Form : Type 0 where
  direct : Form
  one : Form
  two : Form
  four : Form
  eight : Form

-- the first number that a form does not hold
abbrev pub bound : Form → ℕ
bound direct = 24
bound one = 2 ^ 8
bound two = 2 ^ 16
bound four = 2 ^ 32
bound eight = 2 ^ 64

-- A head is the initial byte, with the major type and what says where the argument is, and the
-- octets of the argument.
abbrev pub head : Form → ℕ → ℕ → List ℕ
head direct major n = (32 * major + n) ∷ []
head one major n = (32 * major + 24) ∷ octets_of 1 n
head two major n = (32 * major + 25) ∷ octets_of 2 n
head four major n = (32 * major + 26) ∷ octets_of 4 n
head eight major n = (32 * major + 27) ∷ octets_of 8 n

abbrev pub shortest : ℕ → Form
shortest n =
    if nat_lt n 24 then direct else if nat_lt n (2 ^ 8) then one else if nat_lt n (2 ^ 16) then two else if nat_lt n (2 ^ 32) then four else eight

abbrev pub short_head : ℕ → ℕ → List ℕ
short_head major n = head (shortest n) major n

abbrev mutual
  pub canon : Term → List ℕ
  canon (integer (pos n)) = short_head 0 n
  canon (integer (negsuc n)) = short_head 1 n
  canon (octets s) = short_head 2 (length s) ++ s
  canon (text s) = short_head 3 (length s) ++ s
  canon (array ts) = short_head 4 (count ts) ++ canon_terms ts
  canon (map ps) = short_head 5 (pair_count ps) ++ canon_pairs ps
  canon (tagged n t) = short_head 6 n ++ canon t
  canon (boolean false) = 0xf4 ∷ []
  canon (boolean true) = 0xf5 ∷ []

  pub canon_terms : Terms → List ℕ
  canon_terms no_terms = []
  canon_terms (term t ts) = canon t ++ canon_terms ts

  -- The pairs of a proper map stand in order of their keys' spellings.
  pub canon_pairs : Pairs → List ℕ
  canon_pairs no_pairs = []
  canon_pairs (pair k v ps) = canon k ++ canon v ++ canon_pairs ps
