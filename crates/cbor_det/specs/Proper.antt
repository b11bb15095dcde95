-- Proper items, and the octets that are the canonical spelling of one (RFC 8949).
use Rattle.std.specs.Prelude.{◌≡◌, ◌<◌, ℕ, ◌^◌, pos, negsuc, List, length}
use Rattle.std.specs.Str.{IsUtf8}
use Rattle.cbor_det.specs.Term.{Term, Terms, Pairs, integer, octets, text, array, map, tagged, boolean, no_terms, term, no_pairs, pair}
use Rattle.cbor_det.specs.Canonical.{canon}
use Rattle.cbor_det.specs.Spelling.{Rises}
use Rattle.cbor_det.specs.Faults.{Begins}
use Rattle.cbor_det.specs.declared.limits.Limits.{Limits}

-- Integers have 64 bits with a sign (of those of section 3.1), texts are UTF-8 (sections 3.1 and
-- 5.3.1), and tag numbers have 64 bits (section 3.4). The keys of a map rise strictly in bytewise
-- order of their canonical spellings (section 4.2.1), so no two are one (sections 5.3.1 and 5.6).
abbrev mutual
  pub IsProper : Term → Type 0
  IsProper (integer (pos n)) = n < 2 ^ 63
  IsProper (integer (negsuc n)) = n < 2 ^ 63
  IsProper (octets s) = Unit {0}
  IsProper (text s) = IsUtf8 s
  IsProper (array ts) = AreProper ts
  IsProper (map ps) = Rises ps × ArePairsProper ps
  IsProper (tagged n t) = (n < 2 ^ 64) × IsProper t
  IsProper (boolean b) = Unit {0}

  pub AreProper : Terms → Type 0
  AreProper no_terms = Unit {0}
  AreProper (term t ts) = IsProper t × AreProper ts

  pub ArePairsProper : Pairs → Type 0
  ArePairsProper no_pairs = Unit {0}
  ArePairsProper (pair k v ps) = IsProper k × IsProper v × ArePairsProper ps

-- A map with these pairs is proper.
abbrev pub IsProperMap : Pairs → Type 0
IsProperMap ps = IsProper (map ps)

-- These octets are one item and nothing more, spelled as it is written (section 4.2.1).
pub record IsCanonical (limits : Limits) (input : List ℕ) : Type 0 where
  pub item : Term
  pub whole : Begins limits input item (length input)
  pub is : input ≡ canon item

-- the largest limits (our own)
abbrev pub largest : Limits
largest = record { octets = 16777216; depth = 64 }
