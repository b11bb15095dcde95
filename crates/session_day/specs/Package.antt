-- The packages of the day that `make` plays, and their records. They are our own.
use Rattle.std.specs.Prelude.{◌*◌, ◌+◌, ◌%◌, ℕ, zero, suc, List, [], ◌∷◌, ◌++◌, replicate, codes, pos}
use Rattle.std.specs.Fmt.{decimal}
use Rattle.cbor_det.specs.Canonical.{canon}
use Rattle.cbor_det.specs.Term.{Pairs, Term, array, integer, map, no_pairs, no_terms, pair, tagged, term, text}
use Rattle.swima_model.specs.declared.record.Content.{Content}

-- The number after a number of the sequence that says how long summaries are.
abbrev pub next_number : ℕ → ℕ
next_number number = (1103515245 * number + 12345) % 2147483648

-- The number of a package, in the sequence that begins with the count of packages.
abbrev pub number_of : ℕ → ℕ → ℕ
number_of count zero = count
number_of count (suc place) = next_number (number_of count place)

-- How many letters its summary has.
abbrev pub letters_of : ℕ → ℕ
letters_of number = 400 + number % 401

-- Its name.
abbrev pub package_name : ℕ → List ℕ
package_name place = codes "pkg-" ++ decimal place

-- The pair of a key that is a number.
abbrev pub keyed : ℕ → Term → Pairs → Pairs
keyed key value pairs = pair (integer (pos key)) value pairs

-- The entity that made tag and software: entity-name, reg-id and role (RFC 9393, section 2.6).
abbrev pub maker_item : Term
maker_item = map (keyed 31 (text (codes "make")) (keyed 32 (tagged 32 (text (codes "example.com"))) (keyed 33 (array (term (integer (pos 1)) (term (integer (pos 2)) no_terms))) no_pairs)))

-- A description with a summary of that many letters `a` (section 2.8).
abbrev pub description_item : ℕ → Term
description_item letters = map (keyed 55 (text (replicate letters 97)) no_pairs)

-- The tag of a package: tag-id, software-name, entity, software-meta, tag-version and
-- software-version (section 2.3).
abbrev pub package_item : ℕ → ℕ → ℕ → Term
package_item place version letters =
    tagged 1398229316 (map (keyed 0 (text (package_name place)) (keyed 1 (text (package_name place)) (keyed 2 maker_item
    (keyed 5 (description_item letters) (keyed 12 (integer (pos version)) (keyed 13 (text (codes "1")) no_pairs)))))))

-- Its record has the software identifier of the tag and the canonical octets.
abbrev pub content_by : ℕ → ℕ → ℕ → Content
content_by place version number = record {
  model = record { pen = 0; kind = 2 };
  source = 0;
  ident = codes "example.com__" ++ package_name place;
  locator = [];
  body = canon (package_item place version (letters_of number));
}

abbrev pub package_content : ℕ → ℕ → ℕ → Content
package_content count place version = content_by place version (number_of count place)

-- The contents of that many packages, from this one on.
abbrev pub packages : ℕ → ℕ → ℕ → List Content
packages count first zero = []
packages count first (suc more) = package_content count first 0 ∷ packages count (first + 1) more
