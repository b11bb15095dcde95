-- How many octets the tag of a package has, and that no limit of an inventory refuses the packages.
use Rattle.std.proofs.Common.{◌≡◌, ◌≤◌, ◌<◌, ◌+◌, ◌*◌, ◌^◌, ◌++◌, ℕ, zero, suc, List, [], None, length, length-append, codes, replicate, pos, refl, arith}
use Rattle.std.proofs.lemmas.Bool.{le-ltb}
use Rattle.std.proofs.lemmas.Fmt.{length-decimal-le}
use Rattle.std.proofs.lemmas.List.{length-replicate}
use Rattle.std.proofs.lemmas.List.Sums.{sum_by-cons}
use Rattle.std.specs.Fmt.{decimal}
use Rattle.std.specs.Prelude.{sum_by}
use Rattle.wire_base.proofs.Spelled.{length-octets_of}
use Rattle.cbor_det.specs.Canonical.{Form, canon, canon_pairs, direct, eight, four, head, one, short_head, shortest, two}
use Rattle.cbor_det.specs.Term.{Pairs, Term, array, count, integer, map, no_pairs, no_terms, pair_count, tagged, term, text}
use Rattle.swima_model.specs.Size.{MOST_RECORDS, MOST_RECORDS_OCTETS, content_octets}
use Rattle.collector_core.specs.Refusals.{new_refusal}
use Rattle.session_day.specs.Package.{content_by, description_item, keyed, letters_of, maker_item, number_of, package_content, package_item, package_name, packages}

-- ---- items

both : (xs ys : List ℕ) (m n : ℕ) → length xs ≤ m → length ys ≤ n → length (xs ++ ys) ≤ m + n
both xs ys m n front back = omega (arith, length-append xs ys, front, back)

head_within : (form : Form) (major n : ℕ) → length (head form major n) ≤ 9
head_within direct major n = omega arith
head_within one major n = omega (arith, length-octets_of 1 n)
head_within two major n = omega (arith, length-octets_of 2 n)
head_within four major n = omega (arith, length-octets_of 4 n)
head_within eight major n = omega (arith, length-octets_of 8 n)

text_within : (s : List ℕ) (m : ℕ) → length s ≤ m → length (canon (text s)) ≤ 9 + m
text_within s m short = both (short_head 3 (length s)) s 9 m (head_within (shortest (length s)) 3 (length s)) short

tagged_within : (n : ℕ) (t : Term) (m : ℕ) → length (canon t) ≤ m → length (canon (tagged n t)) ≤ 9 + m
tagged_within n t m short = both (short_head 6 n) (canon t) 9 m (head_within (shortest n) 6 n) short

map_within : (ps : Pairs) (m : ℕ) → length (canon_pairs ps) ≤ m → length (canon (map ps)) ≤ 9 + m
map_within ps m short = both (short_head 5 (pair_count ps)) (canon_pairs ps) 9 m (head_within (shortest (pair_count ps)) 5 (pair_count ps)) short

keyed_within : (key : ℕ) (v : Term) (ps : Pairs) (m n : ℕ) → length (canon v) ≤ m → length (canon_pairs ps) ≤ n → length (canon_pairs (keyed key v ps)) ≤ 9 + (m + n)
keyed_within key v ps m n value others =
    let within = both (short_head 0 key ++ canon v) (canon_pairs ps) (9 + m) n (both (short_head 0 key) (canon v) 9 m (head_within (shortest key) 0 key) value) others in
    omega (arith, within)

no_pairs_within : length (canon_pairs no_pairs) ≤ 0
no_pairs_within = omega arith

-- ---- the tag

roles_within : length (canon (array (term (integer (pos 1)) (term (integer (pos 2)) no_terms)))) ≤ 27
roles_within =
    both (short_head 4 2) (short_head 0 1 ++ (short_head 0 2 ++ [])) 9 18 (head_within (shortest 2) 4 2)
    (both (short_head 0 1) (short_head 0 2 ++ []) 9 9 (head_within (shortest 1) 0 1) (both (short_head 0 2) [] 9 0 (head_within (shortest 2) 0 2) (omega arith)))

maker_within : length (canon maker_item) ≤ 105
maker_within =
    let roles : Pairs = keyed 33 (array (term (integer (pos 1)) (term (integer (pos 2)) no_terms))) no_pairs in
    let registered : Pairs = keyed 32 (tagged 32 (text (codes "example.com"))) roles in
    map_within (keyed 31 (text (codes "make")) registered) 96
    (keyed_within 31 (text (codes "make")) registered 13 74 (text_within (codes "make") 4 (omega arith))
    (keyed_within 32 (tagged 32 (text (codes "example.com"))) roles 29 36 (tagged_within 32 (text (codes "example.com")) 20 (text_within (codes "example.com") 11 (omega arith)))
    (keyed_within 33 (array (term (integer (pos 1)) (term (integer (pos 2)) no_terms))) no_pairs 27 0 roles_within no_pairs_within)))

description_within : (letters : ℕ) → length (canon (description_item letters)) ≤ 27 + letters
description_within letters =
    let words : Term = text (replicate letters 97) in
    let within = map_within (keyed 55 words no_pairs) (9 + ((9 + letters) + 0))
    (keyed_within 55 words no_pairs (9 + letters) 0 (text_within (replicate letters 97) letters (omega (arith, length-replicate {A = ℕ} letters 97))) no_pairs_within) in
    omega (arith, within)

name_within : (place : ℕ) → place < 2 ^ 32 → length (package_name place) ≤ 14
name_within place small = both (codes "pkg-") (decimal place) 4 10 (omega arith) (length-decimal-le 10 place (omega arith) (omega arith) (omega arith))

package_within : (place version letters : ℕ) → place < 2 ^ 32 → length (canon (package_item place version letters)) ≤ 269 + letters
package_within place version letters small =
    let name : Term = text (package_name place) in
    let named : length (canon name) ≤ 23 = text_within (package_name place) 14 (name_within place small) in
    let release : Pairs = keyed 13 (text (codes "1")) no_pairs in
    let versions : Pairs = keyed 12 (integer (pos version)) release in
    let described : Pairs = keyed 5 (description_item letters) versions in
    let made : Pairs = keyed 2 maker_item described in
    let software : Pairs = keyed 1 name made in
    let release_within : length (canon_pairs release) ≤ 19 = keyed_within 13 (text (codes "1")) no_pairs 10 0 (text_within (codes "1") 1 (omega arith)) no_pairs_within in
    let versions_within : length (canon_pairs versions) ≤ 37 = keyed_within 12 (integer (pos version)) release 9 19 (head_within (shortest version) 0 version) release_within in
    let described_within : length (canon_pairs described) ≤ 73 + letters = omega (arith, keyed_within 5 (description_item letters) versions (27 + letters) 37 (description_within letters) versions_within) in
    let made_within : length (canon_pairs made) ≤ 187 + letters = omega (arith, keyed_within 2 maker_item described 105 (73 + letters) maker_within described_within) in
    let software_within : length (canon_pairs software) ≤ 219 + letters = omega (arith, keyed_within 1 name made 23 (187 + letters) named made_within) in
    let all_within : length (canon_pairs (keyed 0 name software)) ≤ 251 + letters = omega (arith, keyed_within 0 name software 23 (219 + letters) named software_within) in
    omega (arith, tagged_within 1398229316 (map (keyed 0 name software)) (260 + letters) (omega (arith, map_within (keyed 0 name software) (251 + letters) all_within)))

-- ---- contents

pub letters_within : (number : ℕ) → letters_of number ≤ 800
letters_within number = omega (arith)

pub body_within : (place version number : ℕ) → place < 2 ^ 32 → length (canon (package_item place version (letters_of number))) ≤ 1069
body_within place version number small = omega (arith, package_within place version (letters_of number) small, letters_within number)

pub identifier_within : (place : ℕ) → place < 2 ^ 32 → length (codes "example.com__" ++ package_name place) ≤ 27
identifier_within place small = both (codes "example.com__") (package_name place) 13 14 (omega arith) (name_within place small)

content_within : (place version number : ℕ) → place < 2 ^ 32 → content_octets (content_by place version number) ≤ 1096
content_within place version number small = omega (arith, identifier_within place small, body_within place version number small)

-- ---- packages

packages_count : (count first n : ℕ) → length (packages count first n) ≡ n
packages_count count first zero = refl
packages_count count first (suc n) = omega (arith, packages_count count (first + 1) n)

packages_octets : (count first n : ℕ) → first + n ≤ 2 ^ 32 → sum_by content_octets (packages count first n) ≤ 1096 * n
packages_octets count first zero small = omega arith
packages_octets count first (suc n) small =
    omega (
      arith,
      sum_by-cons content_octets (package_content count first 0) (packages count (first + 1) n),
      content_within first 0 (number_of count first) (omega arith),
      packages_octets count (first + 1) n (omega arith),
    )

pub none_refused : (count : ℕ) → count ≤ 5000 → new_refusal (packages count 1 count) ≡ None
none_refused count few =
    rw (
      le-ltb MOST_RECORDS (length (packages count 1 count)) (omega (arith, packages_count count 1 count)),
      le-ltb MOST_RECORDS_OCTETS (sum_by content_octets (packages count 1 count)) (omega (arith, packages_octets count 1 count (omega arith))),
    ) refl
