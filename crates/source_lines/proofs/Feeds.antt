-- How many octets stand before the first line feed.
use Rattle.std.proofs.Common.{◌≡◌, inl, inr, ℕ, zero, suc, ◌+◌, ◌<◌, ◌≤◌, Bool, true, false, cond, List, [], ◌∷◌, ◌++◌, None, Some, length, drop, refl, sym, ap, ◌∙◌, arith, slice_index}
use Rattle.std.specs.Prelude.{◌==◌}
use Rattle.std.proofs.lemmas.Bool.{cases_lt}
use Rattle.memchr.specs.Find.{IsFirstByte, is_byte}
use Rattle.source_lines.specs.Lines.{before_feed}

-- What an octet and others have before the first line feed, by whether the octet is one.
feed_at : (octet : ℕ) (octets : List ℕ) (test : Bool) → (octet == 10) ≡ test → before_feed (octet ∷ octets) ≡ cond test 0 (1 + before_feed octets)
unfolding before_feed
feed_at octet octets test is = ap (λ (t : Bool). cond t 0 (1 + before_feed octets)) is

feed_none : before_feed [] ≡ 0
unfolding before_feed
feed_none = refl

-- ---- octets one after another

longer : (x : ℕ) (xs : List ℕ) → length (x ∷ xs) ≡ 1 + length xs
longer x xs = omega arith

feed_le-step : (x : ℕ) (xs : List ℕ) (test : Bool) → (x == 10) ≡ test → before_feed xs ≤ length xs → before_feed (x ∷ xs) ≤ length (x ∷ xs)
feed_le-step x xs true is le = omega (arith, feed_at x xs true is)
feed_le-step x xs false is le = omega (arith, feed_at x xs false is, le, longer x xs)

pub feed_le : (xs : List ℕ) → before_feed xs ≤ length xs
feed_le [] = omega (arith, feed_none)
feed_le (x ∷ xs) = feed_le-step x xs (x == 10) refl (feed_le xs)

-- With a line feed among the first octets, others after them do not matter.
feed_short-step : (x : ℕ) (xs ys : List ℕ) (test : Bool) → (x == 10) ≡ test → before_feed (x ∷ xs) < length (x ∷ xs)
    → (before_feed xs < length xs → before_feed (xs ++ ys) ≡ before_feed xs) → before_feed (x ∷ (xs ++ ys)) ≡ before_feed (x ∷ xs)
feed_short-step x xs ys true is less later = feed_at x (xs ++ ys) true is ∙ sym (feed_at x xs true is)
feed_short-step x xs ys false is less later =
    let more = feed_at x xs false is in
    let same = later (omega (arith, less, more, longer x xs)) in
    omega (arith, feed_at x (xs ++ ys) false is, more, same)

pub feed_short : (xs ys : List ℕ) → before_feed xs < length xs → before_feed (xs ++ ys) ≡ before_feed xs
feed_short [] ys less = absurd (omega (arith, less))
feed_short (x ∷ xs) ys less = feed_short-step x xs ys (x == 10) refl less (feed_short xs ys)

-- Without one, those after them follow.
feed_open-step : (x : ℕ) (xs ys : List ℕ) (test : Bool) → (x == 10) ≡ test → before_feed (x ∷ xs) ≡ length (x ∷ xs)
    → (before_feed xs ≡ length xs → before_feed (xs ++ ys) ≡ length xs + before_feed ys)
    → before_feed (x ∷ (xs ++ ys)) ≡ length (x ∷ xs) + before_feed ys
feed_open-step x xs ys true is all later = absurd (omega (arith, feed_at x xs true is, all, longer x xs))
feed_open-step x xs ys false is all later =
    let more = feed_at x xs false is in
    let same = later (omega (arith, all, more, longer x xs)) in
    omega (arith, feed_at x (xs ++ ys) false is, same, longer x xs)

pub feed_open : (xs ys : List ℕ) → before_feed xs ≡ length xs → before_feed (xs ++ ys) ≡ length xs + before_feed ys
feed_open [] ys all = omega arith
feed_open (x ∷ xs) ys all = feed_open-step x xs ys (x == 10) refl all (feed_open xs ys)

-- More octets have no fewer before the first line feed.
pub feed_more : (xs ys : List ℕ) → before_feed xs ≤ before_feed (xs ++ ys)
feed_more xs ys = elim (cases_lt (before_feed xs) (length xs)) [
  | inl less ↦ omega (arith, feed_short xs ys less)
  | inr all ↦ omega (arith, feed_open xs ys (omega (arith, all, feed_le xs)), all, feed_le xs)
]

-- ---- octets that were searched

-- That many octets before the first line feed are passed over.
feed_past-step : (n x : ℕ) (xs : List ℕ) (test : Bool) → (x == 10) ≡ test → suc n ≤ before_feed (x ∷ xs)
    → (n ≤ before_feed xs → before_feed xs ≡ n + before_feed (drop n xs)) → before_feed (x ∷ xs) ≡ suc n + before_feed (drop n xs)
feed_past-step n x xs true is le later = absurd (omega (arith, feed_at x xs true is, le))
feed_past-step n x xs false is le later =
    let more = feed_at x xs false is in
    let same = later (omega (arith, le, more)) in
    omega (arith, more, same)

pub feed_past : (n : ℕ) (xs : List ℕ) → n ≤ before_feed xs → before_feed xs ≡ n + before_feed (drop n xs)
feed_past zero xs le = omega arith
feed_past (suc n) [] le = absurd (omega (arith, le, feed_none))
feed_past (suc n) (x ∷ xs) le = feed_past-step n x xs (x == 10) refl le (feed_past n xs)

-- ---- a search

-- No octet before a place is a line feed.
abbrev pub NoFeed : List ℕ → ℕ → Type 0
NoFeed xs n = (k : ℕ) → k < n → is_byte 10 (slice_index xs k) ≡ true → ⊥

feed_from-step : (n x : ℕ) (xs : List ℕ) (test : Bool) → (x == 10) ≡ test → NoFeed (x ∷ xs) (suc n) → n ≤ before_feed xs → suc n ≤ before_feed (x ∷ xs)
feed_from-step n x xs true is none le = absurd (none 0 (omega arith) is)
feed_from-step n x xs false is none le = omega (arith, feed_at x xs false is, le)

pub feed_from : (n : ℕ) (xs : List ℕ) → n ≤ length xs → NoFeed xs n → n ≤ before_feed xs
feed_from zero xs within none = omega arith
feed_from (suc n) [] within none = absurd (omega (arith, within))
feed_from (suc n) (x ∷ xs) within none =
    feed_from-step n x xs (x == 10) refl none (feed_from n xs (omega (arith, within)) (λ k less is. none (suc k) (omega (arith, less)) is))

feed_to-step : (n x : ℕ) (xs : List ℕ) (test : Bool) → (x == 10) ≡ test → before_feed xs ≤ n → before_feed (x ∷ xs) ≤ suc n
feed_to-step n x xs true is le = omega (arith, feed_at x xs true is)
feed_to-step n x xs false is le = omega (arith, feed_at x xs false is, le)

pub feed_to : (n : ℕ) (xs : List ℕ) → n < length xs → is_byte 10 (slice_index xs n) ≡ true → before_feed xs ≤ n
feed_to n [] less is = absurd (omega (arith, less))
feed_to zero (x ∷ xs) less is = omega (arith, feed_at x xs true is)
feed_to (suc n) (x ∷ xs) less is = feed_to-step n x xs (x == 10) refl (feed_to n xs (omega (arith, less)) is)

-- What a search for the first line feed found.
pub feed_found : (xs : List ℕ) (k : ℕ) → IsFirstByte (is_byte 10) xs (Some k) → (before_feed xs ≡ k) × (k < length xs)
feed_found xs k found =
    let low = feed_from k xs (omega (arith, found.0.high)) (λ j less is. found.0.before j (omega arith) less is) in
    let high = feed_to k xs found.0.high found.1 in
    (omega (arith, low, high), found.0.high)

pub feed_missed : (xs : List ℕ) → IsFirstByte (is_byte 10) xs None → before_feed xs ≡ length xs
feed_missed xs none =
    let low = feed_from (length xs) xs (omega arith) (λ j less is. none j (omega arith) less is) in
    omega (arith, low, feed_le xs)
