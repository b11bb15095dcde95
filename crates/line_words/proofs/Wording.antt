-- The words of a line, and where they are found.
use Rattle.std.proofs.Common.{◌≡◌, ℕ, zero, suc, ◌+◌, ◌<◌, Bool, true, false, cond, List, [], ◌∷◌, None, Some, length, take, drop, refl, ap, ◌∙◌, arith, slice_index}
use Rattle.std.specs.Prelude.{◌==◌}
use Rattle.memchr.specs.Find.{IsFirstByte, is_byte}
use Rattle.line_words.specs.Words.{onto_first, words}

words_at : (octet : ℕ) (octets : List ℕ) (test : Bool) → (octet == 32) ≡ test → words (octet ∷ octets) ≡ cond test ([] ∷ words octets) (onto_first octet (words octets))
unfolding words
words_at octet octets test is = ap (λ (t : Bool). cond t ([] ∷ words octets) (onto_first octet (words octets))) is

words_none : words [] ≡ [] ∷ []
unfolding words
words_none = refl

-- No octet before a place is a space.
abbrev pub NoSpace : List ℕ → ℕ → Type 0
NoSpace xs n = (k : ℕ) → k < n → is_byte 32 (slice_index xs k) ≡ true → ⊥

words_whole-step : (x : ℕ) (xs : List ℕ) (test : Bool) → (x == 32) ≡ test → NoSpace (x ∷ xs) (suc (length xs)) → words xs ≡ xs ∷ [] → words (x ∷ xs) ≡ (x ∷ xs) ∷ []
words_whole-step x xs true is none same = absurd (none 0 (omega arith) is)
words_whole-step x xs false is none same = words_at x xs false is ∙ ap (onto_first x) same

pub words_whole : (xs : List ℕ) → NoSpace xs (length xs) → words xs ≡ xs ∷ []
words_whole [] none = words_none
words_whole (x ∷ xs) none = words_whole-step x xs (x == 32) refl none (words_whole xs (λ k less is. none (suc k) (omega (arith, less)) is))

words_cut-step : (n x : ℕ) (xs : List ℕ) (test : Bool) → (x == 32) ≡ test → NoSpace (x ∷ xs) (suc n) → words xs ≡ take n xs ∷ words (drop (suc n) xs)
    → words (x ∷ xs) ≡ (x ∷ take n xs) ∷ words (drop (suc n) xs)
words_cut-step n x xs true is none same = absurd (none 0 (omega arith) is)
words_cut-step n x xs false is none same = words_at x xs false is ∙ ap (onto_first x) same

pub words_cut : (n : ℕ) (xs : List ℕ) → n < length xs → NoSpace xs n → is_byte 32 (slice_index xs n) ≡ true → words xs ≡ take n xs ∷ words (drop (suc n) xs)
words_cut n [] less none is = absurd (omega (arith, less))
words_cut zero (x ∷ xs) less none is = words_at x xs true is
words_cut (suc n) (x ∷ xs) less none is =
    words_cut-step n x xs (x == 32) refl none (words_cut n xs (omega (arith, less)) (λ k small at. none (suc k) (omega (arith, small)) at) is)

-- What a search for the first space found.
pub words_found : (xs : List ℕ) (k : ℕ) → IsFirstByte (is_byte 32) xs (Some k) → words xs ≡ take k xs ∷ words (drop (k + 1) xs)
words_found xs k found =
    let next : suc k ≡ k + 1 = omega arith in
    words_cut k xs found.0.high (λ j less is. found.0.before j (omega arith) less is) found.1
    ∙ ap (λ (n : ℕ). take k xs ∷ words (drop n xs)) next

pub words_missed : (xs : List ℕ) → IsFirstByte (is_byte 32) xs None → words xs ≡ xs ∷ []
words_missed xs none = words_whole xs (λ j less is. none j (omega arith) less is)
