-- The octets of a number, as the code makes them.
use Rattle.std.proofs.Common.{◌≡◌, ℕ, ◌/◌, ◌%◌, ◌^◌, ◌<◌, [], ◌∷◌, refl, ap, ◌∙◌, arith}
use Rattle.std.specs.Int.{to_be_bytes, w16, w32, w64}
use Rattle.wire_base.specs.Numbers.{octets_of}

pub be_one : (n : ℕ) → n < 2 ^ 8 → n ∷ [] ≡ octets_of 1 n
unfolding octets_of
be_one n small = let e : n ≡ n % 256 = omega arith in ap (λ (x : ℕ). x ∷ []) e

four : (a b c d e f g : ℕ) → a ≡ e → b ≡ f → c ≡ g → a ∷ b ∷ c ∷ d ∷ [] ≡ e ∷ f ∷ g ∷ d ∷ []
four a b c d e f g p q r = ap (λ (x : ℕ). x ∷ b ∷ c ∷ d ∷ []) p ∙ ap (λ (x : ℕ). e ∷ x ∷ c ∷ d ∷ []) q ∙ ap (λ (x : ℕ). e ∷ f ∷ x ∷ d ∷ []) r

pub be_two : (n : ℕ) → to_be_bytes w16 n ≡ octets_of 2 n
unfolding octets_of
be_two n = refl

pub be_four : (n : ℕ) → to_be_bytes w32 n ≡ octets_of 4 n
unfolding octets_of
be_four n = four (n / 0x100_0000 % 256) (n / 0x1_0000 % 256) (n / 256 % 256) (n % 256) (n / 256 / 256 / 256 % 256) (n / 256 / 256 % 256) (n / 256 % 256) (omega arith) (omega arith) refl

-- the four high octets, and the four low ones
eight : (a b c d e f g h i j k l m o : ℕ) → a ≡ i → b ≡ j → c ≡ k → d ≡ l → e ≡ m → f ≡ o → a ∷ b ∷ c ∷ d ∷ e ∷ f ∷ g ∷ h ∷ [] ≡ i ∷ j ∷ k ∷ l ∷ m ∷ o ∷ g ∷ h ∷ []
eight a b c d e f g h i j k l m o p q r s t u =
    ap (λ (x : ℕ). x ∷ b ∷ c ∷ d ∷ e ∷ f ∷ g ∷ h ∷ []) p ∙ ap (λ (x : ℕ). i ∷ x ∷ c ∷ d ∷ e ∷ f ∷ g ∷ h ∷ []) q ∙ ap (λ (x : ℕ). i ∷ j ∷ x ∷ d ∷ e ∷ f ∷ g ∷ h ∷ []) r
    ∙ ap (λ (x : ℕ). i ∷ j ∷ k ∷ x ∷ e ∷ f ∷ g ∷ h ∷ []) s ∙ ap (λ (x : ℕ). i ∷ j ∷ k ∷ l ∷ x ∷ f ∷ g ∷ h ∷ []) t ∙ ap (λ (x : ℕ). i ∷ j ∷ k ∷ l ∷ m ∷ x ∷ g ∷ h ∷ []) u

pub be_eight : (n : ℕ) → to_be_bytes w64 n ≡ octets_of 8 n
unfolding octets_of
be_eight n =
    let n2 : n / 0x1_0000 ≡ n / 256 / 256 = omega arith in
    let n3 : n / 0x100_0000 ≡ n / 256 / 256 / 256 = omega arith in
    let n4 : n / 0x1_0000_0000 ≡ n / 256 / 256 / 256 / 256 = omega arith in
    let n5 : n / 0x100_0000_0000 ≡ n / 256 / 256 / 256 / 256 / 256 = omega arith in
    let n6 : n / 0x1_0000_0000_0000 ≡ n / 256 / 256 / 256 / 256 / 256 / 256 = omega arith in
    let n7 : n / 0x100_0000_0000_0000 ≡ n / 256 / 256 / 256 / 256 / 256 / 256 / 256 = omega arith in
    eight (n / 0x100_0000_0000_0000 % 256) (n / 0x1_0000_0000_0000 % 256) (n / 0x100_0000_0000 % 256) (n / 0x1_0000_0000 % 256) (n / 0x100_0000 % 256) (n / 0x1_0000 % 256) (n / 256 % 256) (n % 256)
    (n / 256 / 256 / 256 / 256 / 256 / 256 / 256 % 256) (n / 256 / 256 / 256 / 256 / 256 / 256 % 256) (n / 256 / 256 / 256 / 256 / 256 % 256) (n / 256 / 256 / 256 / 256 % 256) (n / 256 / 256 / 256 % 256) (n / 256 / 256 % 256)
    (ap (λ (x : ℕ). x % 256) n7) (ap (λ (x : ℕ). x % 256) n6) (ap (λ (x : ℕ). x % 256) n5) (ap (λ (x : ℕ). x % 256) n4) (ap (λ (x : ℕ). x % 256) n3) (ap (λ (x : ℕ). x % 256) n2)
