-- The first place that passes a test.
use Rattle.std.proofs.Common.{◌≡◌, ℕ, ◌+◌, ◌<◌, ◌≤◌, inl, inr, Bool, true, false, Option, Some, None, subst, arith, eq-or-lt_of_le}
use Rattle.coswid_links.specs.RivalChains.{IsFirst}

-- It is the place itself.
pub first_here : (test : ℕ → Bool) (at to : ℕ) → at < to → test at ≡ true → IsFirst test at to (Some at)
first_here test at to lt is = (omega arith, lt, is, λ k ge below. absurd (omega arith))

fails : (test : ℕ → Bool) (at k : ℕ) → at ≤ k → test at ≡ false → (at + 1 ≤ k → test k ≡ false) → test k ≡ false
fails test at k le failed later =
    elim (eq-or-lt_of_le le) [ inl e ↦ subst (λ (j : ℕ). test j ≡ false) e failed | inr gt ↦ later (omega arith) ]

-- The place fails the test.
pub first_earlier : (test : ℕ → Bool) (at to : ℕ) (r : Option ℕ) → test at ≡ false → IsFirst test (at + 1) to r → IsFirst test at to r
first_earlier test at to None failed is = λ k ge lt. fails test at k ge failed (λ gt. is k gt lt)
first_earlier test at to (Some m) failed is = (omega (arith, is.0), is.1, is.2, λ k ge lt. fails test at k ge failed (λ gt. is.3 k gt lt))
