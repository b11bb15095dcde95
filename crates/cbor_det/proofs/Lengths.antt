-- Counts and depths of series.
use Rattle.std.proofs.Common.{◌≡◌, ℕ, ◌+◌, ◌<◌, max, refl, ap, arith, false, Option, Some, None}
use Rattle.std.specs.Option.{IfSome}
use Rattle.std.proofs.lemmas.Bool.{ne_eqb}
use Rattle.cbor_det.specs.Term.{Term, Terms, no_terms, term, count, plus, depth, terms_depth}
use Rattle.cbor_det.specs.Machine.{is_full}

pub count_plus : (ts : Terms) (t : Term) → count (plus ts t) ≡ count ts + 1
count_plus no_terms t = refl
count_plus (term u ts) t = ap (λ (n : ℕ). n + 1) (count_plus ts t)

pub depth_plus : (ts : Terms) (t : Term) → terms_depth (plus ts t) ≡ max (terms_depth ts) (depth t)
depth_plus no_terms t = omega arith
depth_plus (term u ts) t = let e = depth_plus ts t in omega (arith, e)

-- A count that is not reached.
pub not_full : (all : Option ℕ) (n : ℕ) → IfSome all (λ k. n < k) → is_full all n ≡ false
not_full None n less = refl
not_full (Some k) n less = ne_eqb n k (λ e. omega arith)
