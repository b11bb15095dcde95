-- Statements with a test that decides them. What is tested of every octet holds of each where the
-- test passes for all 256.
use Rattle.std.proofs.Common.{◌≡◌, ℕ, ◌<◌, ◌≤◌, ◌⊎◌, Bool, true, false, refl, inl, inr}
use Rattle.std.specs.Prelude.{Decides, not, ◌==◌, ◌&&◌, ◌||◌, nat_lt, nat_le}
use Rattle.std.proofs.lemmas.Bool.{agree_below, agree_below_at, leb-true, le-leb, both_ways, not-true, cases_Bool, or_left, or_right, not_from_false}
use Rattle.std.proofs.lemmas.Bool.Decides.{Decides-and, Decides-or, Decides-not, Decides-eqb, Decides-ltb, Decides-like}

pub record Test (P : Type 0) : Type 0 where
  pub passes : Bool
  pub decides : Decides passes P

abbrev pub never : Test ⊥
never = record { passes = false; decides = (both_ways false refl, λ e. absurd e) }

abbrev pub fails : (t : Bool) → Test (t ≡ false)
fails t = record { passes = not t; decides = (not-true t, not_from_false t) }

abbrev pub same : (a b : ℕ) → Test (a ≡ b)
same a b = record { passes = a == b; decides = Decides-eqb a b }

abbrev pub below : (a b : ℕ) → Test (a < b)
below a b = record { passes = nat_lt a b; decides = Decides-ltb a b }

abbrev pub at_most : (a b : ℕ) → Test (a ≤ b)
at_most a b = record { passes = nat_le a b; decides = (leb-true a b, le-leb a b) }

abbrev pub other : {P : Type 0} → Test P → Test (¬ P)
other t = record { passes = not t.passes; decides = Decides-not t.passes t.decides }

-- the test of a statement that is the same in other words
abbrev pub like : {P Q : Type 0} → (P → Q) → (Q → P) → Test P → Test Q
like f g t = record { passes = t.passes; decides = Decides-like t.passes f g t.decides }

module _ {P Q : Type 0} (t : Test P) (u : Test Q) where
  abbrev pub both : Test (P × Q)
  both = record { passes = t.passes && u.passes; decides = Decides-and t.passes u.passes t.decides u.decides }

  abbrev pub either : Test (P ⊎ Q)
  either = record { passes = t.passes || u.passes; decides = Decides-or t.passes u.passes t.decides u.decides }

  pub met : (¬ P) ⊎ Q → P → Q
  met (inl none) p = absurd (none p)
  met (inr q) p = q

  abbrev pub implies : Test (P → Q)
  implies = record {
    passes = not t.passes || u.passes;
    decides = (
      λ e. met ((Decides-or (not t.passes) u.passes (Decides-not t.passes t.decides) u.decides).0 e),
      λ f. elim (cases_Bool t.passes) [
        | inl so ↦ or_right (not t.passes) u.passes (u.decides.1 (f (t.decides.0 so)))
        | inr lie ↦ or_left (not t.passes) u.passes (not_from_false t.passes lie)
      ],
    );
  }

-- What is tested of each octet.
pub each_octet : (P : ℕ → Type 0) (test : (b : ℕ) → Test (P b)) → agree_below (λ b. (test b).passes) (λ b. true) 256 ≡ true → (b : ℕ) → b < 256 → P b
each_octet P test all b small = (test b).decides.0 (agree_below_at (λ b. (test b).passes) (λ b. true) 256 b all small)
