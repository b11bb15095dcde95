-- A layout that ends with octets of any number: they are all that are left.
use Rattle.std.proofs.Common.{◌≡◌, ℕ, ◌+◌, List, [], ◌∷◌, ◌++◌, length, Result, Ok, refl, sym, ap, ◌∙◌, arith}
use Rattle.std.proofs.lemmas.List.{append-nil}
use Rattle.wire_base.specs.Layout.{Fixed}
use Rattle.wire_base.specs.Reading.{Reader, Rest, ◌>>=◌, and_then, octets, remaining}
use Rattle.wire_base.proofs.Exact.{Exact, Nothing, behind, alone, from_alone, octets_back}
use Rattle.wire_base.proofs.Spelled.{AreOctets-rest}

-- All octets that are left are read, and nothing is left after them.
remaining_is : (at : ℕ) (all : List ℕ) → remaining (record { at = at; octets = all }) ≡ Ok (all, behind at all [])
remaining_is at all = ap (λ (o : List ℕ). octets (length all) (record { at = at; octets = o })) (sym (append-nil all)) ∙ octets_back (length all) at all [] refl

-- The octets that are left, and what they make, at the end of a layout.
pub last_remaining : {B P : Type 0} {next : List ℕ → Reader B} {make : P → B} {value : P → List ℕ} {holds : P → Type 0}
    → ((x : List ℕ) → Exact (next x) make (λ parts. []) (λ parts. (value parts ≡ x) × holds parts) Nothing)
    → Exact (remaining >>= next) make (λ parts. Fixed (length (value parts)) (value parts) ∷ []) holds Nothing
last_remaining {B = B} {P = P} {next = next} {make = make} {value = value} {holds = holds} exact = record {
  forth = λ before read are e.
      let all : List ℕ = before.octets in
      let went : next all (behind before.at all []) ≡ Ok read = sym (ap (λ (r : Result (List ℕ × Rest) ℕ). and_then r next) (remaining_is before.at all)) ∙ e in
      let g = (exact all).forth (behind before.at all []) read (AreOctets-rest all all [] (sym (append-nil all)) are) went in
      let front-is : g.front ≡ [] = g.form in
      let left : [] ≡ read.1.octets = g.takes.octets ∙ ap (λ (o : List ℕ). o ++ read.1.octets) front-is in
      record {
        parts = g.parts;
        made = g.made;
        front = all;
        takes = record { octets = sym (append-nil all) ∙ ap (λ (o : List ℕ). all ++ o) left; at = omega (arith, g.takes.at, ap (λ (o : List ℕ). length o) front-is) };
        form = alone (Fixed (length (value g.parts)) (value g.parts)) all (refl, sym g.holds_so.0);
        holds_so = g.holds_so.1;
        follows_so = sym left;
      };
  back = λ at parts front rest form holds follows.
      let f = from_alone (Fixed (length (value parts)) (value parts)) front form in
      let joined : front ++ rest ≡ value parts = ap (λ (o : List ℕ). front ++ o) follows ∙ append-nil front ∙ f.1 in
      let place : (at + length (value parts)) + 0 ≡ at + length front = omega (arith, ap (λ (o : List ℕ). length o) f.1) in
      ap (λ (o : List ℕ). and_then (remaining (record { at = at; octets = o })) next) joined
      ∙ ap (λ (r : Result (List ℕ × Rest) ℕ). and_then r next) (remaining_is at (value parts))
      ∙ (exact (value parts)).back (at + length (value parts)) parts [] [] refl (refl, holds) refl
      ∙ ap (λ (n : ℕ). Ok (make parts, record { at = n; octets = [] })) place
      ∙ ap (λ (o : List ℕ). Ok (make parts, behind at front o)) (sym follows);
}
