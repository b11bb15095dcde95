-- Fields of octets as they stand, and fields that have to mean something.
use Rattle.std.proofs.Common.{◌≡◌, ◌↔◌, ℕ, Bool, true, cond, List, [], ◌∷◌, ◌++◌, Result, Ok, refl, sym, ap, subst, ◌∙◌}
use Rattle.std.specs.Prelude.{Option, Some, None}
use Rattle.std.proofs.lemmas.Option.{cond_some}
use Rattle.wire_base.specs.Layout.{Field, Fixed, Form}
use Rattle.wire_base.specs.Reading.{Reader, Rest, and_then, octets, meant_at, meaning, if_so}
use Rattle.wire_base.proofs.Exact.{Exact, Anything, Takes, behind, bind_ok, alone, from_alone, octets_forth, octets_back}

-- That many octets, as they stand.
pub fixed_exact : (size : ℕ) → Exact (octets size) (λ value. value) (λ value. Fixed size value ∷ []) (λ value. Unit {0}) Anything
fixed_exact size = record {
  forth = λ before read are e.
      let t = octets_forth size before read e in
      record { parts = read.0; made = refl; front = read.0; takes = t.0; form = alone (Fixed size read.0) read.0 (t.1, refl); holds_so = tt; follows_so = tt };
  back = λ at value front rest form holds follows.
      let f = from_alone (Fixed size value) front form in
      subst (λ (o : List ℕ). octets size (record { at = at; octets = o ++ rest }) ≡ Ok (value, behind at o rest)) (sym f.1) (octets_back size at value rest f.0);
}

-- What fields mean: each value of which `holds` is so is what its spelling means, and nothing else
-- means anything.
pub record Means {A B : Type 0} (means : A → Option B) (spelling : B → A) (holds : B → Type 0) : Type 0 where
  pub forth : (field : A) (value : B) → means field ≡ Some value → (spelling value ≡ field) × holds value
  pub back : (value : B) → holds value → means (spelling value) ≡ Some value

-- Values that pass a test mean themselves.
pub if_so_means : {A : Type 0} {test : A → Bool} {holds : A → Type 0} → ((a : A) → (test a ≡ true) ↔ holds a) → Means (if_so test) (λ a. a) holds
if_so_means {A = A} {test = test} {holds = holds} decides = record {
  forth = λ field value e.
      let s = cond_some (test field) field value e in
      (sym s.1, subst holds s.1 ((decides field).0 s.0));
  back = λ value so. ap (λ (b : Bool). cond b (Some value) None) ((decides value).1 so);
}

-- A field that meant something.
meant_ok : {B : Type 0} (place : ℕ) (meaning : Option B) (rest : Rest) (read : B × Rest) → meant_at place meaning rest ≡ Ok read → (meaning ≡ Some read.0) × (rest ≡ read.1)
meant_ok place (Some value) rest read e = (cc, cc)
meant_ok place None rest read e = absurd cc

-- A field that has to mean something, which is laid out as the spelling of what it means.
pub meaning_exact : {A B : Type 0} {field : Reader A} {means : A → Option B} {fields : A → List Field} {spelling : B → A} {holds : B → Type 0}
    → Exact field (λ value. value) fields (λ value. Unit {0}) Anything → Means means spelling holds
    → Exact (meaning means field) (λ value. value) (λ value. fields (spelling value)) holds Anything
meaning_exact {A = A} {field = field} {means = means} {fields = fields} {spelling = spelling} exact same = record {
  forth = λ before read are e.
      let x = bind_ok (field before) (λ value. meant_at before.at (means value)) read e in
      let f = exact.forth before x.0 are x.1 in
      let m = meant_ok before.at (means x.0.0) x.0.1 read x.2 in
      let w = same.forth x.0.0 read.0 m.0 in
      record {
        parts = read.0;
        made = refl;
        front = f.front;
        takes = subst (λ (after : Rest). Takes before f.front after) m.1 f.takes;
        form = subst (λ (a : A). Form (fields a) f.front) (f.made ∙ sym w.0) f.form;
        holds_so = w.1;
        follows_so = tt;
      };
  back = λ at value front rest form so follows.
      ap (λ (r : Result (A × Rest) ℕ). and_then r (λ read. meant_at at (means read))) (exact.back at (spelling value) front rest form tt tt)
      ∙ ap (λ (m : Option _). meant_at at m (behind at front rest)) (same.back value so);
}
