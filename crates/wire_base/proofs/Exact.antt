-- A reader and a layout that say the same: what is read is laid out so, and what is laid out so is
-- read.
use Rattle.std.proofs.Common.{◌≡◌, ℕ, zero, suc, ◌+◌, ◌^◌, ◌<◌, ◌≤◌, Bool, true, false, cond, ltb, List, [], ◌∷◌, ◌++◌, length, take, drop, Result, Ok, Err, refl, sym, ap, subst, ◌∙◌, append_assoc, arith, length-append, length-take}
use Rattle.std.specs.List.{flat_map, AllByRecursion}
use Rattle.std.proofs.lemmas.Bool.{ltb-false, le-ltb}
use Rattle.std.proofs.lemmas.List.{take_at, drop_at, take-append-drop, append-nil}
use Rattle.wire_base.specs.Numbers.{number_of, octets_of}
use Rattle.wire_base.specs.Layout.{AreOctets, Field, Number, Counted, FieldForm, Form}
use Rattle.wire_base.specs.Reading.{Reader, Rest, ◌>>=◌, and_then, done, octets, number, counted, faults_at, several}
use Rattle.wire_base.proofs.Spelled.{AreOctets-front, AreOctets-rest, length-octets_of, number_of-octets_of, octets_of-number_of, number_of-below}

-- A reader took these octets from the start.
pub record Takes (before : Rest) (front : List ℕ) (after : Rest) : Type 0 where
  pub octets : before.octets ≡ front ++ after.octets
  pub at : after.at ≡ before.at + length front

-- What is left after some octets.
abbrev pub behind : ℕ → List ℕ → List ℕ → Rest
behind at front more = record { at = at + length front; octets = more }

-- What was read is laid out as its parts say.
pub record LaidOut {P B : Type 0} (make : P → B) (fields : P → List Field) (holds : P → Type 0) (follows : List ℕ → Type 0) (before : Rest) (read : B × Rest) : Type 0 where
  pub parts : P
  pub made : make parts ≡ read.0
  pub front : List ℕ
  pub takes : Takes before front read.1
  pub form : Form (fields parts) front
  pub holds_so : holds parts
  pub follows_so : follows read.1.octets

-- A reader gives exactly the values `make parts` whose octets have the fields of parts of which
-- `holds` is so, where `follows` is so of the octets after them.
pub record Exact {P B : Type 0} (reader : Reader B) (make : P → B) (fields : P → List Field) (holds : P → Type 0) (follows : List ℕ → Type 0) : Type 0 where
  pub forth : (before : Rest) (read : B × Rest) → AreOctets before.octets → reader before ≡ Ok read → LaidOut make fields holds follows before read
  pub back : (at : ℕ) (parts : P) (front rest : List ℕ) → Form (fields parts) front → holds parts → follows rest
      → reader (record { at = at; octets = front ++ rest }) ≡ Ok (make parts, behind at front rest)

-- Whatever may follow.
abbrev pub Anything : List ℕ → Type 0
Anything rest = Unit {0}

-- Nothing may follow.
abbrev pub Nothing : List ℕ → Type 0
Nothing rest = rest ≡ []

-- ---- one reader after another

-- The steps of a block that gave a value.
pub bind_ok : {A B : Type 0} (read : Result (A × Rest) ℕ) (next : A → Reader B) (y : B × Rest) → and_then read next ≡ Ok y → (x : A × Rest) × (read ≡ Ok x) × (next x.0 x.1 ≡ Ok y)
bind_ok (Ok x) next y e = (x, refl, e)
bind_ok (Err place) next y e = absurd cc

-- Takings one after another.
takes_both : (before mid after : Rest) (first second : List ℕ) → Takes before first mid → Takes mid second after → Takes before (first ++ second) after
takes_both before mid after first second a b = record {
  octets = a.octets ∙ ap (λ (o : List ℕ). first ++ o) b.octets ∙ sym (append_assoc first second after.octets);
  at = omega (arith, a.at, b.at, length-append first second);
}

-- What is left after two parts is what is left after both together.
behind_both : (at : ℕ) (first second more : List ℕ) → behind (at + length first) second more ≡ behind at (first ++ second) more
behind_both at first second more =
    let place : at + length first + length second ≡ at + length (first ++ second) = omega (arith, length-append first second) in
    ap (λ (k : ℕ). record { at = k; octets = more }) place

-- Fields one after another are two lists of fields one after another.
pub Form-append : (fields more : List Field) (front rest : List ℕ) → Form fields front → Form more rest → Form (fields ++ more) (front ++ rest)
Form-append [] more front rest a b = rw a b
Form-append (field ∷ fields) more front rest a b =
    (a.0, a.1 ++ rest, ap (λ (o : List ℕ). o ++ rest) a.2 ∙ append_assoc a.0 a.1 rest, a.3, Form-append fields more a.1 rest a.4 b)

-- The octets of two lists of fields, split where the second begins.
pub Form-split : (fields more : List Field) (octets : List ℕ) → Form (fields ++ more) octets → (front : List ℕ) × (rest : List ℕ) × (octets ≡ front ++ rest) × Form fields front × Form more rest
Form-split [] more octets form = ([], octets, refl, refl, form)
Form-split (field ∷ fields) more octets form =
    let s = Form-split fields more form.1 form.4 in
    (form.0 ++ s.0, s.1, form.2 ∙ ap (λ (o : List ℕ). form.0 ++ o) s.2 ∙ sym (append_assoc form.0 s.0 s.1), (form.0, s.0, refl, form.3, s.3), s.4)

-- One field and no other.
pub alone : (field : Field) (front : List ℕ) → FieldForm field front → Form (field ∷ []) front
alone field front form = (front, [], sym (append-nil front), form, refl)

-- One field and no other, the other way.
pub from_alone : (field : Field) (front : List ℕ) → Form (field ∷ []) front → FieldForm field front
from_alone field front form = subst (λ (o : List ℕ). FieldForm field o) (sym (form.2 ∙ ap (λ (o : List ℕ). form.0 ++ o) form.4 ∙ append-nil form.0)) form.3

-- A reader and what comes after it, where the reader has fields of its own. What it gave, `tells`
-- ties to the parts.
pub then_fields : {A B P : Type 0} {reader : Reader A} {next : A → Reader B} {make : P → B} {fields : P → List Field} {holds : P → Type 0} {follows : List ℕ → Type 0}
    (firsts : P → List Field) (known : A → Type 0) (tells : A → P → Type 0)
    (forth : (before : Rest) (read : A × Rest) → AreOctets before.octets → reader before ≡ Ok read
    → (front : List ℕ) × Takes before front read.1 × known read.0 × ((parts : P) → tells read.0 parts → Form (firsts parts) front))
    (back : (at : ℕ) (parts : P) (front rest : List ℕ) → Form (firsts parts) front → holds parts
    → (x : A) × known x × tells x parts × (reader (record { at = at; octets = front ++ rest }) ≡ Ok (x, behind at front rest)))
    → ((x : A) → known x → Exact (next x) make fields (λ parts. tells x parts × holds parts) follows)
    → Exact (reader >>= next) make (λ parts. firsts parts ++ fields parts) holds follows
then_fields {reader = reader} {next = next} {make = make} {fields = fields} firsts known tells forth back exact = record {
  forth = λ before read are e.
      let b = bind_ok (reader before) next read e in
      let f = forth before b.0 are b.1 in
      let g = (exact b.0.0 f.2).forth b.0.1 read (AreOctets-rest before.octets f.0 b.0.1.octets f.1.octets are) b.2 in
      record {
        parts = g.parts;
        made = g.made;
        front = f.0 ++ g.front;
        takes = takes_both before b.0.1 read.1 f.0 g.front f.1 g.takes;
        form = Form-append (firsts g.parts) (fields g.parts) f.0 g.front (f.3 g.parts g.holds_so.0) g.form;
        holds_so = g.holds_so.1;
        follows_so = g.follows_so;
      };
  back = λ at parts front rest form holds follows.
      let s = Form-split (firsts parts) (fields parts) front form in
      let b = back at parts s.0 (s.1 ++ rest) s.3 holds in
      let g = (exact b.0 b.1).back (at + length s.0) parts s.1 rest s.4 (b.2, holds) follows in
      let joined : front ++ rest ≡ s.0 ++ (s.1 ++ rest) = ap (λ (o : List ℕ). o ++ rest) s.2 ∙ append_assoc s.0 s.1 rest in
      ap (λ (o : List ℕ). (reader >>= next) (record { at = at; octets = o })) joined
      ∙ ap (λ (r : Result _ ℕ). and_then r next) b.3
      ∙ g
      ∙ ap (λ (r : Rest). Ok (make parts, r)) (behind_both at s.0 s.1 rest)
      ∙ ap (λ (o : List ℕ). Ok (make parts, behind at o rest)) (sym s.2);
}

-- ---- octets and numbers

-- A test that did not fail.
guard_ok : {A : Type 0} (b : Bool) (place : ℕ) (x y : A) → cond b (Err place) (Ok x) ≡ Ok y → (b ≡ false) × (x ≡ y)
guard_ok true place x y e = absurd cc
guard_ok false place x y e = (refl, cc)

-- Octets that were read stood first, that many as were asked for.
pub octets_forth : (count : ℕ) (before : Rest) (read : List ℕ × Rest) → octets count before ≡ Ok read → Takes before read.0 read.1 × (length read.0 ≡ count)
octets_forth count before read e =
    let made : List ℕ × Rest = (take count before.octets, record { at = before.at + count; octets = drop count before.octets }) in
    let g = guard_ok (ltb (length before.octets) count) before.at made read e in
    let long : count ≤ length before.octets = ltb-false _ _ g.0 in
    let len : length (take count before.octets) ≡ count = omega (arith, length-take count before.octets) in
    subst (λ (r : List ℕ × Rest). Takes before r.0 r.1 × (length r.0 ≡ count)) g.1
    (record { octets = sym (take-append-drop count before.octets); at = ap (λ (k : ℕ). before.at + k) (sym len) }, len)

-- Octets that stand first are read.
pub octets_back : (count at : ℕ) (front rest : List ℕ) → length front ≡ count → octets count (record { at = at; octets = front ++ rest }) ≡ Ok (front, behind at front rest)
octets_back count at front rest len =
    let long : ltb (length (front ++ rest)) count ≡ false = le-ltb _ _ (omega (arith, length-append front rest)) in
    rw (long, take_at front rest count len, drop_at front rest count len) (ap (λ (k : ℕ). Ok (front, record { at = at + k; octets = rest })) (sym len))

-- A number that was read stood first.
number_forth : (size : ℕ) (before : Rest) (read : ℕ × Rest) → AreOctets before.octets → number size before ≡ Ok read → Takes before (octets_of size read.0) read.1 × (read.0 < 256 ^ size)
number_forth size before read are e =
    let b = bind_ok (octets size before) (λ spelled. done (number_of spelled)) read e in
    let t = octets_forth size before b.0 b.1 in
    let made : ℕ × Rest = (number_of b.0.0, b.0.1) in
    let is : made ≡ read = cc in
    let fronts = AreOctets-front before.octets b.0.0 b.0.1.octets t.0.octets are in
    let again = octets_of-number_of size b.0.0 t.1 fronts in
    subst (λ (r : ℕ × Rest). Takes before (octets_of size r.0) r.1 × (r.0 < 256 ^ size)) is (rw again t.0, number_of-below size b.0.0 t.1 fronts)

-- A number that stands first is read.
number_back : (size at value : ℕ) (rest : List ℕ) → value < 256 ^ size → number size (record { at = at; octets = octets_of size value ++ rest }) ≡ Ok (value, behind at (octets_of size value) rest)
number_back size at value rest fits =
    let front : List ℕ = octets_of size value in
    ap (λ (r : Result (List ℕ × Rest) ℕ). and_then r (λ spelled. done (number_of spelled))) (octets_back size at front rest (length-octets_of size value))
    ∙ ap (λ (n : ℕ). Ok (n, behind at front rest)) (number_of-octets_of size value fits)

-- A number of that many octets.
pub number_exact : (size : ℕ) → Exact (number size) (λ value. value) (λ value. Number size value ∷ []) (λ value. Unit {0}) Anything
number_exact size = record {
  forth = λ before read are e.
      let t = number_forth size before read are e in
      record {
        parts = read.0;
        made = refl;
        front = octets_of size read.0;
        takes = t.0;
        form = alone (Number size read.0) (octets_of size read.0) (t.1, refl);
        holds_so = tt;
        follows_so = tt;
      };
  back = λ at value front rest form holds follows.
      let f = from_alone (Number size value) front form in
      subst (λ (o : List ℕ). number size (record { at = at; octets = o ++ rest }) ≡ Ok (value, behind at o rest)) (sym f.1) (number_back size at value rest f.0);
}

-- A fault that is reported elsewhere is no value.
faults_at_ok : {A : Type 0} (place : ℕ) (read : Result A ℕ) (y : A) → faults_at place read ≡ Ok y → read ≡ Ok y
faults_at_ok place (Ok read) y e = e
faults_at_ok place (Err fault) y e = absurd cc

-- A length of that many octets, and the octets that it counts.
pub counted_exact : (size : ℕ) → Exact (counted size) (λ value. value) (λ value. Counted size value ∷ []) (λ value. Unit {0}) Anything
unfolding counted
counted_exact size = record {
  forth = λ before read are e.
      let b = bind_ok (number size before) octets read (faults_at_ok before.at ((number size >>= octets) before) read e) in
      let n = number_forth size before b.0 are b.1 in
      let o = octets_forth b.0.0 b.0.1 read b.2 in
      let front : List ℕ = octets_of size (length read.0) ++ read.0 in
      let lengths : octets_of size b.0.0 ++ read.0 ≡ front = ap (λ (k : ℕ). octets_of size k ++ read.0) (sym o.1) in
      record {
        parts = read.0;
        made = refl;
        front = front;
        takes = subst (λ (f : List ℕ). Takes before f read.1) lengths (takes_both before b.0.1 read.1 (octets_of size b.0.0) read.0 n.0 o.0);
        form = alone (Counted size read.0) front (omega (arith, n.1, o.1), refl);
        holds_so = tt;
        follows_so = tt;
      };
  back = λ at value front rest form holds follows.
      let f = from_alone (Counted size value) front form in
      let spelled : List ℕ = octets_of size (length value) in
      let joined : front ++ rest ≡ spelled ++ (value ++ rest) = ap (λ (o : List ℕ). o ++ rest) f.1 ∙ append_assoc spelled value rest in
      ap (λ (o : List ℕ). counted size (record { at = at; octets = o })) joined
      ∙ ap (λ (r : Result (ℕ × Rest) ℕ). faults_at at (and_then r octets)) (number_back size at (length value) (value ++ rest) f.0)
      ∙ ap (λ (r : Result (List ℕ × Rest) ℕ). faults_at at r) (octets_back (length value) (at + length spelled) value rest refl)
      ∙ ap (λ (r : Rest). Ok (value, r)) (behind_both at spelled value rest)
      ∙ ap (λ (o : List ℕ). Ok (value, behind at o rest)) (sym f.1);
}

-- ---- many values

-- That many values of which `holds` is so.
abbrev AreSo : {A : Type 0} → (A → Type 0) → ℕ → List A → Type 0
AreSo holds count values = (length values ≡ count) × AllByRecursion holds values

-- That many values have the fields of each, one value after another.
abbrev SeveralExact : {A : Type 0} → Reader A → (A → List Field) → (A → Type 0) → ℕ → Type 0
SeveralExact value fields holds count = Exact (several count value) (λ values. values) (λ values. flat_map fields values) (AreSo holds count) Anything

-- Nothing is read as no values.
none_exact : {A : Type 0} (value : Reader A) (fields : A → List Field) (holds : A → Type 0) → SeveralExact value fields holds 0
unfolding several
none_exact {A = A} value fields holds = record {
  forth = λ before read are e.
      let nothing : List A × Rest = ([], before) in
      let is : nothing ≡ read = cc in
      subst (λ (r : List A × Rest). LaidOut (λ values. values) (λ values. flat_map fields values) (AreSo holds 0) Anything before r) is
      (record { parts = []; made = refl; front = []; takes = record { octets = refl; at = omega arith }; form = refl; holds_so = (refl, tt); follows_so = tt });
  back = λ at values front rest form all follows. none_back at values front rest form all;
}
  where
    none_back : (at : ℕ) (values : List A) (front rest : List ℕ) → Form (flat_map fields values) front → AreSo holds 0 values
        → several 0 value (record { at = at; octets = front ++ rest }) ≡ Ok (values, behind at front rest)
    none_back at [] front rest form all = rw form (ap (λ (k : ℕ). Ok ([], record { at = k; octets = rest })) (omega arith))
    none_back at (first ∷ others) front rest form all = absurd (omega arith)

-- One value more, before others that are read.
more_forth : {A : Type 0} (value : Reader A) (fields : A → List Field) (holds : A → Type 0) (count : ℕ) → Exact value (λ x. x) fields holds Anything → SeveralExact value fields holds count
    → (before : Rest) (read : List A × Rest) → AreOctets before.octets → several (suc count) value before ≡ Ok read → LaidOut (λ values. values) (λ values. flat_map fields values) (AreSo holds (suc count)) Anything before read
unfolding several
more_forth {A = A} value fields holds count one others before read are e =
    let a = bind_ok (value before) (λ first. several count value >>= λ rest. done (first ∷ rest)) read e in
    let b = bind_ok (several count value a.0.1) (λ rest. done (a.0.0 ∷ rest)) read a.2 in
    let f = one.forth before a.0 are a.1 in
    let g = others.forth a.0.1 b.0 (AreOctets-rest before.octets f.front a.0.1.octets f.takes.octets are) b.1 in
    let made : List A × Rest = (a.0.0 ∷ b.0.0, b.0.1) in
    let is : made ≡ read = cc in
    subst (λ (r : List A × Rest). LaidOut (λ values. values) (λ values. flat_map fields values) (AreSo holds (suc count)) Anything before r) is (record {
      parts = f.parts ∷ g.parts;
      made = cc (f.made, g.made);
      front = f.front ++ g.front;
      takes = takes_both before a.0.1 b.0.1 f.front g.front f.takes g.takes;
      form = Form-append (fields f.parts) (flat_map fields g.parts) f.front g.front f.form g.form;
      holds_so = (omega (arith, g.holds_so.0), (f.holds_so, g.holds_so.1));
      follows_so = tt;
    })

-- One value more is read, and the others after it.
more_back : {A : Type 0} (value : Reader A) (fields : A → List Field) (holds : A → Type 0) (count : ℕ) → Exact value (λ x. x) fields holds Anything → SeveralExact value fields holds count
    → (at : ℕ) (values : List A) (front rest : List ℕ) → Form (flat_map fields values) front → AreSo holds (suc count) values → several (suc count) value (record { at = at; octets = front ++ rest }) ≡ Ok (values, behind at front rest)
unfolding several
more_back value fields holds count one others at [] front rest form all = absurd (omega arith)
more_back {A = A} value fields holds count one others at (x ∷ xs) front rest form all =
    let s = Form-split (fields x) (flat_map fields xs) front form in
    let joined : front ++ rest ≡ s.0 ++ (s.1 ++ rest) = ap (λ (o : List ℕ). o ++ rest) s.2 ∙ append_assoc s.0 s.1 rest in
    let len : length xs ≡ count = omega (arith, all.0) in
    ap (λ (o : List ℕ). several (suc count) value (record { at = at; octets = o })) joined
    ∙ ap (λ (r : Result (A × Rest) ℕ). and_then r (λ first. several count value >>= λ others. done (first ∷ others))) (one.back at x s.0 (s.1 ++ rest) s.3 all.1.0 tt)
    ∙ ap (λ (r : Result (List A × Rest) ℕ). and_then r (λ others. done (x ∷ others))) (others.back (at + length s.0) xs s.1 rest s.4 (len, all.1.1) tt)
    ∙ ap (λ (r : Rest). Ok (x ∷ xs, r)) (behind_both at s.0 s.1 rest)
    ∙ ap (λ (o : List ℕ). Ok (x ∷ xs, behind at o rest)) (sym s.2)

-- That many values, one after another.
pub several_exact : {A : Type 0} {value : Reader A} {fields : A → List Field} {holds : A → Type 0} → Exact value (λ x. x) fields holds Anything → (count : ℕ)
    → Exact (several count value) (λ values. values) (λ values. flat_map fields values) (λ values. (length values ≡ count) × AllByRecursion holds values) Anything
several_exact {value = value} {fields = fields} {holds = holds} exact zero = none_exact value fields holds
several_exact {value = value} {fields = fields} {holds = holds} exact (suc count) = record {
  forth = more_forth value fields holds count exact (several_exact exact count);
  back = λ at values front rest form all follows. more_back value fields holds count exact (several_exact exact count) at values front rest form all;
}
