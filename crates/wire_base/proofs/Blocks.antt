-- Blocks of readers that name the fields of a layout in its order. The proof that a block is exact
-- is the block over again: a law `then_..` for each field, and `gives` or `ends` for its last line.
-- For a layout of a number and a text,
--
--     item_exact : Exact read_item (λ item. item) item_fields (λ item. Unit {0}) Anything
--     unfolding read_item
--     item_exact = then_number λ id. then_counted λ text.
--       gives (record { id = id; text = text }) refl (assumption refl)
--         (λ item h. cc (item_is item))
--
-- where `item_is item : item ≡ record { id = item.id; text = item.text }` is `refl`. `gives` and
-- `ends` take the parts that the value is made of, that they make it, what holds of them, and that
-- no others make another value. A part with a layout of its own comes by `then_part` or
-- `last_part`, and a field that has to mean something by `then_meaning`, with what it may mean
-- (`Means` in Meanings.antt). `then_several` and `last_several` also take that the count that was
-- read before is that of the values, which `λ parts h. assumption h` shows, and of values of which
-- nothing is asked `λ parts h. assumption (h, all_any parts.values)`.
use Rattle.std.proofs.Common.{◌≡◌, ℕ, ◌%◌, Bool, true, false, cond, eqb, List, [], ◌∷◌, ◌++◌, length, Result, Ok, Err, refl, sym, ap, subst, ◌∙◌, arith}
use Rattle.std.specs.List.{flat_map, AllByRecursion}
use Rattle.std.proofs.lemmas.Bool.{eqb-true}
use Rattle.std.proofs.lemmas.List.{append-nil, nil_from_length}
use Rattle.wire_base.specs.Numbers.{number_of, octets_of}
use Rattle.wire_base.specs.Layout.{AreOctets, Field, Number, Reserved, Flags, Counted, AreFlags, Form}
use Rattle.wire_base.specs.Reading.{Reader, Rest, ◌>>=◌, done, octets, number, counted, meaning, at_end, several, value_alone, whole, and_then}
use Rattle.std.specs.Prelude.{Option}
use Rattle.wire_base.proofs.Meanings.{Means, meaning_exact}
use Rattle.wire_base.proofs.Exact.{Exact, LaidOut, Anything, Nothing, behind, then_fields, alone, from_alone, octets_forth, octets_back, number_exact, counted_exact, several_exact}

-- Equal lists of fields are one layout.
same_fields : {B P : Type 0} {reader : Reader B} {make : P → B} {fields others : P → List Field} {holds : P → Type 0} {follows : List ℕ → Type 0}
    → ((parts : P) → fields parts ≡ others parts) → Exact reader make fields holds follows → Exact reader make others holds follows
same_fields same exact = record {
  forth = λ before read are e.
      let f = exact.forth before read are e in
      record { parts = f.parts; made = f.made; front = f.front; takes = f.takes; form = subst (λ (l : List Field). Form l f.front) (same f.parts) f.form; holds_so = f.holds_so; follows_so = f.follows_so };
  back = λ at parts front rest form holds follows. exact.back at parts front rest (subst (λ (l : List Field). Form l front) (sym (same parts)) form) holds follows;
}

-- A part with a layout of its own, and what comes after it.
pub then_part : {A B P : Type 0} {reader : Reader A} {next : A → Reader B} {make : P → B} {firsts : A → List Field} {fields : P → List Field} {holds_first : A → Type 0} {holds : P → Type 0} {follows : List ℕ → Type 0}
    (part : P → A) → Exact reader (λ x. x) firsts holds_first Anything → ((parts : P) → holds parts → holds_first (part parts))
    → ((x : A) → holds_first x → Exact (next x) make fields (λ parts. (part parts ≡ x) × holds parts) follows)
    → Exact (reader >>= next) make (λ parts. firsts (part parts) ++ fields parts) holds follows
then_part {A = A} {P = P} {firsts = firsts} {holds_first = holds_first} part exact implies next = then_fields (λ parts. firsts (part parts)) holds_first (λ (x : A) (parts : P). part parts ≡ x)
    (λ before read are e.
    let f = exact.forth before read are e in
    (f.front, f.takes, subst holds_first f.made f.holds_so, λ parts is. subst (λ (x : A). Form (firsts x) f.front) (f.made ∙ sym is) f.form))
    (λ at parts front rest form holds. (part parts, implies parts holds, refl, exact.back at (part parts) front rest form (implies parts holds) tt))
    next

-- A number, and what comes after it.
pub then_number : {B P : Type 0} {size : ℕ} {next : ℕ → Reader B} {make : P → B} {value : P → ℕ} {fields : P → List Field} {holds : P → Type 0} {follows : List ℕ → Type 0}
    → ((x : ℕ) → Exact (next x) make fields (λ parts. (value parts ≡ x) × holds parts) follows)
    → Exact (number size >>= next) make (λ parts. Number size (value parts) ∷ fields parts) holds follows
then_number {size = size} {value = value} next = then_part value (number_exact size) (λ parts holds. tt) (λ x known. next x)

-- A length with the octets that it counts, and what comes after it.
pub then_counted : {B P : Type 0} {size : ℕ} {next : List ℕ → Reader B} {make : P → B} {value : P → List ℕ} {fields : P → List Field} {holds : P → Type 0} {follows : List ℕ → Type 0}
    → ((x : List ℕ) → Exact (next x) make fields (λ parts. (value parts ≡ x) × holds parts) follows)
    → Exact (counted size >>= next) make (λ parts. Counted size (value parts) ∷ fields parts) holds follows
then_counted {size = size} {value = value} next = then_part value (counted_exact size) (λ parts holds. tt) (λ x known. next x)

-- A field that has to mean something, and what comes after it.
pub then_meaning : {A B V P : Type 0} {field : Reader A} {means : A → Option V} {next : V → Reader B} {make : P → B} {firsts : A → List Field} {spelling : V → A} {holds_value : V → Type 0} {fields : P → List Field} {holds : P → Type 0} {follows : List ℕ → Type 0}
    (value : P → V) → Exact field (λ x. x) firsts (λ x. Unit {0}) Anything → Means means spelling holds_value → ((parts : P) → holds parts → holds_value (value parts))
    → ((x : V) → holds_value x → Exact (next x) make fields (λ parts. (value parts ≡ x) × holds parts) follows)
    → Exact (meaning means field >>= next) make (λ parts. firsts (spelling (value parts)) ++ fields parts) holds follows
then_meaning value exact means implies next = then_part value (meaning_exact exact means) implies next

-- A part with a layout of its own at the end of a layout.
pub last_part : {A B P : Type 0} {reader : Reader A} {next : A → Reader B} {make : P → B} {firsts : A → List Field} {holds_first : A → Type 0} {holds : P → Type 0} {follows : List ℕ → Type 0}
    (part : P → A) → Exact reader (λ x. x) firsts holds_first Anything → ((parts : P) → holds parts → holds_first (part parts))
    → ((x : A) → holds_first x → Exact (next x) make (λ parts. []) (λ parts. (part parts ≡ x) × holds parts) follows)
    → Exact (reader >>= next) make (λ parts. firsts (part parts)) holds follows
last_part {firsts = firsts} part exact implies next = same_fields (λ parts. append-nil (firsts (part parts))) (then_part part exact implies next)

-- Of values of which nothing is asked, it holds of all.
pub all_any : {A : Type 0} (values : List A) → AllByRecursion (λ (x : A). Unit {0}) values
all_any [] = tt
all_any (first ∷ others) = (tt, all_any others)

-- Values one after another, of a number that was read before, and what comes after them.
pub then_several : {A B P : Type 0} {value : Reader A} {count : ℕ} {next : List A → Reader B} {make : P → B} {firsts : A → List Field} {fields : P → List Field} {holds_each : A → Type 0} {holds : P → Type 0} {follows : List ℕ → Type 0}
    (values : P → List A) → Exact value (λ x. x) firsts holds_each Anything → ((parts : P) → holds parts → (length (values parts) ≡ count) × AllByRecursion holds_each (values parts))
    → ((xs : List A) → (length xs ≡ count) × AllByRecursion holds_each xs → Exact (next xs) make fields (λ parts. (values parts ≡ xs) × holds parts) follows)
    → Exact (several count value >>= next) make (λ parts. flat_map firsts (values parts) ++ fields parts) holds follows
then_several {count = count} values exact implies next = then_part values (several_exact exact count) implies next

-- Values one after another at the end of a layout.
pub last_several : {A B P : Type 0} {value : Reader A} {count : ℕ} {next : List A → Reader B} {make : P → B} {firsts : A → List Field} {holds_each : A → Type 0} {holds : P → Type 0} {follows : List ℕ → Type 0}
    (values : P → List A) → Exact value (λ x. x) firsts holds_each Anything → ((parts : P) → holds parts → (length (values parts) ≡ count) × AllByRecursion holds_each (values parts))
    → ((xs : List A) → (length xs ≡ count) × AllByRecursion holds_each xs → Exact (next xs) make (λ parts. []) (λ parts. (values parts ≡ xs) × holds parts) follows)
    → Exact (several count value >>= next) make (λ parts. flat_map firsts (values parts)) holds follows
last_several {firsts = firsts} values exact implies next = same_fields (λ parts. append-nil (flat_map firsts (values parts))) (then_several values exact implies next)

-- What a part reports of nothing is left out.
without_unit : {B P : Type 0} {reader : Reader B} {make : P → B} {fields : P → List Field} {holds : P → Type 0} {follows : List ℕ → Type 0}
    → Exact reader make fields holds follows → Exact reader make fields (λ parts. Unit {0} × holds parts) follows
without_unit exact = record {
  forth = λ before read are e.
      let f = exact.forth before read are e in
      record { parts = f.parts; made = f.made; front = f.front; takes = f.takes; form = f.form; holds_so = (tt, f.holds_so); follows_so = f.follows_so };
  back = λ at parts front rest form holds follows. exact.back at parts front rest form holds.1 follows;
}

-- Octets that may be any, and what comes after them.
pub then_reserved : {B P : Type 0} {size : ℕ} {next : List ℕ → Reader B} {make : P → B} {fields : P → List Field} {holds : P → Type 0} {follows : List ℕ → Type 0}
    → ((x : List ℕ) → Exact (next x) make fields holds follows)
    → Exact (octets size >>= next) make (λ parts. Reserved size ∷ fields parts) holds follows
then_reserved {P = P} {size = size} next = then_fields (λ parts. Reserved size ∷ []) (λ x. Unit {0}) (λ (x : List ℕ) (parts : P). Unit {0})
    (λ before read are e. let t = octets_forth size before read e in (read.0, t.0, tt, λ parts told. alone (Reserved size) read.0 t.1))
    (λ at parts front rest form holds. (front, tt, tt, octets_back size at front rest (from_alone (Reserved size) front form)))
    (λ x known. without_unit (next x))

-- An octet of flags, and what comes after it.
pub then_flags : {B P : Type 0} {next : ℕ → Reader B} {make : P → B} {flags : P → List (ℕ × Bool)} {fields : P → List Field} {holds : P → Type 0} {follows : List ℕ → Type 0}
    → ((x : ℕ) → Exact (next x) make fields (λ parts. AreFlags x (flags parts) × holds parts) follows)
    → Exact (number 1 >>= next) make (λ parts. Flags (flags parts) ∷ fields parts) holds follows
unfolding octets_of
then_flags {P = P} {flags = flags} next = then_fields (λ parts. Flags (flags parts) ∷ []) (λ x. Unit {0}) (λ (x : ℕ) (parts : P). AreFlags x (flags parts))
    (λ before read are e.
    let f = (number_exact 1).forth before read are e in
    let n = from_alone (Number 1 f.parts) f.front f.form in
    let small : f.parts % 256 ≡ read.0 = omega (arith, n.0, f.made) in
    let is : f.front ≡ read.0 ∷ [] = n.1 ∙ ap (λ (o : ℕ). o ∷ []) small in
    (f.front, f.takes, tt, λ parts told. alone (Flags (flags parts)) f.front (read.0, is, told)))
    (λ at parts front rest form holds.
    let f = from_alone (Flags (flags parts)) front form in
    let value : number_of (f.0 ∷ []) ≡ f.0 = omega arith in
    let read : number 1 (record { at = at; octets = (f.0 ∷ []) ++ rest }) ≡ Ok (f.0, behind at (f.0 ∷ []) rest) =
    ap (λ (r : Result (List ℕ × Rest) ℕ). and_then r (λ spelled. done (number_of spelled))) (octets_back 1 at (f.0 ∷ []) rest refl)
    ∙ ap (λ (n : ℕ). Ok (n, behind at (f.0 ∷ []) rest)) value in
    (f.0, tt, f.2, subst (λ (o : List ℕ). number 1 (record { at = at; octets = o ++ rest }) ≡ Ok (f.0, behind at o rest)) (sym f.1) read))
    (λ x known. next x)

-- A test for the end that did not fail.
end_ok : {A : Type 0} (b : Bool) (place : ℕ) (x y : A) → cond b (Ok x) (Err place) ≡ Ok y → (b ≡ true) × (x ≡ y)
end_ok true place x y e = (refl, cc)
end_ok false place x y e = absurd cc

-- The last line of a block: the value, of these parts and no others.
pub gives : {B P : Type 0} {value : B} {make : P → B} {holds : P → Type 0} → (parts : P) → make parts ≡ value → holds parts → ((others : P) → holds others → make others ≡ value)
    → Exact (done value) make (λ parts. []) holds Anything
gives {B = B} {value = value} {make = make} {holds = holds} parts made so only = record {
  forth = λ before read are e.
      let given : B × Rest = (value, before) in
      let is : given ≡ read = cc in
      subst (λ (r : B × Rest). LaidOut make (λ p. []) holds Anything before r) is
      (record { parts = parts; made = made; front = []; takes = record { octets = refl; at = omega arith }; form = refl; holds_so = so; follows_so = tt });
  back = λ at others front rest form holds follows.
      rw form (ap (λ (k : ℕ). Ok (value, record { at = k; octets = rest })) (omega arith) ∙ ap (λ (x : B). Ok (x, behind at [] rest)) (sym (only others holds)));
}

-- The last line of a block after which nothing is left.
pub ends : {B P : Type 0} {value : B} {make : P → B} {holds : P → Type 0} → (parts : P) → make parts ≡ value → holds parts → ((others : P) → holds others → make others ≡ value)
    → Exact (at_end value) make (λ parts. []) holds Nothing
ends {B = B} {value = value} {make = make} {holds = holds} parts made so only = record {
  forth = λ before read are e.
      let g = end_ok (eqb (length before.octets) 0) before.at (value, before) read e in
      let left : before.octets ≡ [] = nil_from_length before.octets (eqb-true _ _ g.0) in
      subst (λ (r : B × Rest). LaidOut make (λ p. []) holds Nothing before r) g.1
      (record { parts = parts; made = made; front = []; takes = record { octets = refl; at = omega arith }; form = refl; holds_so = so; follows_so = left });
  back = λ at others front rest form holds follows.
      rw (form, follows) (ap (λ (k : ℕ). Ok (value, record { at = k; octets = [] })) (omega arith) ∙ ap (λ (x : B). Ok (x, behind at [] [])) (sym (only others holds)));
}

-- A value without what is left after it was read.
alone_ok : {A : Type 0} (read : Result (A × Rest) ℕ) (value : A) → value_alone read ≡ Ok value → (x : A × Rest) × (read ≡ Ok x) × (x.0 ≡ value)
alone_ok (Ok x) value e = (x, refl, cc)
alone_ok (Err place) value e = absurd cc

-- What all of some octets are read as has the layout of its parts.
pub whole_forth : {B P : Type 0} {reader : Reader B} {make : P → B} {fields : P → List Field} {holds : P → Type 0} → Exact reader make fields holds Nothing
    → (at : ℕ) (octets : List ℕ) (value : B) → AreOctets octets → whole reader at octets ≡ Ok value → (parts : P) × (make parts ≡ value) × Form (fields parts) octets × holds parts
whole_forth {reader = reader} {fields = fields} exact at octets value are e =
    let a = alone_ok (reader (record { at = at; octets = octets })) value e in
    let f = exact.forth (record { at = at; octets = octets }) a.0 are a.1 in
    let all : octets ≡ f.front = f.takes.octets ∙ ap (λ (rest : List ℕ). f.front ++ rest) f.follows_so ∙ append-nil f.front in
    (f.parts, f.made ∙ a.2, subst (λ (o : List ℕ). Form (fields f.parts) o) (sym all) f.form, f.holds_so)

-- Octets that have the layout of some parts are read as what these make.
pub whole_back : {B P : Type 0} {reader : Reader B} {make : P → B} {fields : P → List Field} {holds : P → Type 0} → Exact reader make fields holds Nothing
    → (at : ℕ) (octets : List ℕ) (parts : P) → Form (fields parts) octets → holds parts → whole reader at octets ≡ Ok (make parts)
whole_back {B = B} {reader = reader} exact at octets parts form holds =
    ap (λ (o : List ℕ). whole reader at o) (sym (append-nil octets)) ∙ ap (λ (r : Result (B × Rest) ℕ). value_alone r) (exact.back at parts octets [] form holds refl)
