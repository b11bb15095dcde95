-- The faults of fields, of many values one after another, and of the last lines of blocks.
use Rattle.std.proofs.Common.{◌≡◌, ℕ, zero, suc, ◌+◌, ◌%◌, Bool, true, false, cond, eqb, ltb, List, [], ◌∷◌, ◌++◌, ◌⊎◌, inl, inr, length, take, drop, Result, Ok, Err, refl, sym, ap, subst, ◌∙◌, append_assoc, arith}
use Rattle.std.specs.Prelude.{Option, Some, None}
use Rattle.std.specs.List.{flat_map, AllByRecursion}
use Rattle.std.proofs.lemmas.Bool.{eqb-false, ne_eqb}
use Rattle.std.proofs.lemmas.List.{append_cancel_left, nil_from_length}
use Rattle.wire_base.specs.Numbers.{number_of, octets_of}
use Rattle.wire_base.specs.Layout.{AreOctets, Field, Number, Reserved, Flags, Counted, FieldForm, Form, AreFlags, is_set}
use Rattle.wire_base.specs.Reading.{Reader, Rest, ◌>>=◌, and_then, done, octets, number, counted, faults_at, meant_at, meaning, at_end, several}
use Rattle.wire_base.proofs.Exact.{Exact, Anything, Nothing, Takes, behind, alone, from_alone, octets_forth, octets_back, number_exact, counted_exact, several_exact}
use Rattle.wire_base.proofs.Meanings.{Means, meaning_exact}
use Rattle.wire_base.specs.FirstFault.{HasFields, GoesOn, Stops}
use Rattle.wire_base.proofs.Faults.{ExactFaults, Alike, relaid, of_part, bind_err, mapped, front_of_none, then_faults, then_part, last_part}

-- ---- a field whose fault is at its start

-- A reader that can only have a fault where it starts.
abbrev pub FaultsAtStart : {A : Type 0} → Reader A → Type 0
FaultsAtStart reader = (before : Rest) (place : ℕ) → reader before ≡ Err place → place ≡ before.at

-- A list with one field ends where it begins, or after that field.
one_field : (field : Field) (firsts others : List Field) → field ∷ [] ≡ firsts ++ others → (firsts ≡ []) ⊎ (others ≡ [])
one_field field [] others e = inl refl
one_field field (first ∷ firsts) others e =
    let tails : firsts ++ others ≡ [] = cc in
    inr (none_left firsts others tails)
  where
    none_left : (a b : List Field) → a ++ b ≡ [] → b ≡ []
    none_left [] b e = e
    none_left (x ∷ a) b e = absurd cc

module _ {A P : Type 0} {reader : Reader A} {field : P → Field} {holds : P → Type 0}
    (start : FaultsAtStart reader)
    (reads : (at : ℕ) (parts : P) (front left : List ℕ) → FieldForm (field parts) front → holds parts → (x : A × Rest) × (reader (record { at = at; octets = front ++ left }) ≡ Ok x))
    (covers : (before : Rest) (read : A × Rest) → AreOctets before.octets → reader before ≡ Ok read
    → (parts : P) × holds parts × ((front : List ℕ) × (left : List ℕ) × (before.octets ≡ front ++ left) × FieldForm (field parts) front)) where
  -- At a fault no parts have their field there.
  none_there : (before : Rest) (place : ℕ) → reader before ≡ Err place → (others : List Field) → HasFields (λ parts. field parts ∷ []) holds [] others → GoesOn Anything others before.octets → ⊥
  none_there before place e others b goes =
      let g : GoesOn Anything (field b.value ∷ []) before.octets = subst (λ (l : List Field). GoesOn Anything l before.octets) (sym b.split) goes in
      let r = reads before.at b.value g.0 g.1 g.3 b.so in
      let both : Ok r.0 ≡ Err place = sym r.1 ∙ sym (ap (λ (o : List ℕ). reader (record { at = before.at; octets = o })) g.2) ∙ e in
      absurd cc

  -- Where none goes on, that is at the start.
  at_start : (before : Rest) (place : ℕ) → (s : Stops (λ parts. field parts ∷ []) holds Anything before.at before.octets place) → (s.firsts ≡ []) × (s.front ≡ [])
  at_start before place s =
      let none : s.firsts ≡ [] = elim (one_field (field s.some.value) s.firsts s.others s.some.split) [
        | inl e ↦ e
        | inr e ↦ absurd (s.none [] (record { value = s.some.value; so = s.some.so; split = s.some.split ∙ ap (λ (l : List Field). s.firsts ++ l) e }) tt)
      ] in
      (none, subst (λ (l : List Field). Form l s.front) none s.form)

  -- So what is read there is a fault.
  fault_there : (before : Rest) (place : ℕ) → AreOctets before.octets → Stops (λ parts. field parts ∷ []) holds Anything before.at before.octets place → (read : Result (A × Rest) ℕ) → reader before ≡ read → read ≡ Err place
  fault_there before place are s (Err fault) e =
      let here : fault ≡ before.at = start before fault e in
      let empty = (at_start before place s).1 in
      let same : fault ≡ place = omega (arith, here, s.stands, ap (λ (o : List ℕ). length o) empty) in
      ap (λ (k : ℕ). Err k) same
  fault_there before place are s (Ok read) e =
      let c = covers before read are e in
      let none = at_start before place s in
      let left : s.left ≡ c.2.0 ++ c.2.1 = ap (λ (o : List ℕ). o ++ s.left) (sym none.1) ∙ sym s.joined ∙ c.2.2 in
      absurd (s.none (field c.0 ∷ []) (record { value = c.0; so = c.1; split = ap (λ (l : List Field). l ++ field c.0 ∷ []) (sym none.0) }) (c.2.0, c.2.1, left, c.2.3))

  pub field_faults : (some : P) → holds some → ExactFaults reader (λ parts. field parts ∷ []) holds Anything
  field_faults some so = record {
    some = some;
    so = so;
    forth = λ before place are e. record {
      firsts = [];
      others = field some ∷ [];
      some = record { value = some; so = so; split = refl };
      front = [];
      left = before.octets;
      joined = refl;
      form = refl;
      stands = omega (arith, start before place e);
      none = none_there before place e;
    };
    back = λ before place are s. fault_there before place are s (reader before) refl;
  }

-- A field that is read as it is laid out.
pub value_faults : {A : Type 0} {reader : Reader A} {field : A → Field} {holds : A → Type 0} → Exact reader (λ x. x) (λ x. field x ∷ []) holds Anything → FaultsAtStart reader → (some : A) → holds some
    → ExactFaults reader (λ x. field x ∷ []) holds Anything
value_faults {field = field} exact start some so = field_faults start
    (λ at x front left form holds. ((x, behind at front left), exact.back at x front left (alone (field x) front form) holds tt))
    (λ before read are e. let f = exact.forth before read are e in (f.parts, f.holds_so, (f.front, read.1.octets, f.takes.octets, from_alone (field f.parts) f.front f.form)))
    some so

-- ---- octets, numbers, counted octets and meanings

guard_err : {A : Type 0} (b : Bool) (place fault : ℕ) (x : A) → cond b (Err place) (Ok x) ≡ Err fault → fault ≡ place
guard_err true place fault x e = cc
guard_err false place fault x e = absurd cc

pub octets_start : (count : ℕ) → FaultsAtStart (octets count)
octets_start count before place e =
    let made : List ℕ × Rest = (take count before.octets, record { at = before.at + count; octets = drop count before.octets }) in
    guard_err (ltb (length before.octets) count) before.at place made e

pub number_start : (size : ℕ) → FaultsAtStart (number size)
number_start size before place e = elim (bind_err (octets size before) (λ spelled. done (number_of spelled)) place e) [
  | inl fault ↦ octets_start size before place fault
  | inr read ↦ absurd cc
]

faults_at_err : {A : Type 0} (place fault : ℕ) (read : Result A ℕ) → faults_at place read ≡ Err fault → fault ≡ place
faults_at_err place fault (Ok read) e = absurd cc
faults_at_err place fault (Err other) e = cc

pub counted_start : (size : ℕ) → FaultsAtStart (counted size)
unfolding counted
counted_start size before place e = faults_at_err before.at place ((number size >>= octets) before) e

meant_err : {B : Type 0} (place fault : ℕ) (meaning : Option B) (rest : Rest) → meant_at place meaning rest ≡ Err fault → fault ≡ place
meant_err place fault (Some value) rest e = absurd cc
meant_err place fault None rest e = cc

pub meaning_start : {A B : Type 0} {field : Reader A} (means : A → Option B) → FaultsAtStart field → FaultsAtStart (meaning means field)
meaning_start {field = field} means start before place e = elim (bind_err (field before) (λ value. meant_at before.at (means value)) place e) [
  | inl fault ↦ start before place fault
  | inr read ↦ meant_err before.at place (means read.0.0) read.0.1 read.2
]

-- A meaning that is spelled by a field is the field's.
pub alike_meaning : {A B : Type 0} {field : A → Field} {means : A → Option B} {spelling : B → A} {holds : B → Type 0} → Means means spelling holds
    → Alike (λ (a : A). field a ∷ []) (λ a. Unit {0}) → Alike (λ b. field (spelling b) ∷ []) holds
alike_meaning {B = B} {means = means} {spelling = spelling} same alike one other more most so also e =
    let spelled : spelling one ≡ spelling other = alike (spelling one) (spelling other) more most tt tt e in
    let both : Some one ≡ Some other = sym (same.back one so) ∙ ap means spelled ∙ same.back other also in
    cc

-- ---- blocks

-- A number, and what comes after it.
pub then_number : {B P : Type 0} {size : ℕ} {next : ℕ → Reader B} {value : P → ℕ} {fields : P → List Field} {holds : P → Type 0} {follows : List ℕ → Type 0}
    → ((x : ℕ) → ExactFaults (next x) fields (λ parts. (value parts ≡ x) × holds parts) follows)
    → ExactFaults (number size >>= next) (λ parts. Number size (value parts) ∷ fields parts) holds follows
then_number {size = size} {value = value} later = then_part value (number_exact size) (value_faults (number_exact size) (number_start size) 0 tt) (λ one other more most so also e. cc) (λ parts holds. tt) (λ x known. later x)

-- A length with the octets that it counts, and what comes after it.
pub then_counted : {B P : Type 0} {size : ℕ} {next : List ℕ → Reader B} {value : P → List ℕ} {fields : P → List Field} {holds : P → Type 0} {follows : List ℕ → Type 0}
    → ((x : List ℕ) → ExactFaults (next x) fields (λ parts. (value parts ≡ x) × holds parts) follows)
    → ExactFaults (counted size >>= next) (λ parts. Counted size (value parts) ∷ fields parts) holds follows
then_counted {size = size} {value = value} later = then_part value (counted_exact size) (value_faults (counted_exact size) (counted_start size) [] tt) (λ one other more most so also e. cc) (λ parts holds. tt) (λ x known. later x)

-- A field that has to mean something, and what comes after it; `some` is one meaning.
pub then_meaning : {A B V P : Type 0} {reader : Reader A} {means : A → Option V} {next : V → Reader B} {field : A → Field} {spelling : V → A} {holds_value : V → Type 0} {fields : P → List Field} {holds : P → Type 0} {follows : List ℕ → Type 0}
    (value : P → V) → Exact reader (λ x. x) (λ x. field x ∷ []) (λ x. Unit {0}) Anything → FaultsAtStart reader → Alike (λ (x : A). field x ∷ []) (λ x. Unit {0}) → Means means spelling holds_value
    → (some : V) → holds_value some → ((parts : P) → holds parts → holds_value (value parts))
    → ((x : V) → holds_value x → ExactFaults (next x) fields (λ parts. (value parts ≡ x) × holds parts) follows)
    → ExactFaults (meaning means reader >>= next) (λ parts. field (spelling (value parts)) ∷ fields parts) holds follows
then_meaning {means = means} value exact start alike same some so implies later =
    then_part value (meaning_exact exact same) (value_faults (meaning_exact exact same) (meaning_start means start) some so) (alike_meaning same alike) implies later

-- Octets that may be any, and what comes after them.
pub then_reserved : {B P : Type 0} {size : ℕ} {next : List ℕ → Reader B} {fields : P → List Field} {holds : P → Type 0} {follows : List ℕ → Type 0}
    → ((x : List ℕ) → ExactFaults (next x) fields holds follows)
    → ExactFaults (octets size >>= next) (λ parts. Reserved size ∷ fields parts) holds follows
then_reserved {P = P} {size = size} {next = next} {fields = fields} {holds = holds} {follows = follows} later = then_faults {firsts = λ parts. Reserved size ∷ []} {known = λ x. Unit {0}} {tells = λ x parts. Unit {0}}
    (record {
      forth = λ before read are e. let t = octets_forth size before read e in (read.0, t.0, tt, λ parts told. alone (Reserved size) read.0 t.1);
      back = λ at parts front left form holds. (front, tt, tt, octets_back size at front left (from_alone (Reserved size) front form));
      same = λ x one other this that. refl;
      told = λ x one other more most this so also e. tt;
      free = λ one other more so also e. cc;
    })
    (field_faults (octets_start size)
    (λ at parts front left form holds. ((front, behind at front left), octets_back size at front left form))
    (λ before read are e. let t = octets_forth size before read e in ((later []).some, (later []).so, (read.0, read.1.octets, t.0.octets, t.1)))
    (later []).some (later []).so)
    (λ x known. relaid {holds = holds}
    (λ firsts others b. record { value = b.value; so = (tt, b.so); split = b.split })
    (λ firsts others b. record { value = b.value; so = b.so.1; split = b.split })
    (later x))

octet_forth : (before : Rest) (read : ℕ × Rest) → AreOctets before.octets → number 1 before ≡ Ok read → Takes before (read.0 ∷ []) read.1
unfolding octets_of
octet_forth before read are e =
    let f = (number_exact 1).forth before read are e in
    let n = from_alone (Number 1 f.parts) f.front f.form in
    let small : f.parts % 256 ≡ read.0 = omega (arith, n.0, f.made) in
    let is : f.front ≡ read.0 ∷ [] = n.1 ∙ ap (λ (o : ℕ). o ∷ []) small in
    subst (λ (o : List ℕ). Takes before o read.1) is f.takes

octet_back : (at octet : ℕ) (front left : List ℕ) → front ≡ octet ∷ [] → number 1 (record { at = at; octets = front ++ left }) ≡ Ok (octet, behind at front left)
octet_back at octet front left is =
    let value : number_of (octet ∷ []) ≡ octet = omega arith in
    let read : number 1 (record { at = at; octets = (octet ∷ []) ++ left }) ≡ Ok (octet, behind at (octet ∷ []) left) =
    ap (λ (r : Result (List ℕ × Rest) ℕ). and_then r (λ spelled. done (number_of spelled))) (octets_back 1 at (octet ∷ []) left refl)
    ∙ ap (λ (n : ℕ). Ok (n, behind at (octet ∷ []) left)) value in
    subst (λ (o : List ℕ). number 1 (record { at = at; octets = o ++ left }) ≡ Ok (octet, behind at o left)) (sym is) read

-- Which bits some flags are, and which of them are set.
abbrev pub bits_of : List (ℕ × Bool) → List ℕ
bits_of [] = []
bits_of (flag ∷ flags) = flag.0 ∷ bits_of flags

abbrev pub set_of : List (ℕ × Bool) → List Bool
set_of [] = []
set_of (flag ∷ flags) = flag.1 ∷ set_of flags

-- What an octet says of the same bits is one thing.
one_thing : (x : ℕ) (one other : List (ℕ × Bool)) → bits_of one ≡ bits_of other → AreFlags x one → AreFlags x other → one ≡ other
one_thing x [] [] e this that = refl
one_thing x [] (flag ∷ flags) e this that = absurd cc
one_thing x (flag ∷ flags) [] e this that = absurd cc
one_thing x (flag ∷ flags) (second ∷ others) e this that =
    let bit : flag.0 ≡ second.0 = cc in
    let bits : bits_of flags ≡ bits_of others = cc in
    let tails : flags ≡ others = one_thing x flags others bits this.1 that.1 in
    let set : flag.1 ≡ second.1 = sym this.0 ∙ ap (λ (b : ℕ). is_set x b) bit ∙ that.0 in
    let head : flag ≡ second = ap (λ (b : ℕ). (b, flag.1)) bit ∙ ap (λ (s : Bool). (second.0, s)) set in
    cc

-- An octet of flags, and what comes after it; the bits of the flags are the same of all parts.
pub then_flags : {B P : Type 0} {next : ℕ → Reader B} {flags : P → List (ℕ × Bool)} {fields : P → List Field} {holds : P → Type 0} {follows : List ℕ → Type 0}
    → ((one other : P) → bits_of (flags one) ≡ bits_of (flags other))
    → ((x : ℕ) → ExactFaults (next x) fields (λ parts. AreFlags x (flags parts) × holds parts) follows)
    → ExactFaults (number 1 >>= next) (λ parts. Flags (flags parts) ∷ fields parts) holds follows
then_flags {P = P} {flags = flags} {fields = fields} {holds = holds} bits later = then_faults {firsts = λ parts. Flags (flags parts) ∷ []} {known = λ x. Unit {0}} {tells = λ x parts. AreFlags x (flags parts)}
    (record {
      forth = λ before read are e.
          let o = octet_forth before read are e in
          (read.0 ∷ [], o, tt, λ parts told. alone (Flags (flags parts)) (read.0 ∷ []) (read.0, refl, told));
      back = λ at parts front left form holds.
          let f = from_alone (Flags (flags parts)) front form in
          (f.0, tt, f.2, octet_back at f.0 front left f.1);
      same = λ x one other this that. ap (λ (l : List (ℕ × Bool)). Flags l ∷ []) (one_thing x (flags one) (flags other) (bits one other) this that);
      told = λ x one other more most this so also e.
          let is : flags one ≡ flags other = cc in
          subst (λ (l : List (ℕ × Bool)). AreFlags x l) is this;
      free = λ one other more so also e. cc;
    })
    (field_faults (number_start 1)
    (λ at parts front left form holds. ((form.0, behind at front left), octet_back at form.0 front left form.1))
    (λ before read are e.
    let o = octet_forth before read are e in
    let l = later read.0 in
    (l.some, l.so.1, (read.0 ∷ [], read.1.octets, o.octets, (read.0, refl, l.so.0))))
    (later 0).some (later 0).so.1)
    (λ x known. later x)

-- ---- many values

-- Values one after another, of which each is alike, are alike.
pub alike_lists : {A : Type 0} (firsts : A → List Field) {holds : A → Type 0} → Alike firsts holds → (xs ys : List A) (more most : List Field) → length xs ≡ length ys → AllByRecursion holds xs → AllByRecursion holds ys
    → flat_map firsts xs ++ more ≡ flat_map firsts ys ++ most → xs ≡ ys
alike_lists firsts alike [] [] more most len so also e = refl
alike_lists firsts alike [] (y ∷ ys) more most len so also e = absurd (omega (arith, len))
alike_lists firsts alike (x ∷ xs) [] more most len so also e = absurd (omega (arith, len))
alike_lists {A = A} firsts alike (x ∷ xs) (y ∷ ys) more most len so also e =
    let regrouped : firsts x ++ (flat_map firsts xs ++ more) ≡ firsts y ++ (flat_map firsts ys ++ most) = sym (append_assoc (firsts x) (flat_map firsts xs) more) ∙ e ∙ append_assoc (firsts y) (flat_map firsts ys) most in
    let heads : x ≡ y = alike x y (flat_map firsts xs ++ more) (flat_map firsts ys ++ most) so.0 also.0 regrouped in
    let rest : firsts x ++ (flat_map firsts xs ++ more) ≡ firsts x ++ (flat_map firsts ys ++ most) = regrouped ∙ ap (λ (v : A). firsts v ++ (flat_map firsts ys ++ most)) (sym heads) in
    let tails : xs ≡ ys = alike_lists firsts alike xs ys more most (omega (arith, len)) so.1 also.1 (append_cancel_left (firsts x) (flat_map firsts xs ++ more) (flat_map firsts ys ++ most) rest) in
    cc

pub several_alike : {A : Type 0} (firsts : A → List Field) {holds : A → Type 0} → Alike firsts holds → (count : ℕ) → Alike (λ (values : List A). flat_map firsts values) (λ values. (length values ≡ count) × AllByRecursion holds values)
several_alike firsts alike count one other more most so also e = alike_lists firsts alike one other more most (so.0 ∙ sym also.0) so.1 also.1 e

-- That many values, one after another.
pub several_faults : {A : Type 0} {value : Reader A} {firsts : A → List Field} {holds : A → Type 0} → Exact value (λ x. x) firsts holds Anything → ExactFaults value firsts holds Anything → Alike firsts holds → (count : ℕ)
    → ExactFaults (several count value) (λ values. flat_map firsts values) (λ values. (length values ≡ count) × AllByRecursion holds values) Anything
unfolding several
several_faults {A = A} {firsts = firsts} {holds = holds} exact faults alike zero = record {
  some = [];
  so = (refl, tt);
  forth = λ before place are e. absurd cc;
  back = λ before place are s. absurd (nothing_stops s.some.value s.firsts s.others s.some.so.0 s.some.split (λ split. s.none [] (record { value = s.some.value; so = s.some.so; split = split }) tt));
}
  where
    nothing_stops : (values : List A) (fronts others : List Field) → length values ≡ 0 → flat_map firsts values ≡ fronts ++ others → (flat_map firsts values ≡ fronts ++ [] → ⊥) → ⊥
    nothing_stops [] [] others len e none = none refl
    nothing_stops [] (x ∷ fronts) others len e none = absurd cc
    nothing_stops (v ∷ values) fronts others len e none = absurd (omega (arith, len))
several_faults {A = A} {value = value} {firsts = firsts} {holds = holds} exact faults alike (suc count) =
    let others = several_faults exact faults alike count in
    relaid {P = A × List A} {fields = λ p. firsts p.0 ++ flat_map firsts p.1} {holds = λ p. holds p.0 × ((length p.1 ≡ count) × AllByRecursion holds p.1)}
    (λ fronts rest b. record { value = b.value.0 ∷ b.value.1; so = (omega (arith, b.so.1.0), (b.so.0, b.so.1.1)); split = b.split })
    (λ fronts rest b. parted b.value fronts rest b.so b.split)
    (then_part {P = A × List A} (λ p. p.0) exact faults alike (λ p h. h.0)
    (λ x known. mapped (λ (xs : List A). x ∷ xs) (of_part {P = A × List A} (λ p. p.1) (λ p h. h.1.1) (λ xs h. ((x, xs), refl, (refl, (known, h)))) others)))
  where
    parted : (values : List A) (fronts rest : List Field) → (length values ≡ suc count) × AllByRecursion holds values → flat_map firsts values ≡ fronts ++ rest
        → HasFields {V = A × List A} (λ p. firsts p.0 ++ flat_map firsts p.1) (λ p. holds p.0 × ((length p.1 ≡ count) × AllByRecursion holds p.1)) fronts rest
    parted [] fronts rest so split = absurd (omega (arith, so.0))
    parted (x ∷ xs) fronts rest so split = record { value = (x, xs); so = (so.1.0, (omega (arith, so.0), so.1.1)); split = split }

-- Values one after another at the end of a layout.
pub last_several : {A B P : Type 0} {value : Reader A} {count : ℕ} {next : List A → Reader B} {firsts : A → List Field} {holds_each : A → Type 0} {holds : P → Type 0} {follows : List ℕ → Type 0}
    (values : P → List A) → Exact value (λ x. x) firsts holds_each Anything → ExactFaults value firsts holds_each Anything → Alike firsts holds_each
    → ((parts : P) → holds parts → (length (values parts) ≡ count) × AllByRecursion holds_each (values parts))
    → ((xs : List A) → (length xs ≡ count) × AllByRecursion holds_each xs → ExactFaults (next xs) (λ parts. []) (λ parts. (values parts ≡ xs) × holds parts) follows)
    → ExactFaults (several count value >>= next) (λ parts. flat_map firsts (values parts)) holds follows
last_several {count = count} {firsts = firsts} values exact faults alike implies later = last_part values (several_exact exact count) (several_faults exact faults alike count) (several_alike firsts alike count) implies later

-- ---- last lines

-- Where no field is left, `follows` says whether there is a stop.
stops_at_end : {P : Type 0} {holds : P → Type 0} {follows : List ℕ → Type 0} (before : Rest) (place : ℕ) → Stops {V = P} (λ parts. []) holds follows before.at before.octets place → (place ≡ before.at) × (follows before.octets → ⊥)
stops_at_end {follows = follows} before place s =
    let none : s.firsts ≡ [] = front_of_none s.firsts s.others (sym s.some.split) in
    let empty : s.front ≡ [] = subst (λ (l : List Field). Form l s.front) none s.form in (
      omega (arith, s.stands, ap (λ (o : List ℕ). length o) empty),
      λ f. s.none [] (record { value = s.some.value; so = s.some.so; split = ap (λ (l : List Field). l ++ []) (sym none) }) (subst follows (s.joined ∙ ap (λ (o : List ℕ). o ++ s.left) empty) f),
    )

-- The last line of a block: the value.
pub gives : {B P : Type 0} {holds : P → Type 0} (value : B) (parts : P) → holds parts → ExactFaults (done value) (λ parts. []) holds Anything
gives value parts so = record {
  some = parts;
  so = so;
  forth = λ before place are e. absurd cc;
  back = λ before place are s. absurd ((stops_at_end before place s).1 tt);
}

-- A test for the end that failed.
end_err : {A : Type 0} (b : Bool) (place fault : ℕ) (x : A) → cond b (Ok x) (Err place) ≡ Err fault → (b ≡ false) × (fault ≡ place)
end_err true place fault x e = absurd cc
end_err false place fault x e = (refl, cc)

-- The last line of a block after which nothing is left.
pub ends : {B P : Type 0} {holds : P → Type 0} (value : B) (parts : P) → holds parts → ExactFaults (at_end value) (λ parts. []) holds Nothing
ends value parts so = record {
  some = parts;
  so = so;
  forth = λ before place are e.
      let g = end_err (eqb (length before.octets) 0) before.at place (value, before) e in
      record {
        firsts = [];
        others = [];
        some = record { value = parts; so = so; split = refl };
        front = [];
        left = before.octets;
        joined = refl;
        form = refl;
        stands = omega (arith, g.1);
        none = λ others b goes. eqb-false (length before.octets) 0 g.0 (ap (λ (o : List ℕ). length o) (subst (λ (l : List Field). GoesOn Nothing l before.octets) (sym b.split) goes));
      };
  back = λ before place are s.
      let e = stops_at_end before place s in
      rw (ne_eqb (length before.octets) 0 (λ none. e.1 (nil_from_length before.octets none))) (ap (λ (k : ℕ). Err k) (sym e.0));
}
