-- Readers that say a fault exactly where octets stop (FirstFault.antt): what is left at its place
-- goes on as no value does. `ExactFaults` is to faults what `Exact` is to values, and a law of it
-- is written like the block, as there.
use Rattle.std.proofs.Common.{◌≡◌, ℕ, ◌+◌, List, [], ◌∷◌, ◌++◌, ◌⊎◌, inl, inr, length, Result, Ok, Err, refl, sym, ap, subst, ◌∙◌, append_assoc, arith, length-append}
use Rattle.std.proofs.lemmas.List.{append-nil, append_cancel_left, nil_from_length}
use Rattle.wire_base.specs.FirstFault.{HasFields, GoesOn, Stops}
use Rattle.wire_base.specs.Layout.{AreOctets, Field, Form}
use Rattle.wire_base.specs.Reading.{Reader, Rest, ◌>>=◌, and_then, done}
use Rattle.wire_base.proofs.Exact.{Exact, Anything, Takes, behind, Form-append, Form-split}
use Rattle.wire_base.proofs.Spelled.{AreOctets-rest}

-- There are parts of which `holds` is so, and a reader says a fault exactly where none goes on.
pub record ExactFaults {P B : Type 0} (reader : Reader B) (fields : P → List Field) (holds : P → Type 0) (follows : List ℕ → Type 0) : Type 0 where
  pub some : P
  pub so : holds some
  pub forth : (before : Rest) (place : ℕ) → AreOctets before.octets → reader before ≡ Err place → Stops fields holds follows before.at before.octets place
  pub back : (before : Rest) (place : ℕ) → AreOctets before.octets → Stops fields holds follows before.at before.octets place → reader before ≡ Err place

-- ---- other parts of the same fields

relaid_stop : {P Q : Type 0} {fields : P → List Field} {holds : P → Type 0} {layout : Q → List Field} {so : Q → Type 0} {follows : List ℕ → Type 0}
    → ((firsts others : List Field) → HasFields fields holds firsts others → HasFields layout so firsts others)
    → ((firsts others : List Field) → HasFields layout so firsts others → HasFields fields holds firsts others)
    → (before : Rest) (place : ℕ) → Stops fields holds follows before.at before.octets place → Stops layout so follows before.at before.octets place
relaid_stop to from before place s = record {
  firsts = s.firsts;
  others = s.others;
  some = to s.firsts s.others s.some;
  front = s.front;
  left = s.left;
  joined = s.joined;
  form = s.form;
  stands = s.stands;
  none = λ others begin goes. s.none others (from s.firsts others begin) goes;
}

-- Where parts of one kind and of another have the same fields, a reader's faults are those of both.
pub relaid : {P Q B : Type 0} {reader : Reader B} {fields : P → List Field} {holds : P → Type 0} {layout : Q → List Field} {so : Q → Type 0} {follows : List ℕ → Type 0}
    → ((firsts others : List Field) → HasFields fields holds firsts others → HasFields layout so firsts others)
    → ((firsts others : List Field) → HasFields layout so firsts others → HasFields fields holds firsts others)
    → ExactFaults reader fields holds follows → ExactFaults reader layout so follows
relaid {fields = fields} to from faults =
    let some = to [] (fields faults.some) (record { value = faults.some; so = faults.so; split = refl }) in
    record {
      some = some.value;
      so = some.so;
      forth = λ before place are e. relaid_stop to from before place (faults.forth before place are e);
      back = λ before place are stops. faults.back before place are (relaid_stop from to before place stops);
    }

-- The fields of a part, as those of a value that has it.
pub of_part : {A B P : Type 0} {reader : Reader B} {firsts : A → List Field} {holds_part : A → Type 0} {holds : P → Type 0} {follows : List ℕ → Type 0}
    (part : P → A) → ((parts : P) → holds parts → holds_part (part parts)) → ((x : A) → holds_part x → (parts : P) × (part parts ≡ x) × holds parts)
    → ExactFaults reader firsts holds_part follows → ExactFaults reader (λ parts. firsts (part parts)) holds follows
of_part {firsts = firsts} part implies some faults = relaid
    (λ fronts others b. let w = some b.value b.so in record { value = w.0; so = w.2; split = ap firsts w.1 ∙ b.split })
    (λ fronts others b. record { value = part b.value; so = implies b.value b.so; split = b.split })
    faults

-- ---- one reader after another

-- The step of a block that has its fault.
pub bind_err : {A B : Type 0} (read : Result (A × Rest) ℕ) (next : A → Reader B) (place : ℕ) → and_then read next ≡ Err place → (read ≡ Err place) ⊎ ((x : A × Rest) × (read ≡ Ok x) × (next x.0 x.1 ≡ Err place))
bind_err (Ok x) next place e = inr (x, refl, e)
bind_err (Err fault) next place e = inl cc

-- What comes after a reader that only makes another value of the one that was read.
pub mapped : {A B P : Type 0} {reader : Reader A} {fields : P → List Field} {holds : P → Type 0} {follows : List ℕ → Type 0} (make : A → B)
    → ExactFaults reader fields holds follows → ExactFaults (reader >>= λ x. done (make x)) fields holds follows
mapped {reader = reader} make faults = record {
  some = faults.some;
  so = faults.so;
  forth = λ before place are e. elim (bind_err (reader before) (λ x. done (make x)) place e) [
    | inl fault ↦ faults.forth before place are fault
    | inr read ↦ absurd cc
  ];
  back = λ before place are stops. ap (λ (r : Result _ ℕ). and_then r (λ x. done (make x))) (faults.back before place are stops);
}

-- Two lists that are one are split at one place, or the one after the other.
split_append : (a b c d : List Field) → a ++ b ≡ c ++ d
    → ((x : Field) × (m : List Field) × (a ≡ c ++ x ∷ m) × (d ≡ (x ∷ m) ++ b)) ⊎ ((m : List Field) × (c ≡ a ++ m) × (b ≡ m ++ d))
split_append [] b c d e = inr (c, refl, e)
split_append (x ∷ a) b [] d e = inl (x, a, refl, sym e)
split_append (x ∷ a) b (y ∷ c) d e =
    let heads : x ≡ y = cc in
    let tails : a ++ b ≡ c ++ d = cc in
    elim (split_append a b c d tails) [
      | inl s ↦ inl (s.0, s.1, cc (heads, s.2), s.3)
      | inr s ↦ inr (s.0, cc (heads, s.1), s.2)
    ]

-- Nothing stands after a list that is the list.
pub none_behind : (a m : List Field) → a ≡ a ++ m → m ≡ []
none_behind a m e = nil_from_length m (omega (arith, ap (λ (l : List Field). length l) e, length-append a m))

-- The prefix of nothing is nothing.
pub front_of_none : (a b : List Field) → a ++ b ≡ [] → a ≡ []
front_of_none a b e = nil_from_length a (omega (arith, ap (λ (l : List Field). length l) e, length-append a b))

-- A reader of the first fields of the parts. What it gave, `tells` ties to them: the fields of all
-- parts of which it is reported are the same, and parts that begin with these fields are such.
pub record Part {A P : Type 0} (reader : Reader A) (firsts : P → List Field) (holds : P → Type 0) (known : A → Type 0) (tells : A → P → Type 0) : Type 0 where
  pub forth : (before : Rest) (read : A × Rest) → AreOctets before.octets → reader before ≡ Ok read
      → (front : List ℕ) × Takes before front read.1 × known read.0 × ((parts : P) → tells read.0 parts → Form (firsts parts) front)
  pub back : (at : ℕ) (parts : P) (front left : List ℕ) → Form (firsts parts) front → holds parts
      → (x : A) × known x × tells x parts × (reader (record { at = at; octets = front ++ left }) ≡ Ok (x, behind at front left))
  pub same : (x : A) (one other : P) → tells x one → tells x other → firsts one ≡ firsts other
  pub told : (x : A) (one other : P) (more most : List Field) → tells x one → holds one → holds other → firsts other ++ more ≡ firsts one ++ most → tells x other
  pub free : (one other : P) (more : List Field) → holds one → holds other → firsts one ≡ firsts other ++ more → more ≡ []

-- A fault in the first fields.
module _ {P : Type 0} (firsts fields : P → List Field) (holds : P → Type 0) (follows : List ℕ → Type 0)
    (free : (one other : P) (more : List Field) → holds one → holds other → firsts one ≡ firsts other ++ more → more ≡ []) (before : Rest) (place : ℕ) where
  no_first : (m behind_it : List Field) (left : List ℕ) → GoesOn follows (m ++ behind_it) left → GoesOn Anything m left
  no_first [] behind_it left goes = tt
  no_first (field ∷ m) behind_it left goes = goes

  none_in_first : (s : Stops firsts holds Anything before.at before.octets place) (others : List Field) → HasFields (λ parts. firsts parts ++ fields parts) holds s.firsts others → GoesOn follows others s.left → ⊥
  none_in_first s others b goes = elim (split_append (firsts b.value) (fields b.value) s.firsts others b.split) [
    | inl m ↦ s.none (m.0 ∷ m.1) (record { value = b.value; so = b.so; split = m.2 }) (no_first (m.0 ∷ m.1) (fields b.value) s.left (subst (λ (l : List Field). GoesOn follows l s.left) m.3 goes))
    | inr m ↦
        let e : firsts s.some.value ≡ firsts b.value ++ (m.0 ++ s.others) = s.some.split ∙ ap (λ (l : List Field). l ++ s.others) m.1 ∙ append_assoc (firsts b.value) m.0 s.others in
        let nothing : m.0 ≡ [] = front_of_none m.0 s.others (free s.some.value b.value (m.0 ++ s.others) s.some.so b.so e) in
        let all : s.firsts ≡ firsts b.value = m.1 ∙ ap (λ (l : List Field). firsts b.value ++ l) nothing ∙ append-nil (firsts b.value) in
        s.none [] (record { value = b.value; so = b.so; split = sym (append-nil s.firsts ∙ all) }) tt
  ]

  in_first : Stops firsts holds Anything before.at before.octets place → Stops (λ parts. firsts parts ++ fields parts) holds follows before.at before.octets place
  in_first s = record {
    firsts = s.firsts;
    others = s.others ++ fields s.some.value;
    some = record { value = s.some.value; so = s.some.so; split = ap (λ (l : List Field). l ++ fields s.some.value) s.some.split ∙ append_assoc s.firsts s.others (fields s.some.value) };
    front = s.front;
    left = s.left;
    joined = s.joined;
    form = s.form;
    stands = s.stands;
    none = λ others b goes. none_in_first s others b goes;
  }

  -- The other way, where the fields before are not all of the first ones.
  none_from_first : (p : P) (x : Field) (m fronts : List Field) (left : List ℕ) → holds p → firsts p ≡ fronts ++ x ∷ m
      → ((others : List Field) → HasFields (λ parts. firsts parts ++ fields parts) holds fronts others → GoesOn follows others left → ⊥)
      → (others : List Field) → HasFields firsts holds fronts others → GoesOn Anything others left → ⊥
  none_from_first p x m fronts left so part none [] b goes =
      let all : firsts b.value ≡ fronts = b.split ∙ append-nil fronts in
      let e : firsts p ≡ firsts b.value ++ x ∷ m = part ∙ ap (λ (l : List Field). l ++ x ∷ m) (sym all) in
      let nothing : x ∷ m ≡ [] = free p b.value (x ∷ m) so b.so e in
      absurd cc
  none_from_first p x m fronts left so part none (field ∷ others) b goes =
      none ((field ∷ others) ++ fields b.value) (record { value = b.value; so = b.so; split = ap (λ (l : List Field). l ++ fields b.value) b.split ∙ append_assoc fronts (field ∷ others) (fields b.value) }) goes

-- A reader and what comes after it, where the reader has fields of its own.
pub then_faults : {A B P : Type 0} {reader : Reader A} {next : A → Reader B} {firsts fields : P → List Field} {holds : P → Type 0} {follows : List ℕ → Type 0} {known : A → Type 0} {tells : A → P → Type 0}
    → Part reader firsts holds known tells → ExactFaults reader firsts holds Anything
    → ((x : A) → known x → ExactFaults (next x) fields (λ parts. tells x parts × holds parts) follows)
    → ExactFaults (reader >>= next) (λ parts. firsts parts ++ fields parts) holds follows
then_faults {A = A} {B = B} {P = P} {reader = reader} {next = next} {firsts = firsts} {fields = fields} {holds = holds} {follows = follows} {known = known} {tells = tells} part first later = record {
  some = first.some;
  so = first.so;
  forth = λ before place are e. elim (bind_err (reader before) next place e) [
    | inl fault ↦ in_first firsts fields holds follows part.free before place (first.forth before place are fault)
    | inr read ↦
        let f = part.forth before read.0 are read.1 in
        let s = (later read.0.0 f.2).forth read.0.1 place (AreOctets-rest before.octets f.0 read.0.1.octets f.1.octets are) read.2 in
        behind_first before place read.0 f.0 f.1 f.3 s
  ];
  back = λ before place are s. elim (split_append (firsts s.some.value) (fields s.some.value) s.firsts s.others s.some.split) [
    | inl m ↦
        let fault : reader before ≡ Err place = first.back before place are (record {
          firsts = s.firsts;
          others = m.0 ∷ m.1;
          some = record { value = s.some.value; so = s.some.so; split = m.2 };
          front = s.front;
          left = s.left;
          joined = s.joined;
          form = s.form;
          stands = s.stands;
          none = none_from_first firsts fields holds follows part.free before place s.some.value m.0 m.1 s.firsts s.left s.some.so m.2 s.none;
        }) in
        ap (λ (r : Result (A × Rest) ℕ). and_then r next) fault
    | inr m ↦ from_behind before place are s m.0 m.1 m.2
  ];
}
  where
    -- A fault after the first fields.
    behind_first : (before : Rest) (place : ℕ) (read : A × Rest) (front : List ℕ) → Takes before front read.1 → ((parts : P) → tells read.0 parts → Form (firsts parts) front)
        → Stops fields (λ parts. tells read.0 parts × holds parts) follows read.1.at read.1.octets place → Stops (λ parts. firsts parts ++ fields parts) holds follows before.at before.octets place
    behind_first before place read front takes forms s =
        let p : P = s.some.value in
        record {
          firsts = firsts p ++ s.firsts;
          others = s.others;
          some = record { value = p; so = s.some.so.1; split = ap (λ (l : List Field). firsts p ++ l) s.some.split ∙ sym (append_assoc (firsts p) s.firsts s.others) };
          front = front ++ s.front;
          left = s.left;
          joined = takes.octets ∙ ap (λ (o : List ℕ). front ++ o) s.joined ∙ sym (append_assoc front s.front s.left);
          form = Form-append (firsts p) s.firsts front s.front (forms p s.some.so.0) s.form;
          stands = omega (arith, s.stands, takes.at, length-append front s.front);
          none = λ others b goes.
              let e : firsts b.value ++ fields b.value ≡ firsts p ++ (s.firsts ++ others) = b.split ∙ append_assoc (firsts p) s.firsts others in
              let t : tells read.0 b.value = part.told read.0 p b.value (fields b.value) (s.firsts ++ others) s.some.so.0 s.some.so.1 b.so e in
              let both : firsts p ++ fields b.value ≡ firsts p ++ (s.firsts ++ others) = ap (λ (l : List Field). l ++ fields b.value) (part.same read.0 p b.value s.some.so.0 t) ∙ e in
              s.none others (record { value = b.value; so = (t, b.so); split = append_cancel_left (firsts p) (fields b.value) (s.firsts ++ others) both }) goes;
        }

    -- The other way.
    from_behind : (before : Rest) (place : ℕ) → AreOctets before.octets → (s : Stops (λ parts. firsts parts ++ fields parts) holds follows before.at before.octets place) (m : List Field)
        → s.firsts ≡ firsts s.some.value ++ m → fields s.some.value ≡ m ++ s.others → (reader >>= next) before ≡ Err place
    from_behind before place are s m fronts rest =
        let p : P = s.some.value in
        let f = Form-split (firsts p) m s.front (subst (λ (l : List Field). Form l s.front) fronts s.form) in
        let joined : before.octets ≡ f.0 ++ (f.1 ++ s.left) = s.joined ∙ ap (λ (o : List ℕ). o ++ s.left) f.2 ∙ append_assoc f.0 f.1 s.left in
        let b = part.back before.at p f.0 (f.1 ++ s.left) f.3 s.some.so in
        let stop : Stops fields (λ parts. tells b.0 parts × holds parts) follows (before.at + length f.0) (f.1 ++ s.left) place = record {
          firsts = m;
          others = s.others;
          some = record { value = p; so = (b.2, s.some.so); split = rest };
          front = f.1;
          left = s.left;
          joined = refl;
          form = f.4;
          stands = omega (arith, s.stands, ap (λ (o : List ℕ). length o) f.2, length-append f.0 f.1);
          none = λ others c goes.
              let alike : firsts c.value ≡ firsts p = part.same b.0 c.value p c.so.0 b.2 in
              let split : firsts c.value ++ fields c.value ≡ s.firsts ++ others =
              ap (λ (l : List Field). l ++ fields c.value) alike ∙ ap (λ (l : List Field). firsts p ++ l) c.split ∙ sym (append_assoc (firsts p) m others) ∙ ap (λ (l : List Field). l ++ others) (sym fronts) in
              s.none others (record { value = c.value; so = c.so.1; split = split }) goes;
        } in
        ap (λ (o : List ℕ). (reader >>= next) (record { at = before.at; octets = o })) joined
        ∙ ap (λ (r : Result (A × Rest) ℕ). and_then r next) b.3
        ∙ (later b.0 b.1).back (behind before.at f.0 (f.1 ++ s.left)) place (AreOctets-rest before.octets f.0 (f.1 ++ s.left) joined are) stop

-- ---- a part with fields of its own

-- Fields report the value: where one list begins with those of one value and with those of another,
-- the two are one.
abbrev pub Alike : {A : Type 0} → (A → List Field) → (A → Type 0) → Type 0
Alike {A} firsts holds = (one other : A) (more most : List Field) → holds one → holds other → firsts one ++ more ≡ firsts other ++ most → one ≡ other

value_part : {A P : Type 0} {reader : Reader A} {firsts : A → List Field} {holds_part : A → Type 0} {holds : P → Type 0}
    (part : P → A) → Exact reader (λ x. x) firsts holds_part Anything → Alike firsts holds_part → ((parts : P) → holds parts → holds_part (part parts))
    → Part reader (λ parts. firsts (part parts)) holds holds_part (λ x parts. part parts ≡ x)
value_part {A = A} {firsts = firsts} {holds_part = holds_part} part exact alike implies = record {
  forth = λ before read are e.
      let f = exact.forth before read are e in
      (f.front, f.takes, subst holds_part f.made f.holds_so, λ parts is. subst (λ (x : A). Form (firsts x) f.front) (f.made ∙ sym is) f.form);
  back = λ at parts front left form holds. (part parts, implies parts holds, refl, exact.back at (part parts) front left form (implies parts holds) tt);
  same = λ x one other this that. ap firsts (this ∙ sym that);
  told = λ x one other more most this so also e. alike (part other) (part one) more most (implies other also) (implies one so) e ∙ this;
  free = λ one other more so also e.
      let is : part one ≡ part other = alike (part one) (part other) [] more (implies one so) (implies other also) (append-nil (firsts (part one)) ∙ e) in
      none_behind (firsts (part one)) more (e ∙ ap (λ (x : A). firsts x ++ more) (sym is));
}

-- A part with a layout of its own, and what comes after it.
pub then_part : {A B P : Type 0} {reader : Reader A} {next : A → Reader B} {firsts : A → List Field} {fields : P → List Field} {holds_part : A → Type 0} {holds : P → Type 0} {follows : List ℕ → Type 0}
    (part : P → A) → Exact reader (λ x. x) firsts holds_part Anything → ExactFaults reader firsts holds_part Anything → Alike firsts holds_part → ((parts : P) → holds parts → holds_part (part parts))
    → ((x : A) → holds_part x → ExactFaults (next x) fields (λ parts. (part parts ≡ x) × holds parts) follows)
    → ExactFaults (reader >>= next) (λ parts. firsts (part parts) ++ fields parts) holds follows
then_part {firsts = firsts} part exact faults alike implies later = then_faults (value_part part exact alike implies)
    (of_part part implies (λ x so. let l = later x so in (l.some, l.so.0, l.so.1)) faults) later

-- A part with a layout of its own at the end of a layout.
pub last_part : {A B P : Type 0} {reader : Reader A} {next : A → Reader B} {firsts : A → List Field} {holds_part : A → Type 0} {holds : P → Type 0} {follows : List ℕ → Type 0}
    (part : P → A) → Exact reader (λ x. x) firsts holds_part Anything → ExactFaults reader firsts holds_part Anything → Alike firsts holds_part → ((parts : P) → holds parts → holds_part (part parts))
    → ((x : A) → holds_part x → ExactFaults (next x) (λ parts. []) (λ parts. (part parts ≡ x) × holds parts) follows)
    → ExactFaults (reader >>= next) (λ parts. firsts (part parts)) holds follows
last_part {firsts = firsts} part exact faults alike implies later = relaid
    (λ fronts others b. record { value = b.value; so = b.so; split = sym (append-nil (firsts (part b.value))) ∙ b.split })
    (λ fronts others b. record { value = b.value; so = b.so; split = append-nil (firsts (part b.value)) ∙ b.split })
    (then_part part exact faults alike implies later)
