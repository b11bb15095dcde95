-- The first fault of octets, over values of which each has a layout (Layout.antt): the place at
-- which they go on as no value does. Here `fields` are the fields of a value, and `holds` is so of
-- the values that there are.
use Rattle.std.specs.Prelude.{◌≡◌, ◌↔◌, ◌⊎◌, ◌+◌, ℕ, List, [], ◌∷◌, ◌++◌, Result, Ok, Err, length}
use Rattle.wire_base.specs.Layout.{AreOctets, Field, FieldForm, Form}
use Rattle.wire_base.specs.Reading.{Reader, whole}
use Rattle.wire_base.specs.declared.layout.field_refused.FieldRefused.{FieldRefused}
use Rattle.wire_base.specs.declared.layout.field_refused.FieldRefused.TheVariants as refused

-- ---- the definition

-- A value that has these fields first, and then the others.
pub record HasFields {V : Type 0} (fields : V → List Field) (holds : V → Type 0) (firsts others : List Field) : Type 0 where
  pub value : V
  pub so : holds value
  pub split : fields value ≡ firsts ++ others

-- What is left of the octets goes on with the first of the fields that are still to come; where
-- none is, `follows` is so of what is left.
abbrev pub GoesOn : (List ℕ → Type 0) → List Field → List ℕ → Type 0
GoesOn follows [] left = follows left
GoesOn follows (field ∷ others) left = (front : List ℕ) × (rest : List ℕ) × (left ≡ front ++ rest) × FieldForm field front

-- Octets, of which the first stands at `base`, stop at the place. Those before it are the first
-- fields of some value, and what is left there goes on as no value does that has these fields
-- first.
pub record Stops {V : Type 0} (fields : V → List Field) (holds : V → Type 0) (follows : List ℕ → Type 0) (base : ℕ) (octets : List ℕ) (place : ℕ) : Type 0 where
  pub firsts : List Field
  pub others : List Field
  pub some : HasFields fields holds firsts others
  pub front : List ℕ
  pub left : List ℕ
  pub joined : octets ≡ front ++ left
  pub form : Form firsts front
  pub stands : place ≡ base + length front
  pub none : (others : List Field) → HasFields fields holds firsts others → GoesOn follows others left → ⊥

-- The first fault of octets that are to be one value and nothing else: after its last field
-- nothing is left.
abbrev pub FirstFault : {V : Type 0} → (V → List Field) → (V → Type 0) → ℕ → List ℕ → ℕ → Type 0
FirstFault fields holds base octets place = Stops fields holds (λ left. left ≡ []) base octets place

-- Where a call answers a fault, this is so of its place.
abbrev pub OnFault : {V : Type 0} → Result V FieldRefused → (ℕ → Type 0) → Type 0
OnFault (Err (refused.Fault place)) holds = holds place
OnFault answer holds = Unit {0}

-- ---- what laws say of a reader, of the form of values, and of faults

-- A value is read of octets exactly where they have its form.
abbrev pub ReadsForm : {V : Type 0} → Reader V → (V → List ℕ → Type 0) → Type 0
ReadsForm {V} reader form = (base : ℕ) (octets : List ℕ) (value : V) → AreOctets octets → (whole reader base octets ≡ Ok value) ↔ form value octets

-- A fault is read of octets, of which the first stands at `base`, exactly where it is theirs.
abbrev pub ReadsFault : {V : Type 0} → Reader V → (ℕ → List ℕ → ℕ → Type 0) → Type 0
ReadsFault reader fault = (base : ℕ) (octets : List ℕ) (place : ℕ) → AreOctets octets → (whole reader base octets ≡ Err place) ↔ fault base octets place

-- Exactly one of the two: a form of one value alone, or a fault at one place alone.
pub record OneOfTwo {V : Type 0} (form : V → Type 0) (fault : ℕ → Type 0) : Type 0 where
  pub one_value : (one other : V) → form one → form other → one ≡ other
  pub one_fault : (one other : ℕ) → fault one → fault other → one ≡ other
  pub not_both : (value : V) (place : ℕ) → form value → fault place → ⊥
  pub not_neither : ((value : V) × form value) ⊎ ((place : ℕ) × fault place)

-- Octets have one of the two.
abbrev pub FormOrFault : {V : Type 0} → (V → List ℕ → Type 0) → (ℕ → List ℕ → ℕ → Type 0) → Type 0
FormOrFault form fault = (base : ℕ) (octets : List ℕ) → AreOctets octets → OneOfTwo (λ value. form value octets) (λ place. fault base octets place)

-- No form of a value is a prefix of another one.
abbrev pub NoneIsAFront : {V : Type 0} → (V → List ℕ → Type 0) → Type 0
NoneIsAFront {V} form = (one other : V) (octets more : List ℕ) → AreOctets (octets ++ more) → form one octets → form other (octets ++ more) → (one ≡ other) × (more ≡ [])
