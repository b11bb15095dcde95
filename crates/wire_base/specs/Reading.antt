-- Reading a value field by field. A reader takes the octets of its field from the start of what is
-- left, or stops at the place of the first fault. A block of readers names the fields of a layout
-- in the order of its figure.
use Rattle.std.specs.Prelude.{◌≡◌, ◌==◌, ◌+◌, ℕ, zero, suc, List, [], ◌∷◌, Bool, Option, Some, None, Result, Ok, Err, length, take, drop, nat_lt, if◌then◌else◌}
use Rattle.wire_base.specs.declared.layout.placed.Placed.{Placed}
use Rattle.wire_base.specs.declared.layout.field_refused.FieldRefused.{FieldRefused}
use Rattle.wire_base.specs.declared.layout.field_refused.FieldRefused.TheVariants as refused
use Rattle.wire_base.specs.Numbers.{number_of}

-- What is left to be read, and the place at which it stands.
pub record Rest : Type 0 where
  pub at : ℕ
  pub octets : List ℕ

-- A reader gives its value and what is left after it, or the place of the first fault.
abbrev pub Reader : Type 0 → Type 0
Reader A = Rest → Result (A × Rest) ℕ

-- What comes after a field: another reader, unless the field had a fault.
abbrev pub and_then : {A B : Type 0} → Result (A × Rest) ℕ → (A → Reader B) → Result (B × Rest) ℕ
and_then (Ok read) next = next read.0 read.1
and_then (Err place) next = Err place

infixl 10 ◌>>=◌
abbrev pub ◌>>=◌ : {A B : Type 0} → Reader A → (A → Reader B) → Reader B
(field >>= next) rest = and_then (field rest) next

-- A value that was read whole.
abbrev pub done : {A : Type 0} → A → Reader A
done value rest = Ok (value, rest)

-- That many octets. Where they do not fit, the fault is at the first of them.
abbrev pub octets : ℕ → Reader (List ℕ)
octets count rest = if nat_lt (length rest.octets) count then Err rest.at else Ok (take count rest.octets, record { at = rest.at + count; octets = drop count rest.octets })

-- All octets that are left.
abbrev pub remaining : Reader (List ℕ)
remaining rest = octets (length rest.octets) rest

-- A number of that many octets.
abbrev pub number : ℕ → Reader ℕ
number size = do
  spelled ← octets size
  done (number_of spelled)

-- A field with the place of its first octet.
abbrev pub placed : {A : Type 0} → Reader A → Reader (Placed A)
placed field rest = and_then (field rest) (λ value. done (record { at = rest.at; value = value }))

-- The place of a fault is reported as this one.
abbrev pub faults_at : {A : Type 0} → ℕ → Result A ℕ → Result A ℕ
faults_at place (Ok read) = Ok read
faults_at place (Err fault) = Err place

-- A length of that many octets, and the octets that it counts. Where they do not fit, the fault is
-- at the length.
unfoldable pub counted : ℕ → Reader (List ℕ)
counted size rest = faults_at rest.at ((number size >>= octets) rest)

-- What a field means, or, where it means nothing, a fault at its first octet.
abbrev pub meant_at : {B : Type 0} → ℕ → Option B → Reader B
meant_at place (Some meaning) rest = Ok (meaning, rest)
meant_at place None rest = Err place

-- A field that has to mean something. Where it means nothing, the fault is at its first octet.
abbrev pub meaning : {A B : Type 0} → (A → Option B) → Reader A → Reader B
meaning means field rest = and_then (field rest) (λ value. meant_at rest.at (means value))

-- A value that passes a test means itself, and another one nothing.
abbrev pub if_so : {A : Type 0} → (A → Bool) → A → Option A
if_so test value = if test value then Some value else None

-- A value after which nothing is left. Octets left over are a fault at the first of them.
abbrev pub at_end : {A : Type 0} → A → Reader A
at_end value rest = if length rest.octets == 0 then Ok (value, rest) else Err rest.at

-- That many values, one after another.
unfoldable pub several : {A : Type 0} → ℕ → Reader A → Reader (List A)
several zero value = done []
several (suc count) value = do
  first ← value
  others ← several count value
  done (first ∷ others)

-- What a call gave is what a reader gives, except running out of memory, of which nothing is said.
abbrev pub Gives : {X Y : Type 0} → (X → Y) → Result X FieldRefused → Result Y ℕ → Type 0
Gives view (Ok value) read = read ≡ Ok (view value)
Gives view (Err (refused.Fault offset)) read = read ≡ Err offset
Gives view (Err refused.Memory) read = Unit {0}

-- The same of a call that takes no memory.
abbrev pub GivesExactly : {X Y : Type 0} → (X → Y) → Result X FieldRefused → Result Y ℕ → Type 0
GivesExactly view (Err refused.Memory) read = ⊥
GivesExactly view result read = Gives view result read

-- A value without what is left after it.
abbrev pub value_alone : {A : Type 0} → Result (A × Rest) ℕ → Result A ℕ
value_alone (Ok read) = Ok read.0
value_alone (Err place) = Err place

-- All of some octets, of which the first stands at a place.
abbrev pub whole : {A : Type 0} → Reader A → ℕ → List ℕ → Result A ℕ
whole value at octets = value_alone (value (record { at = at; octets = octets }))
