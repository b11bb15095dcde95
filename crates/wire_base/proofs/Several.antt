-- Values that a loop reads one after another are those that `several` reads.
use Rattle.std.proofs.Common.{◌≡◌, ℕ, suc, ◌-◌, ◌+◌, ◌≤◌, ◌<◌, List, [], ◌∷◌, ◌++◌, Result, Ok, Err, refl, sym, ap, ◌∙◌, append_assoc, arith}
use Rattle.std.proofs.lemmas.List.{append-nil}
use Rattle.wire_base.specs.declared.layout.field_refused.FieldRefused.{FieldRefused}
use Rattle.wire_base.specs.declared.layout.field_refused.FieldRefused.TheVariants as refused
use Rattle.wire_base.specs.Reading.{Reader, Rest, Gives, and_then, several}

-- What was read before, and what is still read: the loop keeps that this is what is read in all.
abbrev pub with_front : {A : Type 0} → List A → Result (List A × Rest) ℕ → Result (List A × Rest) ℕ
with_front front (Ok read) = Ok (front ++ read.0, read.1)
with_front front (Err place) = Err place

-- Before the loop nothing was read.
pub begun : {A : Type 0} (read : Result (List A × Rest) ℕ) → with_front [] read ≡ read
begun (Ok read) = refl
begun (Err place) = refl

-- The first of what is still read goes to the end of what was read before.
regroup : {A : Type 0} (front : List A) (first : A) (read : Result (List A × Rest) ℕ)
    → with_front front (and_then read (λ others rest. Ok (first ∷ others, rest))) ≡ with_front (front ++ first ∷ []) read
regroup front first (Ok read) = ap (λ (values : List _). Ok (values, read.1)) (sym (append_assoc front (first ∷ []) read.0))
regroup front first (Err place) = refl

-- One more value is read: it goes to the prefix.
pub more : {A : Type 0} (value : Reader A) (front : List A) (count i : ℕ) (rest after : Rest) (first : A) (total : Result (List A × Rest) ℕ) → i < count → value rest ≡ Ok (first, after)
    → with_front front (several (count - i) value rest) ≡ total → with_front (front ++ first ∷ []) (several (count - (i + 1)) value after) ≡ total
unfolding several
more value front count i rest after first total lt is so_far =
    let left : count - i ≡ suc (count - (i + 1)) = omega arith in
    let one : with_front front (several (count - i) value rest) ≡ with_front (front ++ first ∷ []) (several (count - (i + 1)) value after) = rw (left, is) (regroup front first (several (count - (i + 1)) value after)) in
    sym one ∙ so_far

-- A value has a fault: it is the fault of all.
pub stops : {A : Type 0} (value : Reader A) (e : FieldRefused) (front : List A) (count i : ℕ) (rest : Rest) (total : Result (List A × Rest) ℕ) → i < count → Gives {X = A × Rest} (λ read. read) (Err e) (value rest)
    → with_front front (several (count - i) value rest) ≡ total → Gives {X = List A × Rest} (λ read. read) (Err e) total
unfolding several
stops value refused.Memory front count i rest total lt fails so_far = tt
stops value (refused.Fault offset) front count i rest total lt fails so_far =
    let left : count - i ≡ suc (count - (i + 1)) = omega arith in
    let here : with_front front (several (count - i) value rest) ≡ Err offset = rw (left, fails) refl in
    sym so_far ∙ here

-- That many values were read as are asked for: they are all.
pub all_read : {A : Type 0} (value : Reader A) (front : List A) (count i : ℕ) (rest : Rest) (total : Result (List A × Rest) ℕ) → count ≤ i → with_front front (several (count - i) value rest) ≡ total → total ≡ Ok (front, rest)
unfolding several
all_read value front count i rest total le so_far =
    let left : count - i ≡ 0 = omega arith in
    let one : with_front front (several (count - i) value rest) ≡ Ok (front, rest) = rw left (ap (λ (values : List _). Ok (values, rest)) (append-nil front)) in
    sym so_far ∙ one
