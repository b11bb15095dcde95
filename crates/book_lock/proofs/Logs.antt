-- Lists of entries with whose they are, as passes see them.
use Rattle.std.proofs.Common.{◌≡◌, ◌≢◌, ◌≤◌, ◌+◌, ℕ, Bool, eqb, List, [], ◌∷◌, ◌++◌, length, map, refl, sym, ap, ◌∙◌, append_assoc, arith, eq-eqb, ne_eqb}
use Rattle.std.proofs.lemmas.List.{append-nil, map-append, length-map}
use Rattle.collector_core.specs.declared.chronicle.Entry.{Entry}
use Rattle.collector_core.specs.declared.chronicle.Mark.{Mark}
use Rattle.collector_core.specs.Desks.{AreOthers, AreOwn, entries, own_mark}
use Rattle.book_lock.specs.Logs.{Begins, Known, Logged, NoneBy, Saw, entries_in, mark_by, marked}
use Rattle.book_lock.specs.Passes.{as_other, as_others}

-- ---- whose entries

pub entries_marked : (j : ℕ) (log : List Logged) → entries (marked j log) ≡ entries_in log
entries_marked j [] = refl
entries_marked j (e ∷ later) = ap (λ (xs : List Entry). e.0 ∷ xs) (entries_marked j later)

pub length_marked : (j : ℕ) (log : List Logged) → length (marked j log) ≡ length log
length_marked j log = length-map log (mark_by j)

pub marked_append : (j : ℕ) (xs ys : List Logged) → marked j (xs ++ ys) ≡ marked j xs ++ marked j ys
marked_append j xs ys = map-append (mark_by j) xs ys

pub in_append : (xs ys : List Logged) → entries_in (xs ++ ys) ≡ entries_in xs ++ entries_in ys
in_append xs ys = map-append (λ (e : Logged). e.0) xs ys

pub none_first : (j : ℕ) (xs ys : List Logged) → NoneBy j (xs ++ ys) → NoneBy j xs
none_first j [] ys none = tt
none_first j (x ∷ xs) ys none = (none.0, none_first j xs ys none.1)

pub none_rest : (j : ℕ) (xs ys : List Logged) → NoneBy j (xs ++ ys) → NoneBy j ys
none_rest j [] ys none = none
none_rest j (x ∷ xs) ys none = none_rest j xs ys none.1

pub none_append : (j : ℕ) (xs ys : List Logged) → NoneBy j xs → NoneBy j ys → NoneBy j (xs ++ ys)
none_append j [] ys one two = two
none_append j (x ∷ xs) ys one two = (one.0, none_append j xs ys one.1 two)

pub others_marked : (j : ℕ) (log : List Logged) → NoneBy j log → AreOthers (marked j log)
others_marked j [] none = tt
others_marked j (e ∷ later) none = (ne_eqb e.1 j none.0, others_marked j later none.1)

-- All are of the pass.
abbrev pub AllBy : ℕ → List Logged → Type 0
AllBy j [] = Unit {0}
AllBy j (e ∷ later) = (e.1 ≡ j) × AllBy j later

pub own_marked : (j : ℕ) (xs ys : List Logged) → AllBy j (xs ++ ys) → AreOwn (marked j xs)
own_marked j [] ys all = tt
own_marked j (e ∷ later) ys all = (eq-eqb e.1 j all.0, own_marked j later ys all.1)

-- Where all are of the pass, none is left out of which none is.
pub none_left : (j : ℕ) (xs ys : List Logged) → AllBy j (xs ++ ys) → NoneBy j ys → ys ≡ []
none_left j [] [] all none = refl
none_left j [] (y ∷ ys) all none = absurd (none.0 all.0)
none_left j (x ∷ xs) ys all none = none_left j xs ys all.1 none

-- ---- which passes

pub known_more : (count more : ℕ) (log : List Logged) → count ≤ more → Known count log → Known more log
known_more count more [] le known = tt
known_more count more (e ∷ later) le known = (omega (arith, le, known.0), known_more count more later le known.1)

pub known_first : (count : ℕ) (xs ys : List Logged) → Known count (xs ++ ys) → Known count xs
known_first count [] ys known = tt
known_first count (x ∷ xs) ys known = (known.0, known_first count xs ys known.1)

pub known_rest : (count : ℕ) (xs ys : List Logged) → Known count (xs ++ ys) → Known count ys
known_rest count [] ys known = known
known_rest count (x ∷ xs) ys known = known_rest count xs ys known.1

pub known_append : (count : ℕ) (xs ys : List Logged) → Known count xs → Known count ys → Known count (xs ++ ys)
known_append count [] ys one two = two
known_append count (x ∷ xs) ys one two = (one.0, known_append count xs ys one.1 two)

-- Nothing is of the next pass.
pub none_next : (count : ℕ) (log : List Logged) → Known count log → NoneBy count log
none_next count [] known = tt
none_next count (e ∷ later) known = ((λ same. omega (arith, same, known.0)), none_next count later known.1)

-- So it sees as another's what any pass sees.
pub others_next : (j count : ℕ) (log : List Logged) → Known count log → as_others (marked j log) ≡ marked count log
others_next j count [] known = refl
others_next j count (e ∷ later) known =
    let none : e.1 ≢ count = λ same. omega (arith, same, known.0) in
    let here : as_other (mark_by j e) ≡ mark_by count e = ap (λ (own : Bool). let m : Mark = record { entry = e.0; own = own } in m) (sym (ne_eqb e.1 count none)) in
    ap (λ (m : Mark). m ∷ as_others (marked j later)) here ∙ ap (λ (ms : List Mark). mark_by count e ∷ ms) (others_next j count later known.1)

-- ---- what a pass has seen

pub saw_all : (j : ℕ) (log : List Logged) → Saw j log (marked j log)
saw_all j log = record { first = log; rest = []; whole = sym (append-nil log); is = refl; none = tt }

pub saw_none : (j : ℕ) (log : List Logged) → NoneBy j log → Saw j log []
saw_none j log none = record { first = []; rest = log; whole = refl; is = refl; none = none }

pub saw_more : (j : ℕ) (log : List Logged) (e : Logged) (seen : List Mark) → e.1 ≢ j → Saw j log seen → Saw j (log ++ e ∷ []) seen
saw_more j log e seen other saw = record {
  first = saw.first;
  rest = saw.rest ++ e ∷ [];
  whole = ap (λ (xs : List Logged). xs ++ e ∷ []) saw.whole ∙ append_assoc saw.first saw.rest (e ∷ []);
  is = saw.is;
  none = none_append j saw.rest (e ∷ []) saw.none (other, tt);
}

-- What a pass has seen, and what it has not.
pub saw_seen : (j : ℕ) (log : List Logged) (seen : List Mark) (saw : Saw j log seen) → marked j log ≡ seen ++ marked j saw.rest
saw_seen j log seen saw =
    ap (marked j) saw.whole ∙ marked_append j saw.first saw.rest ∙ ap (λ (xs : List Mark). xs ++ marked j saw.rest) (sym saw.is)

-- ---- prefixes

pub begins_none : (log : List Logged) → Begins [] log
begins_none log = (entries_in log, refl)

pub begins_more : (log : List Logged) (e : Logged) (xs : List Entry) → Begins xs log → Begins xs (log ++ e ∷ [])
begins_more log e xs begins = (
  begins.0 ++ e.0 ∷ [],
  in_append log (e ∷ []) ∙ ap (λ (ys : List Entry). ys ++ e.0 ∷ []) begins.1 ∙ append_assoc xs begins.0 (e.0 ∷ []),
)

pub begins_same : (one other : List Logged) (xs : List Entry) → entries_in other ≡ entries_in one → Begins xs one → Begins xs other
begins_same one other xs same begins = (begins.0, same ∙ begins.1)

pub saw_begins : (j : ℕ) (log : List Logged) (seen : List Mark) → Saw j log seen → Begins (entries seen) log
saw_begins j log seen saw = (
  entries_in saw.rest,
  ap entries_in saw.whole ∙ in_append saw.first saw.rest
      ∙ ap (λ (xs : List Entry). xs ++ entries_in saw.rest) (sym (ap entries saw.is ∙ entries_marked j saw.first)),
)

-- The pass with its own entry.
pub marked_own : (j : ℕ) (log : List Logged) (made : Entry) → marked j (log ++ (made, j) ∷ []) ≡ marked j log ++ own_mark made ∷ []
marked_own j log made =
    marked_append j log ((made, j) ∷ [])
    ∙ ap (λ (own : Bool). let m : Mark = record { entry = made; own = own } in marked j log ++ m ∷ []) (eq-eqb j j refl)
