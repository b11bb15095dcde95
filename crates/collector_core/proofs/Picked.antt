-- Records that are looked up by rising identifiers: what is asked for of them is what is asked for
-- of all.
use Rattle.std.proofs.Common.{◌≡◌, ℕ, suc, ◌^◌, ◌<◌, ◌≤◌, ◌||◌, eqb, cond, Bool, true, false, Option, Some, None, List, [], ◌∷◌, ◌++◌, length, refl, sym, ap, ◌∙◌, subst, arith, eq-eqb, eqb-true, ne_eqb}
use Rattle.std.specs.Prelude.{filter, option_to_list}
use Rattle.std.specs.BTreeSet.{BTreeSet, IsOrdered}
use Rattle.std.specs.Cmp.{ranks}
use Rattle.std.specs.List.{AllByRecursion, list_any}
use Rattle.std.specs.List.Sorted.{IsStrictlyIncreasing, IsStrictlySortedBy}
use Rattle.std.specs.Ordering.{MatchOrdering, is_eq, nat_cmp}
use Rattle.std.specs.declared.cmp.Ordering.{Ordering}
use Rattle.std.specs.declared.cmp.Ordering.TheVariants.{Less}
use Rattle.std.proofs.lemmas.Bool.{false≢true, cond-true, cond-false}
use Rattle.std.proofs.lemmas.Map.Keys.{sorted_head, sorted_tail}
use Rattle.swima_model.specs.declared.record.Record.{Record}
use Rattle.swima_model.specs.InOrder.{ids}
use Rattle.swima_model.specs.Live.{record_of}
use Rattle.swima_model.proofs.Rises.{AllFrom}
use Rattle.swima_model.proofs.Living.{same_records}
use Rattle.swima_model.proofs.Places.{Climbs, climbs, climbed, climbs_left, none_above}
use Rattle.collector_core.specs.Answering.{is_wanted, wanted_records}
use Rattle.collector_core.specs.Index.{Finds, IsIndex, key_of, picked}
use Rattle.collector_core.specs.Places.{IsOwn}
use Rattle.collector_core.proofs.Gathered.{apart_of, same_of}
use Rattle.collector_core.proofs.Keyed.{Under, has_there, under_next}

-- ---- numbers in a set

ordered_at : (a b : ℕ) (o : Ordering) → nat_cmp a b ≡ o → MatchOrdering o (a < b) (a ≡ b) (b < a)
ordered_at a b o e = subst (λ (o : Ordering). MatchOrdering o (a < b) (a ≡ b) (b < a)) e (ranks a b)

all_over : (x : ℕ) (xs : List ℕ) → AllByRecursion (λ y. nat_cmp x y ≡ Less) xs → AllFrom (suc x) xs
all_over x [] h = tt
all_over x (y ∷ ys) h = (omega (arith, ordered_at x y Less h.0), all_over x ys h.1)

pub set_climbs : (xs : List ℕ) → IsStrictlySortedBy nat_cmp xs → Climbs xs
set_climbs [] h = tt
set_climbs (x ∷ xs) h = (all_over x xs (sorted_head nat_cmp x xs h), set_climbs xs (sorted_tail nat_cmp x xs h))

-- ---- the record of an identifier, of some records

own_step : (here : Bool) (r : Record) (id : ℕ) (found : Option Record) → (here ≡ true → r.id ≡ id) → IsOwn id found → IsOwn id (cond here (Some r) found)
own_step true r id found named own = named refl
own_step false r id found named own = own

own_found : (id : ℕ) (rs : List Record) → IsOwn id (record_of id rs)
own_found id [] = tt
own_found id (r ∷ rs) = own_step (eqb r.id id) r id (record_of id rs) (eqb-true r.id id) (own_found id rs)

abbrev keep : (Record → Bool) → Option Record → Option Record
keep test None = None
keep test (Some r) = cond (test r) (Some r) None

filter_step : (test : Record → Bool) (id : ℕ) (r : Record) (kept : List Record) (found : Option Record) (passes here : Bool) → test r ≡ passes → eqb r.id id ≡ here
    → record_of id kept ≡ keep test found → (here ≡ true → found ≡ None) → record_of id (cond passes (r ∷ kept) kept) ≡ keep test (cond here (Some r) found)
filter_step test id r kept found true true does named h none =
    cond-true (eqb r.id id) (Some r) (record_of id kept) named ∙ sym (cond-true (test r) (Some r) None does)
filter_step test id r kept found true false does named h none = cond-false (eqb r.id id) (Some r) (record_of id kept) named ∙ h
filter_step test id r kept found false true does named h none =
    h ∙ ap (keep test) (none refl) ∙ sym (cond-false (test r) (Some r) None does)
filter_step test id r kept found false false does named h none = h

record_filter : (test : Record → Bool) (id : ℕ) (rs : List Record) → Climbs (ids rs) → record_of id (filter test rs) ≡ keep test (record_of id rs)
record_filter test id [] up = refl
record_filter test id (r ∷ rs) up =
    filter_step test id r (filter test rs) (record_of id rs) (test r) (eqb r.id id) refl refl (record_filter test id rs up.1)
    (λ here. none_above id (suc r.id) rs (omega (arith, eqb-true r.id id here)) up.0)

picked_step : (id k : ℕ) (found held : Option Record) (others : List Record) (here more : Bool) → (here ≡ true → k ≡ id) → (here ≡ false → k ≡ id → ⊥) → IsOwn k found → (k ≡ id → found ≡ held)
    → record_of id others ≡ cond more held None → record_of id (option_to_list found ++ others) ≡ cond (here || more) held None
picked_step id k None held others true true is_it is_not own same h = h
picked_step id k None held others true false is_it is_not own same h = h ∙ same (is_it refl)
picked_step id k None held others false more is_it is_not own same h = h
picked_step id k (Some r) held others true more is_it is_not own same h =
    cond-true (eqb r.id id) (Some r) (record_of id others) (eq-eqb r.id id (own ∙ is_it refl)) ∙ same (is_it refl)
picked_step id k (Some r) held others false more is_it is_not own same h =
    cond-false (eqb r.id id) (Some r) (record_of id others) (ne_eqb r.id id (λ is. is_not refl (sym own ∙ is))) ∙ h

record_picked : (id : ℕ) (ks : List ℕ) (rs : List Record) → record_of id (picked ks rs) ≡ cond (list_any (λ (k : ℕ). is_eq (nat_cmp id k)) ks) (record_of id rs) None
record_picked id [] rs = refl
record_picked id (k ∷ ks) rs =
    picked_step id k (record_of k rs) (record_of id rs) (picked ks rs) (is_eq (nat_cmp id k)) (list_any (λ (k : ℕ). is_eq (nat_cmp id k)) ks)
    (λ is_it. sym (same_of id k is_it))
    (λ is_not same. apart_of id k is_not (sym same))
    (own_found k rs)
    (λ same. ap (λ (n : ℕ). record_of n rs) same)
    (record_picked id ks rs)

-- ---- what stays in order

from_filter : (b : Bool) (n : ℕ) (r : Record) (kept : List Record) → n ≤ r.id → AllFrom n (ids kept) → AllFrom n (ids (cond b (r ∷ kept) kept))
from_filter true n r kept le h = (le, h)
from_filter false n r kept le h = h

filter_from : (test : Record → Bool) (n : ℕ) (rs : List Record) → AllFrom n (ids rs) → AllFrom n (ids (filter test rs))
filter_from test n [] h = tt
filter_from test n (r ∷ rs) h = from_filter (test r) n r (filter test rs) h.0 (filter_from test n rs h.1)

climbs_filter : (b : Bool) (r : Record) (kept : List Record) → AllFrom (suc r.id) (ids kept) → Climbs (ids kept) → Climbs (ids (cond b (r ∷ kept) kept))
climbs_filter true r kept over h = (over, h)
climbs_filter false r kept over h = h

filter_climbs : (test : Record → Bool) (rs : List Record) → Climbs (ids rs) → Climbs (ids (filter test rs))
filter_climbs test [] h = tt
filter_climbs test (r ∷ rs) h = climbs_filter (test r) r (filter test rs) (filter_from test (suc r.id) rs h.0) (filter_climbs test rs h.1)

from_picked : (n k : ℕ) (found : Option Record) (others : List Record) → n ≤ k → IsOwn k found → AllFrom n (ids others) → AllFrom n (ids (option_to_list found ++ others))
from_picked n k None others le own h = h
from_picked n k (Some r) others le own h = (omega (arith, le, own), h)

picked_from : (n : ℕ) (ks : List ℕ) (rs : List Record) → AllFrom n ks → AllFrom n (ids (picked ks rs))
picked_from n [] rs h = tt
picked_from n (k ∷ ks) rs h = from_picked n k (record_of k rs) (picked ks rs) h.0 (own_found k rs) (picked_from n ks rs h.1)

climbs_picked : (k : ℕ) (found : Option Record) (others : List Record) → IsOwn k found → AllFrom (suc k) (ids others) → Climbs (ids others) → Climbs (ids (option_to_list found ++ others))
climbs_picked k None others own over h = h
climbs_picked k (Some r) others own over h = (subst (λ (n : ℕ). AllFrom (suc n) (ids others)) (sym own) over, h)

picked_climbs : (ks : List ℕ) (rs : List Record) → Climbs ks → Climbs (ids (picked ks rs))
picked_climbs [] rs h = tt
picked_climbs (k ∷ ks) rs h = climbs_picked k (record_of k rs) (picked ks rs) (own_found k rs) (picked_from (suc k) ks rs h.0) (picked_climbs ks rs h.1)

-- ---- what is asked for

both_same : (b : Bool) (o : Option Record) → cond b o o ≡ o
both_same true o = refl
both_same false o = refl

among_step : (test : Record → Bool) (r : Record) (here passes : Bool) → test r ≡ passes → (passes ≡ true → here ≡ true) → keep test (cond here (Some r) None) ≡ keep test (Some r)
among_step test r true passes does found = refl
among_step test r false true does found = absurd (false≢true (found refl))
among_step test r false false does found = sym (cond-false (test r) (Some r) None does)

among : (test : Record → Bool) (found : Option Record) (here : Bool) → ((r : Record) → found ≡ Some r → test r ≡ true → here ≡ true) → keep test (cond here found None) ≡ keep test found
among test None here all = ap (keep test) (both_same here None)
among test (Some r) here all = among_step test r here (test r) refl (all r refl)

pub all_picked : (targets : List (List ℕ)) (ks : List ℕ) (rs : List Record) → Climbs ks → Climbs (ids rs)
    → ((id : ℕ) (r : Record) → record_of id rs ≡ Some r → is_wanted targets r.content.ident ≡ true → list_any (λ (k : ℕ). is_eq (nat_cmp id k)) ks ≡ true)
    → wanted_records targets (picked ks rs) ≡ wanted_records targets rs
all_picked targets ks rs rising up all =
    let asked : Record → Bool = λ (r : Record). is_wanted targets r.content.ident in
    let some : Climbs (ids (picked ks rs)) = picked_climbs ks rs rising in
    same_records (wanted_records targets (picked ks rs)) (wanted_records targets rs)
    (climbed (ids (wanted_records targets (picked ks rs))) (filter_climbs asked (picked ks rs) some))
    (climbed (ids (wanted_records targets rs)) (filter_climbs asked rs up))
    (λ id.
    record_filter asked id (picked ks rs) some
    ∙ ap (keep asked) (record_picked id ks rs)
    ∙ among asked (record_of id rs) (list_any (λ (k : ℕ). is_eq (nat_cmp id k)) ks) (all id)
    ∙ sym (record_filter asked id rs up))

-- ---- by an index

some_same : (a b : Record) → Some a ≡ Some b → a ≡ b
some_same a b e = cc

under_step : (n : ℕ) (here : Bool) (r held : Record) (found : Option Record) → r.id < n → (found ≡ Some held → held.id < n) → cond here (Some r) found ≡ Some held → held.id < n
under_step n true r held found lt others is = subst (λ (x : Record). x.id < n) (some_same r held is) lt
under_step n false r held found lt others is = others is

under_found : (n id : ℕ) (held : Record) (rs : List Record) → Under n rs → record_of id rs ≡ Some held → held.id < n
under_found n id held [] under is = absurd cc
under_found n id held (r ∷ rs) under is = under_step n (eqb r.id id) r held (record_of id rs) under.0 (under_found n id held rs under.1) is

named_found : (id : ℕ) (held : Record) (found : Option Record) → IsOwn id found → found ≡ Some held → held.id ≡ id
named_found id held None own is = absurd cc
named_found id held (Some r) own is = subst (λ (x : Record). x.id ≡ id) (some_same r held is) own

-- Of some targets, what is asked for is among what the index finds.
all_found : (target : List ℕ) (others : List (List ℕ)) (index found : BTreeSet ℕ) (next : ℕ) (rs : List Record) → IsIndex index rs → IsStrictlyIncreasing (ids rs ++ next ∷ []) → next < 2 ^ 32
    → IsOrdered nat_cmp found → Finds (target ∷ others) index found → wanted_records (target ∷ others) (picked found.keys rs) ≡ wanted_records (target ∷ others) rs
all_found target others index found next rs is rising small ordered finds =
    let up : Climbs (ids rs ++ next ∷ []) = climbs (ids rs ++ next ∷ []) rising in
    all_picked (target ∷ others) found.keys rs (set_climbs found.keys ordered) (climbs_left (ids rs) (next ∷ []) up)
    (λ id r held asked.
    let lt : r.id < 2 ^ 32 = under_found (2 ^ 32) id r rs (under_next (2 ^ 32) next rs up (omega (arith, small))) held in
    finds r.content.ident id (omega (arith, lt, named_found id r (record_of id rs) (own_found id rs) held)) asked (is (key_of r.content.ident id) ∙ has_there id r rs held))

pub some_found : (targets : List (List ℕ)) (index found : BTreeSet ℕ) (next : ℕ) (rs : List Record) → (length targets ≡ 0 → ⊥) → IsIndex index rs → IsStrictlyIncreasing (ids rs ++ next ∷ []) → next < 2 ^ 32
    → IsOrdered nat_cmp found → Finds targets index found → wanted_records targets (picked found.keys rs) ≡ wanted_records targets rs
some_found [] index found next rs some is rising small ordered finds = absurd (some refl)
some_found (target ∷ others) index found next rs some is rising small ordered finds = all_found target others index found next rs is rising small ordered finds
