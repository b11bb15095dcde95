-- Keys of a set: one more, one fewer, and those between two bounds.
use Rattle.std.proofs.Common.{◌≡◌, inl, inr, ℕ, ◌+◌, ◌*◌, ◌%◌, ◌^◌, ◌<◌, ◌||◌, ◌&&◌, not, eqb, cond, Bool, true, false, List, [], ◌∷◌, length, get_or, take, refl, sym, ap, ◌∙◌, subst, arith, eq-eqb, eqb-true, ne_eqb}
use Rattle.std.specs.Prelude.{◌⊎◌, filter}
use Rattle.std.specs.BTreeMap.Range.{range_contains}
use Rattle.std.specs.BTreeSet.{BTreeSet, Updates, contains, keys_between}
use Rattle.std.specs.Cmp.{ranks}
use Rattle.std.specs.List.{list_any}
use Rattle.std.specs.Ordering.{MatchOrdering, is_eq, nat_cmp}
use Rattle.std.specs.Str.{bytes_eq}
use Rattle.std.specs.declared.cmp.Ordering.{Ordering}
use Rattle.std.specs.declared.cmp.Ordering.TheVariants.{Less, Equal, Greater}
use Rattle.std.specs.declared.ops.Bound.TheVariants.{Included}
use Rattle.std.proofs.lemmas.Bool.{false≢true}
use Rattle.std.proofs.lemmas.List.Folds.{list_any_more}
use Rattle.std.proofs.lemmas.Nat.{mod-mul-add}
use Rattle.std.specs.Cmp.Lexicographic.{bytes_decides}
use denote.Ref.{Bor}
use Rattle.collector_core.specs.Borrowed.{values}
use Rattle.collector_core.specs.Index.{DropsKey, ExchangesKey, Finds, HasAll, PutsKey, digest}

-- ---- equal numbers

is_one : (a b : ℕ) (o : Ordering) → MatchOrdering o (a < b) (a ≡ b) (b < a) → is_eq o ≡ true → a ≡ b
is_one a b Less h e = absurd (false≢true e)
is_one a b Equal h e = h
is_one a b Greater h e = absurd (false≢true e)

is_none : (a b : ℕ) (o : Ordering) → MatchOrdering o (a < b) (a ≡ b) (b < a) → is_eq o ≡ false → a ≡ b → ⊥
is_none a b Less h e same = omega (arith, h, same)
is_none a b Equal h e same = false≢true (sym e)
is_none a b Greater h e same = omega (arith, h, same)

pub same_of : (a b : ℕ) → is_eq (nat_cmp a b) ≡ true → a ≡ b
same_of a b e = is_one a b (nat_cmp a b) (ranks a b) e

pub apart_of : (a b : ℕ) → is_eq (nat_cmp a b) ≡ false → a ≡ b → ⊥
apart_of a b e = is_none a b (nat_cmp a b) (ranks a b) e

equal_step : (a b : ℕ) (t : Bool) → is_eq (nat_cmp a b) ≡ t → is_eq (nat_cmp a b) ≡ eqb a b
equal_step a b true e = e ∙ sym (eq-eqb a b (same_of a b e))
equal_step a b false e = e ∙ sym (ne_eqb a b (apart_of a b e))

equal_is : (a b : ℕ) → is_eq (nat_cmp a b) ≡ eqb a b
equal_is a b = equal_step a b (is_eq (nat_cmp a b)) refl

-- ---- one key more or fewer

put_step : (here there : Bool) → cond here true there ≡ (here || there)
put_step true there = refl
put_step false there = refl

drop_step : (here there : Bool) → cond here false there ≡ (not here && there)
drop_step true there = refl
drop_step false there = refl

pub put_is : (key : ℕ) (old new : BTreeSet ℕ) → Updates nat_cmp old new key true → PutsKey key old new
put_is key old new updates other =
    updates.0 other ∙ ap (λ (b : Bool). cond b true (contains nat_cmp old other)) (equal_is key other) ∙ put_step (eqb key other) (contains nat_cmp old other)

pub drop_is : (key : ℕ) (old new : BTreeSet ℕ) → Updates nat_cmp old new key false → DropsKey key old new
drop_is key old new updates other =
    updates.0 other ∙ ap (λ (b : Bool). cond b false (contains nat_cmp old other)) (equal_is key other) ∙ drop_step (eqb key other) (contains nat_cmp old other)

-- A key that was there stays, where one comes in.
put_keeps : (here there : Bool) → there ≡ true → (here || there) ≡ true
put_keeps true there is = refl
put_keeps false there is = is

pub put_kept : (key other : ℕ) (old new : BTreeSet ℕ) → PutsKey key old new → contains nat_cmp old other ≡ true → contains nat_cmp new other ≡ true
put_kept key other old new puts is = puts other ∙ put_keeps (eqb key other) (contains nat_cmp old other) is

exchange_step : (from to other : ℕ) (here there held : Bool) → (from ≡ to → ⊥) → eqb from other ≡ here → eqb to other ≡ there → (not here && (there || held)) ≡ (there || (not here && held))
exchange_step from to other true true held apart is are = absurd (apart (eqb-true from other is ∙ sym (eqb-true to other are)))
exchange_step from to other true false held apart is are = refl
exchange_step from to other false true held apart is are = refl
exchange_step from to other false false held apart is are = refl

pub exchanged_apart : (from to : ℕ) (old between new : BTreeSet ℕ) → (from ≡ to → ⊥) → PutsKey to old between → DropsKey from between new → ExchangesKey from to old new
exchanged_apart from to old between new apart puts drops other =
    drops other ∙ ap (λ (b : Bool). not (eqb from other) && b) (puts other)
    ∙ exchange_step from to other (eqb from other) (eqb to other) (contains nat_cmp old other) apart refl refl

stay_step : (here held : Bool) → (here || held) ≡ (here || (not here && held))
stay_step true held = refl
stay_step false held = refl

pub exchanged_same : (from to : ℕ) (old new : BTreeSet ℕ) → from ≡ to → PutsKey to old new → ExchangesKey from to old new
exchanged_same from to old new same puts other =
    puts other ∙ stay_step (eqb to other) (contains nat_cmp old other)
    ∙ ap (λ (n : ℕ). eqb to other || (not (eqb n other) && contains nat_cmp old other)) (sym same)

-- ---- the keys of a digest

filter_step : (one all : ℕ → Bool) (x : ℕ) (rest kept : List ℕ) (here stays : Bool) → one x ≡ here → (here ≡ true → stays ≡ true) → (list_any one rest ≡ true → list_any one kept ≡ true)
    → (here || list_any one rest) ≡ true → list_any one (cond stays (x ∷ kept) kept) ≡ true
filter_step one all x rest kept true true at also others any = ap (λ (b : Bool). b || list_any one kept) at
filter_step one all x rest kept true false at also others any = absurd (false≢true (also refl))
filter_step one all x rest kept false true at also others any = ap (λ (b : Bool). b || list_any one kept) at ∙ others any
filter_step one all x rest kept false false at also others any = others any

in_filter : (one all : ℕ → Bool) → ((x : ℕ) → one x ≡ true → all x ≡ true) → (xs : List ℕ) → list_any one xs ≡ true → list_any one (filter all xs) ≡ true
in_filter one all also [] is = is
in_filter one all also (x ∷ xs) is = filter_step one all x xs (filter all xs) (one x) (all x) refl (also x) (in_filter one all also xs) is

between_is : (sum id : ℕ) → id < 2 ^ 32 → range_contains nat_cmp (Included (sum * 2 ^ 32)) (Included (sum * 2 ^ 32 + 4294967295)) (sum * 2 ^ 32 + id) ≡ true
between_is sum id lt = by_ranks (nat_cmp (sum * 2 ^ 32) (sum * 2 ^ 32 + id)) (nat_cmp (sum * 2 ^ 32 + 4294967295) (sum * 2 ^ 32 + id)) refl refl (ranks (sum * 2 ^ 32) (sum * 2 ^ 32 + id)) (ranks (sum * 2 ^ 32 + 4294967295) (sum * 2 ^ 32 + id))
  where
    by_ranks : (low high : Ordering) → nat_cmp (sum * 2 ^ 32) (sum * 2 ^ 32 + id) ≡ low → nat_cmp (sum * 2 ^ 32 + 4294967295) (sum * 2 ^ 32 + id) ≡ high
        → MatchOrdering low (sum * 2 ^ 32 < sum * 2 ^ 32 + id) (sum * 2 ^ 32 ≡ sum * 2 ^ 32 + id) (sum * 2 ^ 32 + id < sum * 2 ^ 32)
        → MatchOrdering high (sum * 2 ^ 32 + 4294967295 < sum * 2 ^ 32 + id) (sum * 2 ^ 32 + 4294967295 ≡ sum * 2 ^ 32 + id) (sum * 2 ^ 32 + id < sum * 2 ^ 32 + 4294967295)
        → range_contains nat_cmp (Included (sum * 2 ^ 32)) (Included (sum * 2 ^ 32 + 4294967295)) (sum * 2 ^ 32 + id) ≡ true
    by_ranks low Less at on l h = absurd (omega (arith, h, lt))
    by_ranks Greater high at on l h = absurd (omega (arith, l))
    by_ranks Less Equal at on l h = cc
    by_ranks Less Greater at on l h = cc
    by_ranks Equal Equal at on l h = cc
    by_ranks Equal Greater at on l h = cc

pub gathered_first : (sum id : ℕ) (index : BTreeSet ℕ) → id < 2 ^ 32 → contains nat_cmp index (sum * 2 ^ 32 + id) ≡ true
    → list_any (λ (key : ℕ). is_eq (nat_cmp (sum * 2 ^ 32 + id) key)) (keys_between nat_cmp (Included (sum * 2 ^ 32)) (Included (sum * 2 ^ 32 + 4294967295)) index) ≡ true
gathered_first sum id index lt is =
    in_filter (λ (key : ℕ). is_eq (nat_cmp (sum * 2 ^ 32 + id) key)) (range_contains nat_cmp (Included (sum * 2 ^ 32)) (Included (sum * 2 ^ 32 + 4294967295)))
    (λ x here. subst (λ (key : ℕ). range_contains nat_cmp (Included (sum * 2 ^ 32)) (Included (sum * 2 ^ 32 + 4294967295)) key ≡ true) (same_of (sum * 2 ^ 32 + id) x here) (between_is sum id lt))
    index.keys is

left_step : (here rest held now : Bool) → ((here || rest) || held) ≡ true → (here ≡ true → now ≡ true) → (held ≡ true → now ≡ true) → (rest || now) ≡ true
left_step here true held now is is_it kept = refl
left_step true false held now is is_it kept = is_it refl
left_step false false held now is is_it kept = kept is

pub gathered_more : (sum id key : ℕ) (rest : List ℕ) (old new : BTreeSet ℕ) → id < 2 ^ 32 → PutsKey (key % 2 ^ 32) old new
    → (list_any (λ (key : ℕ). is_eq (nat_cmp (sum * 2 ^ 32 + id) key)) (key ∷ rest) || contains nat_cmp old id) ≡ true
    → (list_any (λ (key : ℕ). is_eq (nat_cmp (sum * 2 ^ 32 + id) key)) rest || contains nat_cmp new id) ≡ true
gathered_more sum id key rest old new lt puts is =
    left_step (is_eq (nat_cmp (sum * 2 ^ 32 + id) key)) (list_any (λ (key : ℕ). is_eq (nat_cmp (sum * 2 ^ 32 + id) key)) rest) (contains nat_cmp old id) (contains nat_cmp new id) is
    (λ here.
    puts id
    ∙ ap (λ (b : Bool). b || contains nat_cmp old id)
    (eq-eqb (key % 2 ^ 32) id (ap (λ (n : ℕ). n % 2 ^ 32) (sym (same_of (sum * 2 ^ 32 + id) key here)) ∙ mod-mul-add sum (2 ^ 32) id lt)))
    (put_kept (key % 2 ^ 32) id old new puts)

-- ---- a digest more

visit_step : (here there : Bool) → (here || there) ≡ true → (here ≡ true) ⊎ (there ≡ true)
visit_step true there is = inl refl
visit_step false there is = inr is

pub visited_new : (sum : ℕ) (index digests now found ids : BTreeSet ℕ) → PutsKey sum digests now → ((id : ℕ) → contains nat_cmp found id ≡ true → contains nat_cmp ids id ≡ true)
    → ((id : ℕ) → id < 2 ^ 32 → contains nat_cmp index (sum * 2 ^ 32 + id) ≡ true → contains nat_cmp ids id ≡ true) → HasAll index digests found → HasAll index now ids
visited_new sum index digests now found ids puts kept gathered all other id lt seen is = elim (visit_step (eqb sum other) (contains nat_cmp digests other) (sym (puts other) ∙ seen)) [
  | inl here ↦ gathered id lt (subst (λ (n : ℕ). contains nat_cmp index (n * 2 ^ 32 + id) ≡ true) (sym (eqb-true sum other here)) is)
  | inr there ↦ kept id (all other id lt there is)
]

pub visited_again : (sum : ℕ) (index digests now ids : BTreeSet ℕ) → PutsKey sum digests now → contains nat_cmp digests sum ≡ true → HasAll index digests ids → HasAll index now ids
visited_again sum index digests now ids puts there all other id lt seen is = elim (visit_step (eqb sum other) (contains nat_cmp digests other) (sym (puts other) ∙ seen)) [
  | inl here ↦ all other id lt (subst (λ (n : ℕ). contains nat_cmp digests n ≡ true) (eqb-true sum other here) there) is
  | inr held ↦ all other id lt held is
]

-- ---- all targets

or_true : (b : Bool) → (b || true) ≡ true
or_true true = refl
or_true false = refl

asked_step : (ident target : List ℕ) (here rest more : Bool) → bytes_eq target ident ≡ here → (rest ≡ true → more ≡ true) → (here || rest) ≡ true → (eqb (digest target) (digest ident) || more) ≡ true
asked_step ident target true rest more at others any =
    ap (λ (b : Bool). b || more) (eq-eqb (digest target) (digest ident) (ap digest ((bytes_decides target ident).0 at)))
asked_step ident target false rest more at others any = ap (λ (b : Bool). eqb (digest target) (digest ident) || b) (others any) ∙ or_true (eqb (digest target) (digest ident))

digest_asked : (ident : List ℕ) (targets : List (Bor (List ℕ))) → list_any (λ target. bytes_eq target ident) (values targets) ≡ true
    → list_any (λ (target : Bor (List ℕ)). eqb (digest target.now) (digest ident)) targets ≡ true
digest_asked ident [] is = is
digest_asked ident (target ∷ others) is =
    asked_step ident target.now (bytes_eq target.now ident) (list_any (λ t. bytes_eq t ident) (values others))
    (list_any (λ (t : Bor (List ℕ)). eqb (digest t.now) (digest ident)) others)
    refl
    (digest_asked ident others)
    is

pub finds_all : (targets : List (Bor (List ℕ))) (index digests ids : BTreeSet ℕ) → ((sum : ℕ) → contains nat_cmp digests sum ≡ list_any (λ (target : Bor (List ℕ)). eqb (digest target.now) sum) targets)
    → HasAll index digests ids → Finds (values targets) index ids
finds_all targets index digests ids are all ident id lt asked is = all (digest ident) id lt (are (digest ident) ∙ digest_asked ident targets asked) is

or_swap : (a b : Bool) → (a || b) ≡ (b || a)
or_swap true true = refl
or_swap true false = refl
or_swap false true = refl
or_swap false false = refl

pub digests_more : (targets : List (Bor (List ℕ))) (k : ℕ) (item : Bor (List ℕ)) (old new : BTreeSet ℕ) → k < length targets → item ≡ get_or targets k item → PutsKey (digest item.now) old new
    → ((sum : ℕ) → contains nat_cmp old sum ≡ list_any (λ (target : Bor (List ℕ)). eqb (digest target.now) sum) (take k targets))
    → (sum : ℕ) → contains nat_cmp new sum ≡ list_any (λ (target : Bor (List ℕ)). eqb (digest target.now) sum) (take (k + 1) targets)
digests_more targets k item old new lt at puts are sum =
    puts sum
    ∙ ap (λ (b : Bool). eqb (digest item.now) sum || b) (are sum)
    ∙ ap (λ (t : Bor (List ℕ)). eqb (digest t.now) sum || list_any (λ (target : Bor (List ℕ)). eqb (digest target.now) sum) (take k targets)) at
    ∙ or_swap (eqb (digest (get_or targets k item).now) sum) (list_any (λ (target : Bor (List ℕ)). eqb (digest target.now) sum) (take k targets))
    ∙ sym (list_any_more (λ (target : Bor (List ℕ)). eqb (digest target.now) sum) targets k item lt)
