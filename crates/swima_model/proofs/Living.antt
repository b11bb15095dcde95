-- What is live, by the last mention.
use Rattle.std.proofs.Common.{◌≡◌, inl, inr, ℕ, suc, ◌+◌, ◌<◌, ◌≤◌, eqb, cond, not, ◌||◌, Bool, true, false, List, [], ◌∷◌, ◌++◌, get_or, Option, Some, None, refl, sym, ap, ◌∙◌, subst, arith, eqb-true}
use Rattle.std.specs.Prelude.{is_some, option_to_list}
use Rattle.std.specs.Option.{option_or}
use Rattle.std.specs.List.Sorted.{IsStrictlyIncreasing}
use Rattle.std.proofs.lemmas.Bool.{false≢true, cases_eq, cases_lt}
use Rattle.std.proofs.lemmas.List.Folds.{find-append}
use Rattle.std.proofs.lemmas.List.Sums.{sum_by-append}
use Rattle.swima_model.specs.declared.event.Event.{Event}
use Rattle.swima_model.specs.declared.record.Record.{Record}
use Rattle.swima_model.specs.Doubled.{times}
use Rattle.swima_model.specs.InOrder.{ids, in_order}
use Rattle.swima_model.specs.Live.{is_deletion, is_mentioned, unmentioned, last_mentions, live, record_of, later_or, last_mention, by_mention, IsLive, LiveIsLastMention}
use Rattle.swima_model.specs.Rising.{of_id}
use Rattle.swima_model.proofs.Repeats.{times_cons, times_here, times_other, doubled_is_least_repeated}
use Rattle.swima_model.proofs.Rises.{AllFrom, Rises, from_lower, from_times}
use Rattle.swima_model.proofs.Placing.{in_order_of_id, in_order_rising_permutation, one_order, below_none}

-- ---- numbers that rise

-- What stands after the first of rising numbers rises.
pub strict_rest : (x : ℕ) (xs : List ℕ) → IsStrictlyIncreasing (x ∷ xs) → IsStrictlyIncreasing xs
strict_rest x xs up k lt =
    let e : suc k + 1 ≡ suc (k + 1) = omega arith in
    subst (λ (m : ℕ). get_or xs k 0 < get_or (x ∷ xs) m 0) e (up (suc k) (omega arith))

-- All of it is above the first.
pub strict_from : (x : ℕ) (xs : List ℕ) → IsStrictlyIncreasing (x ∷ xs) → AllFrom (suc x) xs
strict_from x [] up = tt
strict_from x (y ∷ ys) up =
    let lt : x < y = up 0 (omega arith) in
    (omega (arith, lt), from_lower (suc x) (suc y) ys (omega (arith, lt)) (strict_from y ys (strict_rest x (y ∷ ys) up)))

-- Numbers that rise do not fall.
pub strict_rises : (xs : List ℕ) → IsStrictlyIncreasing xs → Rises xs
strict_rises [] up = tt
strict_rises (x ∷ xs) up = (from_lower x (suc x) xs (omega arith) (strict_from x xs up), strict_rises xs (strict_rest x xs up))

-- Each of them stands once at most.
pub once_strict : (n : ℕ) (xs : List ℕ) → IsStrictlyIncreasing xs → times n xs < 2
once_strict n [] up = omega arith
once_strict n (x ∷ xs) up = elim (cases_eq x n) [
  | inl e ↦ elim (cases_lt 0 (times n xs)) [
    | inl some ↦ absurd (omega (arith, e, from_times (suc x) n xs (strict_from x xs up) some))
    | inr none ↦ omega (arith, times_here n x xs e)
  ]
  | inr ne ↦ omega (arith, times_other n x xs ne, once_strict n xs (strict_rest x xs up))
]

-- ---- the record of an identifier

-- The first of some records.
abbrev first_of : List Record → Option Record
first_of [] = None
first_of (r ∷ rs) = Some r

first_step : (here : Bool) (r : Record) (found : Option Record) (rest : List Record) → found ≡ first_of rest → cond here (Some r) found ≡ first_of (cond here (r ∷ rest) rest)
first_step true r found rest e = refl
first_step false r found rest e = e

record_of_first : (id : ℕ) (rs : List Record) → record_of id rs ≡ first_of (of_id id rs)
record_of_first id [] = refl
record_of_first id (r ∷ rs) = first_step (eqb r.id id) r (record_of id rs) (of_id id rs) (record_of_first id rs)

-- It is the same in order.
pub record_of_in_order : (id : ℕ) (rs : List Record) → record_of id (in_order rs) ≡ record_of id rs
record_of_in_order id rs = record_of_first id (in_order rs) ∙ ap first_of (in_order_of_id id rs) ∙ sym (record_of_first id rs)

-- Of rising identifiers it is the only one.
only_step : (here : Bool) (r : Record) (found : Option Record) (rest : List Record) → rest ≡ option_to_list found → (here ≡ true → rest ≡ []) → cond here (r ∷ rest) rest ≡ option_to_list (cond here (Some r) found)
only_step true r found rest e none = ap (λ (rs : List Record). r ∷ rs) (none refl)
only_step false r found rest e none = e

pub strict_of_id : (id : ℕ) (rs : List Record) → IsStrictlyIncreasing (ids rs) → of_id id rs ≡ option_to_list (record_of id rs)
strict_of_id id [] up = refl
strict_of_id id (r ∷ rs) up =
    only_step (eqb r.id id) r (record_of id rs) (of_id id rs) (strict_of_id id rs (strict_rest r.id (ids rs) up))
    (λ here. below_none id (suc r.id) rs (omega (arith, eqb-true r.id id here)) (strict_from r.id (ids rs) up))

-- Records of rising identifiers that have the same of each identifier are the same.
pub same_records : (rs ss : List Record) → IsStrictlyIncreasing (ids rs) → IsStrictlyIncreasing (ids ss) → ((id : ℕ) → record_of id rs ≡ record_of id ss) → rs ≡ ss
same_records rs ss up down same =
    one_order rs ss (strict_rises (ids rs) up) (strict_rises (ids ss) down)
    (λ x. strict_of_id x.id rs up ∙ ap option_to_list (same x.id) ∙ sym (strict_of_id x.id ss down))

-- ---- mentions

-- A record is mentioned where it has a last mention.
mentioned_step : (here : Bool) (e : Event) (last : Option Event) (is : Bool) → is ≡ is_some last → (here || is) ≡ is_some (later_or last (cond here (Some e) None))
mentioned_step true e None is h = refl
mentioned_step true e (Some m) is h = refl
mentioned_step false e None is h = h
mentioned_step false e (Some m) is h = h

pub mentioned_some : (id : ℕ) (events : List Event) → is_mentioned id events ≡ is_some (last_mention id events)
mentioned_some id [] = refl
mentioned_some id (e ∷ later) = mentioned_step (eqb e.subject.id id) e (last_mention id later) (is_mentioned id later) (mentioned_some id later)

-- Mentions one after another.
later_none : (mention : Option Event) → mention ≡ later_or mention None
later_none None = refl
later_none (Some e) = refl

later_more : (last mid first : Option Event) → later_or (later_or last mid) first ≡ later_or last (later_or mid first)
later_more None mid first = refl
later_more (Some e) mid first = refl

pub mention_append : (id : ℕ) (xs ys : List Event) → last_mention id (xs ++ ys) ≡ later_or (last_mention id ys) (last_mention id xs)
mention_append id [] ys = later_none (last_mention id ys)
mention_append id (e ∷ xs) ys =
    ap (λ (m : Option Event). later_or m (cond (eqb e.subject.id id) (Some e) None)) (mention_append id xs ys)
    ∙ later_more (last_mention id ys) (last_mention id xs) (cond (eqb e.subject.id id) (Some e) None)

-- One event more is the last mention of its record.
pub mention_push : (id : ℕ) (xs : List Event) (e : Event) → last_mention id (xs ++ e ∷ []) ≡ later_or (cond (eqb e.subject.id id) (Some e) None) (last_mention id xs)
mention_push id xs e = mention_append id xs (e ∷ [])

-- ---- the parts of what is live

same_mentioned : (id : ℕ) (r : Record) (events : List Event) → eqb r.id id ≡ true → is_mentioned r.id events ≡ is_mentioned id events
same_mentioned id r events here = ap (λ (n : ℕ). is_mentioned n events) (eqb-true r.id id here)

-- What is unmentioned has of a record what the base has of it, unless it is mentioned.
of_cond : (id : ℕ) (test : Bool) (xs ys : List Record) → record_of id (cond test xs ys) ≡ cond test (record_of id xs) (record_of id ys)
of_cond id true xs ys = refl
of_cond id false xs ys = refl

unmentioned_step : (here mentioned itself : Bool) (r : Record) (u f : Option Record) → (here ≡ true → itself ≡ mentioned) → u ≡ cond mentioned None f
    → cond (not itself) (cond here (Some r) u) u ≡ cond mentioned None (cond here (Some r) f)
unmentioned_step true true true r u f same e = e
unmentioned_step true true false r u f same e = absurd (false≢true (same refl))
unmentioned_step true false true r u f same e = absurd (false≢true (sym (same refl)))
unmentioned_step true false false r u f same e = refl
unmentioned_step false true true r u f same e = e
unmentioned_step false true false r u f same e = e
unmentioned_step false false true r u f same e = e
unmentioned_step false false false r u f same e = e

-- A choice between one value and itself.
same_either : {A : Type 0} (mentioned : Bool) (none : A) → none ≡ cond mentioned none none
same_either true none = refl
same_either false none = refl

unmentioned_of : (id : ℕ) (events : List Event) (base : List Record) → record_of id (unmentioned events base) ≡ cond (is_mentioned id events) None (record_of id base)
unmentioned_of id events [] = same_either (is_mentioned id events) None
unmentioned_of id events (r ∷ rs) =
    of_cond id (not (is_mentioned r.id events)) (r ∷ unmentioned events rs) (unmentioned events rs)
    ∙ unmentioned_step (eqb r.id id) (is_mentioned id events) (is_mentioned r.id events) r (record_of id (unmentioned events rs)) (record_of id rs)
    (same_mentioned id r events) (unmentioned_of id events rs)

-- Of a record that is mentioned, the last mention says what is live of it.
said_step : (here itself gone : Bool) (e : Event) (l : Option Record) (last : Option Event) → is_deletion e.action ≡ gone → (here ≡ true → itself ≡ is_some last) → l ≡ by_mention None last
    → cond (itself || gone) l (cond here (Some e.subject) l) ≡ by_mention None (later_or last (cond here (Some e) None))
said_step true true gone e l (Some m) is same h = h
said_step true true gone e l None is same h = absurd (false≢true (sym (same refl)))
said_step true false gone e l (Some m) is same h = absurd (false≢true (same refl))
said_step true false true e l None is same h = rw is h
said_step true false false e l None is same h = rw is refl
said_step false true gone e l None is same h = h
said_step false true gone e l (Some m) is same h = h
said_step false false true e l None is same h = h
said_step false false true e l (Some m) is same h = h
said_step false false false e l None is same h = h
said_step false false false e l (Some m) is same h = h

last_mentions_of : (id : ℕ) (events : List Event) → record_of id (last_mentions events) ≡ by_mention None (last_mention id events)
last_mentions_of id [] = refl
last_mentions_of id (e ∷ later) =
    of_cond id (is_mentioned e.subject.id later || is_deletion e.action) (last_mentions later) (e.subject ∷ last_mentions later)
    ∙ said_step (eqb e.subject.id id) (is_mentioned e.subject.id later) (is_deletion e.action) e (record_of id (last_mentions later)) (last_mention id later) refl
    (λ here. same_mentioned id e.subject later here ∙ mentioned_some id later) (last_mentions_of id later)

-- Both together.
either_step : (b : Option Record) (last : Option Event) (mentioned : Bool) → mentioned ≡ is_some last → option_or (cond mentioned None b) (by_mention None last) ≡ by_mention b last
either_step None None true h = absurd (false≢true (sym h))
either_step (Some r) None true h = absurd (false≢true (sym h))
either_step None None false h = refl
either_step (Some r) None false h = refl
either_step b (Some e) true h = refl
either_step b (Some e) false h = absurd (false≢true h)

pub live_of : (id : ℕ) (base : List Record) (events : List Event) → record_of id (live base events) ≡ by_mention (record_of id base) (last_mention id events)
live_of id base events =
    record_of_in_order id (unmentioned events base ++ last_mentions events)
    ∙ find-append (λ (r : Record). eqb r.id id) (unmentioned events base) (last_mentions events)
    ∙ ap (λ (o : Option Record). option_or o (record_of id (last_mentions events))) (unmentioned_of id events base)
    ∙ ap (λ (o : Option Record). option_or (cond (is_mentioned id events) None (record_of id base)) o) (last_mentions_of id events)
    ∙ either_step (record_of id base) (last_mention id events) (is_mentioned id events) (mentioned_some id events)

-- ---- each identifier once

times_cond : (n : ℕ) (test : Bool) (xs ys : List Record) → times n (ids (cond test xs ys)) ≡ cond test (times n (ids xs)) (times n (ids ys))
times_cond n true xs ys = refl
times_cond n false xs ys = refl

unmentioned_times_step : (here mentioned itself : Bool) (u f : ℕ) → (here ≡ true → itself ≡ mentioned) → u ≡ cond mentioned 0 f
    → cond (not itself) (cond here 1 0 + u) u ≡ cond mentioned 0 (cond here 1 0 + f)
unmentioned_times_step true true true u f same e = e
unmentioned_times_step true true false u f same e = absurd (false≢true (same refl))
unmentioned_times_step true false true u f same e = absurd (false≢true (sym (same refl)))
unmentioned_times_step true false false u f same e = omega (arith, e)
unmentioned_times_step false true true u f same e = e
unmentioned_times_step false true false u f same e = omega (arith, e)
unmentioned_times_step false false true u f same e = omega (arith, e)
unmentioned_times_step false false false u f same e = omega (arith, e)

unmentioned_times : (n : ℕ) (events : List Event) (base : List Record) → times n (ids (unmentioned events base)) ≡ cond (is_mentioned n events) 0 (times n (ids base))
unmentioned_times n events [] = same_either (is_mentioned n events) 0
unmentioned_times n events (r ∷ rs) =
    times_cond n (not (is_mentioned r.id events)) (r ∷ unmentioned events rs) (unmentioned events rs)
    ∙ ap (λ (k : ℕ). cond (not (is_mentioned r.id events)) k (times n (ids (unmentioned events rs)))) (times_cons n r.id (ids (unmentioned events rs)))
    ∙ unmentioned_times_step (eqb r.id n) (is_mentioned n events) (is_mentioned r.id events) (times n (ids (unmentioned events rs))) (times n (ids rs))
    (same_mentioned n r events) (unmentioned_times n events rs)
    ∙ ap (λ (k : ℕ). cond (is_mentioned n events) 0 k) (sym (times_cons n r.id (ids rs)))

said_times_step : (here mentioned itself gone : Bool) (l : ℕ) → (here ≡ true → itself ≡ mentioned) → l ≤ cond mentioned 1 0
    → cond (itself || gone) l (cond here 1 0 + l) ≤ cond (here || mentioned) 1 0
said_times_step true true true gone l same le = le
said_times_step true true false gone l same le = absurd (false≢true (same refl))
said_times_step true false true gone l same le = absurd (false≢true (sym (same refl)))
said_times_step true false false true l same le = omega (arith, le)
said_times_step true false false false l same le = omega (arith, le)
said_times_step false mentioned true gone l same le = le
said_times_step false mentioned false true l same le = le
said_times_step false mentioned false false l same le = omega (arith, le)

last_mentions_times : (n : ℕ) (events : List Event) → times n (ids (last_mentions events)) ≤ cond (is_mentioned n events) 1 0
last_mentions_times n [] = omega arith
last_mentions_times n (e ∷ later) =
    let l : ℕ = times n (ids (last_mentions later)) in
    let is : times n (ids (last_mentions (e ∷ later))) ≡ cond (is_mentioned e.subject.id later || is_deletion e.action) l (cond (eqb e.subject.id n) 1 0 + l) =
    times_cond n (is_mentioned e.subject.id later || is_deletion e.action) (last_mentions later) (e.subject ∷ last_mentions later)
    ∙ ap (λ (k : ℕ). cond (is_mentioned e.subject.id later || is_deletion e.action) l k) (times_cons n e.subject.id (ids (last_mentions later))) in
    subst (λ (k : ℕ). k ≤ cond (is_mentioned n (e ∷ later)) 1 0) (sym is)
    (said_times_step (eqb e.subject.id n) (is_mentioned n later) (is_mentioned e.subject.id later) (is_deletion e.action) l
    (same_mentioned n e.subject later) (last_mentions_times n later))

ids-append : (xs ys : List Record) → ids (xs ++ ys) ≡ ids xs ++ ids ys
ids-append [] ys = refl
ids-append (x ∷ xs) ys = ap (λ (ns : List ℕ). x.id ∷ ns) (ids-append xs ys)

sum_once : (mentioned : Bool) (u b l : ℕ) → u ≡ cond mentioned 0 b → b < 2 → l ≤ cond mentioned 1 0 → u + l < 2
sum_once true u b l e lt le = omega (arith, e, le)
sum_once false u b l e lt le = omega (arith, e, le, lt)

once_live : (n : ℕ) (base : List Record) (events : List Event) → IsStrictlyIncreasing (ids base) → times n (ids (unmentioned events base ++ last_mentions events)) < 2
once_live n base events up =
    let both : times n (ids (unmentioned events base ++ last_mentions events)) ≡ times n (ids (unmentioned events base)) + times n (ids (last_mentions events)) =
    ap (times n) (ids-append (unmentioned events base) (last_mentions events))
    ∙ sum_by-append (λ (other : ℕ). cond (eqb other n) 1 0) (ids (unmentioned events base)) (ids (last_mentions events)) in
    subst (λ (k : ℕ). k < 2) (sym both)
    (sum_once (is_mentioned n events) _ (times n (ids base)) _ (unmentioned_times n events base) (once_strict n (ids base) up) (last_mentions_times n events))

-- What is live has rising identifiers.
pub live_rises : (base : List Record) (events : List Event) → IsStrictlyIncreasing (ids base) → IsStrictlyIncreasing (ids (live base events))
live_rises base events up =
    let records : List Record = unmentioned events base ++ last_mentions events in
    (in_order_rising_permutation records).strict ((doubled_is_least_repeated (ids records) None).1 (λ n. once_live n base events up))

-- ---- what `live` is

pub live_is : (base : List Record) (events : List Event) → IsStrictlyIncreasing (ids base) → IsLive base events (live base events)
live_is base events up = record { rising = live_rises base events up; each = λ id. live_of id base events }

pub only_live : (base : List Record) (events : List Event) (records : List Record) → IsStrictlyIncreasing (ids base) → IsLive base events records → live base events ≡ records
only_live base events records up is =
    same_records (live base events) records (live_rises base events up) is.rising (λ id. live_of id base events ∙ sym (is.each id))

pub live_is_last_mention : LiveIsLastMention
live_is_last_mention base events records up = (λ e. subst (IsLive base events) e (live_is base events up), λ is. only_live base events records up is)

-- Events one after another.
mentions_both : (b : Option Record) (last first : Option Event) → by_mention b (later_or last first) ≡ by_mention (by_mention b first) last
mentions_both b None first = refl
mentions_both b (Some e) first = refl

pub live_more : (base : List Record) (xs ys : List Event) → IsStrictlyIncreasing (ids base) → live (live base xs) ys ≡ live base (xs ++ ys)
live_more base xs ys up =
    only_live (live base xs) ys (live base (xs ++ ys)) (live_rises base xs up) (record {
      rising = live_rises base (xs ++ ys) up;
      each = λ id.
          live_of id base (xs ++ ys) ∙ ap (by_mention (record_of id base)) (mention_append id xs ys)
          ∙ mentions_both (record_of id base) (last_mention id ys) (last_mention id xs)
          ∙ ap (λ (b : Option Record). by_mention b (last_mention id ys)) (sym (live_of id base xs));
    })

-- Without events it is the base.
pub live_none : (base : List Record) → IsStrictlyIncreasing (ids base) → live base [] ≡ base
live_none base up = only_live base [] base up (record { rising = up; each = λ id. refl })
