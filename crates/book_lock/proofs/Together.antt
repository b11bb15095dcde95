-- What passes come to that meet.
use Rattle.std.proofs.Common.{◌≡◌, ◌≢◌, ◌⊎◌, ◌<◌, ◌≤◌, ◌+◌, ◌||◌, ◌&&◌, ℕ, zero, suc, Bool, true, false, List, [], ◌∷◌, ◌++◌, length, refl, sym, ap, ◌∙◌, subst, ⊎_elim, inl, inr, arith, append_assoc, append-nil, length-append, true≢false}
use Rattle.collector_core.proofs.Marks.{others_append}
use Rattle.std.specs.List.{list_any}
use Rattle.atomic_table.specs.Seated.{TableId}
use Rattle.collector_core.specs.declared.chronicle.Entry.{Entry}
use Rattle.collector_core.specs.declared.chronicle.Mark.{Mark}
use Rattle.collector_core.specs.Desks.{AreOthers, AreOwn, entries}
use Rattle.book_lock.specs.Passes.{Agree, Grows, IsSound, PassView, merged, met}
use Rattle.book_lock.specs.PassDesk.{pass_went_on, stays_pass}
use Rattle.book_lock.specs.Together.{AllBegin, AreOf, AreReaders, MetAll, OneHas, one_if, own_at, owners}

or_none : (b : Bool) → (b || false) ≡ b
or_none true = refl
or_none false = refl

-- ---- one list from two

pub merged_left : (xs ys : List Mark) → AreOwn xs → length ys ≤ length xs → merged xs ys ≡ xs
merged_left [] [] own le = refl
merged_left [] (y ∷ ys) own le = absurd (omega (arith, le))
merged_left (x ∷ xs) [] own le = refl
merged_left (x ∷ xs) (y ∷ ys) own le =
    ap (λ (b : Bool). let m : Mark = record { entry = x.entry; own = b } in m ∷ merged xs ys) (ap (λ (b : Bool). b || y.own) own.0 ∙ sym own.0)
    ∙ ap (λ (ms : List Mark). x ∷ ms) (merged_left xs ys own.1 (omega (arith, le)))

pub merged_right : (xs ys : List Mark) → AreOwn ys → Agree xs ys → length xs ≤ length ys → merged xs ys ≡ ys
merged_right [] ys own agree le = refl
merged_right (x ∷ xs) [] own agree le = absurd (omega (arith, le))
merged_right (x ∷ xs) (y ∷ ys) own agree le =
    ap (λ (b : Bool). let m : Mark = record { entry = x.entry; own = b } in m ∷ merged xs ys) (ap (λ (b : Bool). x.own || b) own.0 ∙ or_true x.own ∙ sym own.0)
    ∙ ap (λ (e : Entry). let m : Mark = record { entry = e; own = y.own } in m ∷ merged xs ys) agree.0
    ∙ ap (λ (ms : List Mark). y ∷ ms) (merged_right xs ys own.1 agree.2 (omega (arith, le)))
  where
    or_true : (b : Bool) → (b || true) ≡ true
    or_true true = refl
    or_true false = refl

-- From a list without own entries the other gets others' entries alone.
pub merged_more : (xs ys : List Mark) → AreOthers ys → Agree xs ys → (more : List Mark) × AreOthers more × (merged xs ys ≡ xs ++ more)
merged_more [] ys bare agree = (ys, bare, refl)
merged_more (x ∷ xs) [] bare agree = ([], tt, sym (append-nil (x ∷ xs)))
merged_more (x ∷ xs) (y ∷ ys) bare agree =
    let later = merged_more xs ys bare.1 agree.2 in (
      later.0,
      later.1,
      ap (λ (b : Bool). let m : Mark = record { entry = x.entry; own = b } in m ∷ merged xs ys) (ap (λ (b : Bool). x.own || b) bare.0 ∙ or_none x.own)
          ∙ ap (λ (ms : List Mark). x ∷ ms) later.2,
    )

begin_left : (xs ys : List Mark) → (rest : List Entry) × (entries (merged xs ys) ≡ entries xs ++ rest)
begin_left [] ys = (entries ys, refl)
begin_left (x ∷ xs) [] = ([], sym (append-nil (entries (x ∷ xs))))
begin_left (x ∷ xs) (y ∷ ys) = let later = begin_left xs ys in (later.0, ap (λ (es : List Entry). x.entry ∷ es) later.1)

begin_right : (xs ys : List Mark) → Agree xs ys → (rest : List Entry) × (entries (merged xs ys) ≡ entries ys ++ rest)
begin_right [] ys agree = ([], sym (append-nil (entries ys)))
begin_right (x ∷ xs) [] agree = (entries (x ∷ xs), refl)
begin_right (x ∷ xs) (y ∷ ys) agree =
    let later = begin_right xs ys agree.2 in
    (later.0, ap (λ (es : List Entry). x.entry ∷ es) later.1 ∙ ap (λ (e : Entry). e ∷ (entries ys ++ later.0)) agree.0)

length_merged : (xs ys : List Mark) → (length (merged xs ys) ≡ length xs) ⊎ (length (merged xs ys) ≡ length ys)
length_merged [] ys = inr refl
length_merged (x ∷ xs) [] = inl refl
length_merged (x ∷ xs) (y ∷ ys) =
    ⊎_elim (λ (left : length (merged xs ys) ≡ length xs). inl (ap suc left)) (λ (right : length (merged xs ys) ≡ length ys). inr (ap suc right)) (length_merged xs ys)

one_or : (a b : Bool) → (a && b) ≡ false → one_if a + one_if b ≡ one_if (a || b)
one_or true true apart = absurd (true≢false apart)
one_or true false apart = omega arith
one_or false b apart = omega arith

owned_merged : (xs ys : List Mark) (place : ℕ) → Agree xs ys → one_if (own_at xs place) + one_if (own_at ys place) ≡ one_if (own_at (merged xs ys) place)
owned_merged [] ys place agree = omega arith
owned_merged (x ∷ xs) [] place agree = omega arith
owned_merged (x ∷ xs) (y ∷ ys) zero agree = one_or x.own y.own agree.1
owned_merged (x ∷ xs) (y ∷ ys) (suc place) agree = owned_merged xs ys place agree.2

pub own_each : (xs : List Mark) (place : ℕ) → AreOwn xs → place < length xs → own_at xs place ≡ true
own_each [] place own below = absurd (omega (arith, below))
own_each (x ∷ xs) zero own below = own.0
own_each (x ∷ xs) (suc place) own below = own_each xs place own.1 (omega (arith, below))

-- ---- one pass, and another

all_begin : (passes : List PassView) (xs ys : List Mark) → (rest : List Entry) → entries ys ≡ entries xs ++ rest → AllBegin passes xs → AllBegin passes ys
all_begin [] xs ys rest longer begin = tt
all_begin (p ∷ ps) xs ys rest longer begin = (
  (begin.0.0 ++ rest, longer ∙ (ap (λ (es : List Entry). es ++ rest) begin.0.1 ∙ append_assoc (entries p.seen) begin.0.0 rest)),
  all_begin ps xs ys rest longer begin.1,
)

or_more : (a b c : Bool) → ((a || c) || b) ≡ (a || (b || c))
or_more true b c = refl
or_more false true true = refl
or_more false true false = refl
or_more false false true = refl
or_more false false false = refl

-- A pass alone.
pub met_one : (pass : PassView) → IsSound pass → MetAll (pass ∷ []) pass
met_one pass sound = record {
  begin = (([], sym (append-nil (entries pass.seen))), tt);
  no_more = inl refl;
  owned = λ place. omega arith;
  may_change = sym (or_none pass.may_change);
  sole = sym (or_none pass.sole);
  each_once = λ sole place below. let own = ap one_if (own_each pass.seen place (sound.sole_own sole) below) in omega (arith, own);
}

-- One more.
pub met_more : (first : PassView) (passes : List PassView) (one other : PassView) → MetAll (first ∷ passes) one → Agree one.seen other.seen → IsSound (met one other)
    → MetAll (first ∷ other ∷ passes) (met one other)
met_more first passes one other all agree sound =
    let left = begin_left one.seen other.seen in
    let firsts = all_begin (first ∷ passes) one.seen (merged one.seen other.seen) left.0 left.1 all.begin in
    let owned : (place : ℕ) → owners place (first ∷ other ∷ passes) ≡ one_if (own_at (merged one.seen other.seen) place) =
    λ place. let was = all.owned place in let now = owned_merged one.seen other.seen place agree in omega (arith, was, now) in record {
      begin = (firsts.0, (begin_right one.seen other.seen agree, firsts.1));
      no_more = ⊎_elim
          (λ (same : length (merged one.seen other.seen) ≡ length one.seen). has_more (length one.seen) (length (merged one.seen other.seen)) same all.no_more)
          (λ (same : length (merged one.seen other.seen) ≡ length other.seen). inr (inl (sym same)))
          (length_merged one.seen other.seen);
      owned = owned;
      may_change = ap (λ (b : Bool). b || other.may_change) all.may_change
          ∙ or_more first.may_change other.may_change (list_any (λ (pass : PassView). pass.may_change) passes);
      sole = ap (λ (b : Bool). b || other.sole) all.sole ∙ or_more first.sole other.sole (list_any (λ (pass : PassView). pass.sole) passes);
      each_once = λ sole place below.
          owned place ∙ ap one_if (own_each (merged one.seen other.seen) place (sound.sole_own sole) below);
    }
  where
    has_more : (count more : ℕ) → more ≡ count → OneHas (first ∷ passes) count → OneHas (first ∷ other ∷ passes) more
    has_more count more same = ⊎_elim
        (λ (is : length first.seen ≡ count). inl (is ∙ sym same))
        (λ (later : OneHas passes count). inr (inr (subst (OneHas passes) (sym same) later)))

-- ---- a pass that meets one that may not change

no_length : (xs : List Mark) → length xs ≡ 0 → xs ≡ []
no_length [] none = refl
no_length (x ∷ xs) none = absurd (omega (arith, none))

nothing_more : (xs more : List Mark) → xs ++ more ≡ xs → more ≡ []
nothing_more xs more same = no_length more (let one = ap length same in let two = length-append xs more in omega (arith, one, two))

not_sole : (q : PassView) → IsSound q → q.may_change ≡ false → (b : Bool) → q.sole ≡ b → b ≡ false
not_sole q sound bare true sole = absurd (true≢false (sym (sound.sole_may sole) ∙ bare))
not_sole q sound bare false sole = refl

-- It has seen others' entries, and is else as it was.
pub met_reader : (p q now : PassView) → now ≡ met p q → Agree p.seen q.seen → (p.sole ≡ true → now.seen ≡ p.seen) → IsSound q → IsSound now → q.may_change ≡ false → Grows p now
met_reader p q now is agree whole other sound bare =
    let more = merged_more p.seen q.seen (other.bare bare) agree in
    let seen : now.seen ≡ p.seen ++ more.0 = ap (λ (x : PassView). x.seen) is ∙ more.2 in (
      more.0,
      more.1,
      record {
        shelf = ap (λ (x : PassView). x.shelf) is;
        start = ap (λ (x : PassView). x.start) is;
        seen = seen;
        may_change = ap (λ (x : PassView). x.may_change) is ∙ ap (λ (b : Bool). p.may_change || b) bare ∙ or_none p.may_change;
        sole = ap (λ (x : PassView). x.sole) is ∙ ap (λ (b : Bool). p.sole || b) (not_sole q other bare q.sole refl) ∙ or_none p.sole;
        alone = λ sole. subst AreOwn (sym (nothing_more p.seen more.0 (sym seen ∙ whole sole))) tt;
        lawful = λ lawful. sound.lawful;
      },
    )

grows_on : (one two three : PassView) → Grows one two → Grows two three → Grows one three
grows_on one two three a b = (a.0 ++ b.0, others_append a.0 b.0 a.1 b.1, pass_went_on one two three a.0 b.0 a.2 b.2)

-- ---- a list of passes, one after another

-- What is met so far, with those that are left.
pub record MetSo (shelf : TableId) (first : PassView) (all left : List PassView) (one : PassView) : Type 0 where
  pub here : one.shelf ≡ shelf
  pub start : one.start ≡ first.start
  pub sound : IsSound one
  pub are_of : AreOf shelf left
  pub done : List PassView
  pub parts : all ≡ left ++ done
  pub met : MetAll (first ∷ done) one
  pub sole : first.sole ≡ true → one.seen ≡ first.seen
  pub readers : AreReaders done → Grows first one

pub met_first : (shelf : TableId) (first : PassView) (all : List PassView) → first.shelf ≡ shelf → IsSound first → AreOf shelf all → MetSo shelf first all all first
met_first shelf first all here sound are_of = record {
  here = here;
  start = refl;
  sound = sound;
  are_of = are_of;
  done = [];
  parts = sym (append-nil all);
  met = met_one first sound;
  sole = λ sole. refl;
  readers = λ readers. ([], tt, stays_pass first);
}

are_of_first : (shelf : TableId) (xs : List PassView) (x : PassView) → AreOf shelf (xs ++ x ∷ []) → AreOf shelf xs
are_of_first shelf [] x are_of = tt
are_of_first shelf (y ∷ ys) x are_of = (are_of.0, are_of_first shelf ys x are_of.1)

pub are_of_last : (shelf : TableId) (xs : List PassView) (x : PassView) → AreOf shelf (xs ++ x ∷ []) → x.shelf ≡ shelf
are_of_last shelf [] x are_of = are_of.0
are_of_last shelf (y ∷ ys) x are_of = are_of_last shelf ys x are_of.1

pub met_next : (shelf : TableId) (first : PassView) (all before left : List PassView) (one other now : PassView) → MetSo shelf first all before one → before ≡ left ++ other ∷ []
    → now ≡ met one other → Agree one.seen other.seen → now.shelf ≡ shelf → IsSound now → (one.sole ≡ true → now.seen ≡ one.seen) → (other.may_change ≡ false → Grows one now)
    → MetSo shelf first all left now
met_next shelf first all before left one other now so last is agree here sound whole reader = record {
  here = here;
  start = ap (λ (p : PassView). p.start) is ∙ so.start;
  sound = sound;
  are_of = are_of_first shelf left other (subst (AreOf shelf) last so.are_of);
  done = other ∷ so.done;
  parts = so.parts ∙ ap (λ (ps : List PassView). ps ++ so.done) last ∙ append_assoc left (other ∷ []) so.done;
  met = subst (MetAll (first ∷ other ∷ so.done)) (sym is) (met_more first so.done one other so.met agree (subst IsSound is sound));
  sole = λ sole. whole (so.met.sole ∙ ap (λ (b : Bool). b || list_any (λ (pass : PassView). pass.sole) so.done) sole) ∙ so.sole sole;
  readers = λ readers. grows_on first one now (so.readers readers.1) (reader readers.0);
}

pub all_done : (shelf : TableId) (first : PassView) (all left : List PassView) (one : PassView) (so : MetSo shelf first all left one) → left ≡ [] → all ≡ so.done
all_done shelf first all left one so none = so.parts ∙ ap (λ (ps : List PassView). ps ++ so.done) none

pub readers_last : (shelf : TableId) (first : PassView) (all left : List PassView) (one : PassView) → MetSo shelf first all left one → left ≡ [] → AreReaders all → Grows first one
readers_last shelf first all left one so none readers = so.readers (subst AreReaders (all_done shelf first all left one so none) readers)

pub met_last : (shelf : TableId) (first : PassView) (all left : List PassView) (one : PassView) → MetSo shelf first all left one → left ≡ [] → MetAll (first ∷ all) one
met_last shelf first all left one so none =
    subst (λ (ps : List PassView). MetAll (first ∷ ps) one) (sym (all_done shelf first all left one so none)) so.met
