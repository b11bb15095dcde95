-- What the rule says of all passes stays true where one of them changes, or a new one comes.
use Rattle.std.proofs.Common.{◌≡◌, ◌≢◌, ◌⊎◌, ◌<◌, ◌≤◌, ◌+◌, ◌^◌, ℕ, zero, suc, true, false, List, [], ◌∷◌, ◌++◌, length, set, get_or, refl, sym, ap, ◌∙◌, subst, ⊎_elim, inl, inr, arith, Option, length-set}
use Rattle.std.proofs.lemmas.Bool.{cases_eq}
use mathlib.Core.Option as maybe
use mathlib.Core.Option.{some, none, some-injective, some-ne-none}
use lib.ListN.{get_elem?}
use Rattle.atomic_table.specs.Table.{State}
use Rattle.atomic_table.proofs.Lists.{at_set, set_else}
use Rattle.collector_core.specs.Standing.{BookView}
use Rattle.book_lock.specs.declared.view.View.{View}
use Rattle.book_lock.specs.Logs.{Known, LegalWith, Logged, entries_in}
use Rattle.book_lock.specs.Rule.{Alone, IsHome, IsOut, Kept, Knows, has_ticket, waiting}

abbrev pub BoardState : Type 0
BoardState = State (Option BookView) View

abbrev pub Slots : Type 0
Slots = List (maybe.Option (Option BookView))

-- ---- lists

pub set_read : (words : List ℕ) (i : ℕ) → set words i (get_or words i 0) ≡ words
set_read [] i = refl
set_read (x ∷ xs) zero = refl
set_read (x ∷ xs) (suc i) = ap (λ (ws : List ℕ). x ∷ ws) (set_read xs i)

pub at_length : (views : List View) (i : ℕ) (v : View) → get_elem? views i ≡ some v → i < length views
at_length [] i v there = absurd (some-ne-none v (sym there))
at_length (x ∷ xs) zero v there = omega arith
at_length (x ∷ xs) (suc i) v there = let further = at_length xs i v there in omega (arith, further)

pub view_at : (views : List View) (i : ℕ) → i < length views → (v : View) × (get_elem? views i ≡ some v)
view_at [] i below = absurd (omega (arith, below))
view_at (x ∷ xs) zero below = (x, refl)
view_at (x ∷ xs) (suc i) below = view_at xs i (omega (arith, below))

pub at_added : (views : List View) (r : View) (j : ℕ) (u : View) → get_elem? (views ++ r ∷ []) j ≡ some u → (get_elem? views j ≡ some u) ⊎ ((j ≡ length views) × (r ≡ u))
at_added [] r zero u there = inr (refl, some-injective r u there)
at_added [] r (suc j) u there = absurd (some-ne-none u (sym there))
at_added (x ∷ xs) r zero u there = inl there
at_added (x ∷ xs) r (suc j) u there =
    ⊎_elim (λ (before : get_elem? xs j ≡ some u). inl before) (λ (new : (j ≡ length xs) × (r ≡ u)). inr (ap suc new.0, new.1)) (at_added xs r j u there)

-- A fact of each pass, after one has changed.
pub each_set : (P : ℕ → View → Type 0) (views : List View) (id : ℕ) (w : View) → P id w
    → ((j : ℕ) (u : View) → j ≢ id → get_elem? views j ≡ some u → P j u) → (j : ℕ) (u : View) → get_elem? (set views id w) j ≡ some u → P j u
each_set P views id w mine others j u there =
    ⊎_elim (λ (x : (j ≡ id) × (w ≡ u)). subst (λ (y : ℕ × View). P y.0 y.1) (λ i. (sym x.0 i, x.1 i)) mine)
    (λ (x : (j ≢ id) × (get_elem? views j ≡ some u)). others j u x.0 x.1)
    (at_set views id j w u there)

-- The same after a new one came.
pub each_added : (P : ℕ → View → Type 0) (views : List View) (r : View) → P (length views) r
    → ((j : ℕ) (u : View) → get_elem? views j ≡ some u → P j u) → (j : ℕ) (u : View) → get_elem? (views ++ r ∷ []) j ≡ some u → P j u
each_added P views r mine others j u there =
    ⊎_elim (λ (before : get_elem? views j ≡ some u). others j u before)
    (λ (x : (j ≡ length views) × (r ≡ u)). subst (λ (y : ℕ × View). P y.0 y.1) (λ i. (sym x.0 i, x.1 i)) mine)
    (at_added views r j u there)

-- ---- tickets

pub has_some : (stage : ℕ) → 0 < stage → has_ticket stage ≡ 1
has_some zero some_stage = absurd (omega (arith, some_stage))
has_some (suc stage) some_stage = refl

pub waiting_set : (views : List View) (id : ℕ) (v w : View) → get_elem? views id ≡ some v → waiting (set views id w) + has_ticket v.stage ≡ waiting views + has_ticket w.stage
waiting_set [] id v w there = absurd (some-ne-none v (sym there))
waiting_set (x ∷ xs) zero v w there = let same : has_ticket x.stage ≡ has_ticket v.stage = ap (λ (u : View). has_ticket u.stage) (some-injective x v there) in omega (arith, same)
waiting_set (x ∷ xs) (suc id) v w there = let further = waiting_set xs id v w there in omega (arith, further)

pub waiting_added : (views : List View) (r : View) → waiting (views ++ r ∷ []) ≡ waiting views + has_ticket r.stage
waiting_added [] r = omega arith
waiting_added (x ∷ xs) r = let further = waiting_added xs r in omega (arith, further)

abbrev pub Distinct : List View → Type 0
Distinct views = (one other : ℕ) (v w : View) → get_elem? views one ≡ some v → get_elem? views other ≡ some w
    → 0 < v.stage → 0 < w.stage → v.ticket ≡ w.ticket → one ≡ other

-- The ticket of the pass that changes is nobody else's.
pub distinct_set : (views : List View) (id : ℕ) (w : View)
    → ((j : ℕ) (u : View) → j ≢ id → get_elem? views j ≡ some u → 0 < u.stage → 0 < w.stage → u.ticket ≡ w.ticket → ⊥) → Distinct views → Distinct (set views id w)
distinct_set views id w fresh distinct one other v u at_one at_other =
    each_set (λ (j : ℕ) (x : View). (i : ℕ) (y : View) → get_elem? (set views id w) i ≡ some y → 0 < x.stage → 0 < y.stage → x.ticket ≡ y.ticket → j ≡ i) views id w
    (each_set (λ (i : ℕ) (y : View). 0 < w.stage → 0 < y.stage → w.ticket ≡ y.ticket → id ≡ i) views id w
    (λ p q same. refl)
    (λ i y apart there p q same. absurd (fresh i y apart there q p (sym same))))
    (λ j x apart there. each_set (λ (i : ℕ) (y : View). 0 < x.stage → 0 < y.stage → x.ticket ≡ y.ticket → j ≡ i) views id w
    (λ p q same. absurd (fresh j x apart there p q same))
    (λ i y apart_too there_too p q same. distinct j i x y there there_too p q same))
    one v at_one other u at_other

pub distinct_added : (views : List View) (r : View) → r.stage ≡ 0 → Distinct views → Distinct (views ++ r ∷ [])
distinct_added views r idle distinct one other v u at_one at_other =
    each_added (λ (j : ℕ) (x : View). (i : ℕ) (y : View) → get_elem? (views ++ r ∷ []) i ≡ some y → 0 < x.stage → 0 < y.stage → x.ticket ≡ y.ticket → j ≡ i) views r
    (λ i y there p q same. absurd (omega (arith, idle, p)))
    (λ j x there. each_added (λ (i : ℕ) (y : View). 0 < x.stage → 0 < y.stage → x.ticket ≡ y.ticket → j ≡ i) views r
    (λ p q same. absurd (omega (arith, idle, q)))
    (λ i y there_too p q same. distinct j i x y there there_too p q same))
    one v at_one other u at_other

-- ---- sole passes

abbrev pub AllAlone : List View → Type 0
AllAlone views = (j : ℕ) (u : View) → get_elem? views j ≡ some u → Alone views j u

-- The pass that changes may change where it might, and is not sole where it was not.
module _ (views : List View) (id : ℕ) (v w : View) (at : get_elem? views id ≡ some v) (may : w.may_change ≡ v.may_change) (sole : w.sole ≡ true → v.sole ≡ true) where
  alone_moved : (j : ℕ) (u before : View) → u.may_change ≡ before.may_change → (u.sole ≡ true → before.sole ≡ true) → Alone views j before → Alone (set views id w) j u
  alone_moved j u before same was a = record {
    may = λ s. same ∙ a.may (was s);
    only = λ s. each_set (λ (i : ℕ) (x : View). x.may_change ≡ true → i ≡ j) views id w (λ m. a.only (was s) id v at (sym may ∙ m)) (λ i x apart there m. a.only (was s) i x there m);
  }

  pub alone_set : AllAlone views → AllAlone (set views id w)
  alone_set alone = each_set (λ (j : ℕ) (u : View). Alone (set views id w) j u) views id w
      (alone_moved id w v may sole (alone id v at))
      (λ j u apart there. alone_moved j u u refl (λ s. s) (alone j u there))

-- A new pass that may change comes only where none is sole.
pub alone_added : (views : List View) (r : View) → r.sole ≡ false
    → (r.may_change ≡ true → (j : ℕ) (u : View) → get_elem? views j ≡ some u → u.sole ≡ true → ⊥) → AllAlone views → AllAlone (views ++ r ∷ [])
alone_added views r bare none_sole alone = each_added (λ (j : ℕ) (u : View). Alone (views ++ r ∷ []) j u) views r
    (record { may = λ s. absurd cc; only = λ s. absurd cc })
    (λ j u there. record {
      may = λ s. (alone j u there).may s;
      only = λ s. each_added (λ (i : ℕ) (x : View). x.may_change ≡ true → i ≡ j) views r (λ m. absurd (none_sole m j u there s)) (λ i x there_too m. (alone j u there).only s i x there_too m);
    })

-- ---- the slot and the count

module _ (start : BookView) (log : List Logged) (views : List View) (homes : Slots) (id : ℕ) (v w : View) (at : get_elem? views id ≡ some v) where
  -- A pass without the book has none afterwards.
  pub place_set : v.stage < 3 → w.stage < 3 → IsHome start log views homes ⊎ IsOut views homes → IsHome start log (set views id w) homes ⊎ IsOut (set views id w) homes
  place_set low lower = ⊎_elim
      (λ (h : IsHome start log views homes). inl (record {
        book = h.book;
        there = h.there;
        stands = h.stands;
        nobody = each_set (λ (j : ℕ) (u : View). u.stage < 3) views id w lower (λ j u apart there. h.nobody j u there);
      }))
      (λ (o : IsOut views homes). inr (record {
        empty = o.empty;
        number = o.number;
        v = o.v;
        there = set_else views id o.number w (λ same. holder_is o same) ∙ o.there;
        holds = o.holds;
      }))
    where
      holder_is : (o : IsOut views homes) → o.number ≡ id → ⊥
      holder_is o same =
          let one : o.v ≡ v = some-injective o.v v (sym o.there ∙ (ap (λ (n : ℕ). get_elem? views n) same ∙ at)) in
          let stages : o.v.stage ≡ v.stage = ap (λ (u : View). u.stage) one in
          omega (arith, o.holds, low, stages)

  -- Where none has committed, none had.
  pub fewer_set : (turn : ℕ) → v.stage ≢ 4 → (((j : ℕ) (u : View) → get_elem? views j ≡ some u → u.stage ≢ 4) → length log ≤ turn)
      → ((j : ℕ) (u : View) → get_elem? (set views id w) j ≡ some u → u.stage ≢ 4) → length log ≤ turn
  fewer_set turn open_still fewer now = fewer (λ j u there. ⊎_elim
      (λ (same : j ≡ id). λ done. open_still (ap (λ (x : View). x.stage) (some-injective v u (sym at ∙ (ap (λ (n : ℕ). get_elem? views n) (sym same) ∙ there))) ∙ done))
      (λ (apart : j ≢ id). now j u (set_else views id j w apart ∙ there))
      (cases_eq j id))

-- ---- one pass changes

module _ (start : BookView) (s : BoardState) (k : Kept start s) (id : ℕ) (v w : View) (at : get_elem? s.views id ≡ some v) (may : w.may_change ≡ v.may_change) (sole : w.sole ≡ true → v.sole ≡ true) where
  pub kept_set : (tickets turn : ℕ) (log : List Logged) (words : List ℕ) (homes : Slots) → words ≡ length log ∷ tickets ∷ turn ∷ [] → tickets < 2 ^ 64
      → LegalWith start (entries_in log) → Known (length s.views) log
      → Knows start tickets turn log id w
      → ((j : ℕ) (u : View) → j ≢ id → get_elem? s.views j ≡ some u → Knows start k.tickets k.turn k.log j u → Knows start tickets turn log j u)
      → ((j : ℕ) (u : View) → j ≢ id → get_elem? s.views j ≡ some u → 0 < u.stage → 0 < w.stage → u.ticket ≡ w.ticket → ⊥)
      → tickets + k.turn + has_ticket v.stage ≡ k.tickets + turn + has_ticket w.stage
      → IsHome start log (set s.views id w) homes ⊎ IsOut (set s.views id w) homes
      → length log ≤ turn + 1
      → (((j : ℕ) (u : View) → get_elem? (set s.views id w) j ≡ some u → u.stage ≢ 4) → length log ≤ turn)
      → Kept start (record { words = words; homes = homes; views = set s.views id w })
  kept_set tickets turn log words homes words_is room legal known mine others fresh count place at_most fewer = record {
    log = log;
    tickets = tickets;
    turn = turn;
    words = words_is;
    room = room;
    legal = legal;
    known = subst (λ (n : ℕ). Known n log) (sym (length-set s.views id w)) known;
    each = each_set (λ (j : ℕ) (u : View). Knows start tickets turn log j u) s.views id w mine (λ j u apart there. others j u apart there (k.each j u there));
    alone = alone_set s.views id v w at may sole k.alone;
    distinct = distinct_set s.views id w fresh k.distinct;
    counted = let sums = waiting_set s.views id v w at in omega (arith, sums, count, k.counted);
    place = place;
    at_most = at_most;
    fewer = fewer;
  }

-- The pass that has the turn has it alone.
pub turn_alone : (start : BookView) (s : BoardState) (k : Kept start s) (id : ℕ) (v : View) → get_elem? s.views id ≡ some v → 0 < v.stage → v.ticket ≡ k.turn
    → (j : ℕ) (u : View) → j ≢ id → get_elem? s.views j ≡ some u → 0 < u.stage → u.ticket ≢ k.turn
turn_alone start s k id v at some_stage turn j u apart there p same = apart (k.distinct j id u v there at p some_stage (same ∙ sym turn))
