-- A shelf that is opened meets the rule, and a pass that is split from another keeps it.
use Rattle.std.proofs.Common.{◌≡◌, ◌≢◌, ◌⊎◌, ◌<◌, ◌+◌, ℕ, zero, suc, Bool, true, false, List, [], ◌∷◌, ◌++◌, length, set, refl, sym, ap, ◌∙◌, subst, ⊎_elim, inl, inr, arith, Option, Some, true≢false, length-append}
use mathlib.Core.Option as maybe
use mathlib.Core.Option.{some, none, some-injective, some-ne-none}
use lib.ListN.{get_elem?}
use Rattle.atomic_table.specs.Seated.{TableId}
use Rattle.atomic_table.specs.Table.{Splits, opening}
use Rattle.atomic_table.proofs.Lists.{at_longer, set_again, set_here}
use Rattle.collector_core.specs.BookDesk.{extended_none}
use Rattle.collector_core.specs.Standing.{BookView, Stands, StandsForSome}
use Rattle.book_lock.specs.declared.view.View.{View}
use Rattle.book_lock.specs.Logs.{Known, LegalWith, StandsWith}
use Rattle.book_lock.specs.Passes.{IsSound, as_others}
use Rattle.book_lock.specs.Plays.{Rests, Seated, changer_of, newcomer, other_of, pass_of, reader_of, shared}
use Rattle.book_lock.specs.Rule.{Alone, IsHome, IsOut, Kept, Knows, has_ticket}
use Rattle.book_lock.proofs.Keeping.{BoardState, alone_added, at_length, distinct_added, each_added, each_set, fewer_set, kept_set, place_set, waiting_added}
use Rattle.book_lock.proofs.Logs.{begins_none, known_first, known_more, known_rest, none_next, others_next, saw_none}

-- ---- open

-- A book stands for what it stood for, followed by nothing.
pub stands_still : (book : BookView) → StandsWith book book []
stands_still book chronicle stands = subst (Stands book) (sym (extended_none chronicle)) stands

pub legal_still : (book : BookView) → LegalWith book []
legal_still book chronicle stands = (stands_still book chronicle stands).legal

-- Of the one pass at the start each fact is to be shown.
only_one : (P : ℕ → View → Type 0) (v : View) → P 0 v → (j : ℕ) (u : View) → get_elem? (v ∷ []) j ≡ some u → P j u
only_one P v mine zero u there = subst (λ (x : View). P 0 x) (some-injective v u there) mine
only_one P v mine (suc j) u there = absurd (some-ne-none u (sym there))

pub opens : (book : BookView) → Kept book (opening (0 ∷ 0 ∷ 0 ∷ []) (Some book ∷ []) (newcomer book))
opens book = record {
  log = [];
  tickets = 0;
  turn = 0;
  words = refl;
  room = omega arith;
  legal = legal_still book;
  known = tt;
  each = only_one (λ (j : ℕ) (u : View). Knows book 0 0 [] j u) (newcomer book) (record {
    opened = λ p. refl;
    saw = saw_none 0 [] tt;
    left = begins_none [];
    right = begins_none [];
    agree = tt;
    left_whole = λ p. omega arith;
    right_whole = λ p. omega arith;
    bare = λ p. tt;
    ticketed = λ p. absurd (omega (arith, p));
    at_turn = λ p. absurd (omega (arith, p));
    whole = λ p. absurd (omega (arith, p));
  });
  alone = only_one (λ (j : ℕ) (u : View). Alone (newcomer book ∷ []) j u) (newcomer book) (record {
    may = λ s. refl;
    only = λ s. only_one (λ (i : ℕ) (x : View). x.may_change ≡ true → i ≡ 0) (newcomer book) (λ m. refl);
  });
  distinct = λ one other v w at_one at_other p q same. absurd (only_one (λ (j : ℕ) (u : View). 0 < u.stage → ⊥) (newcomer book) (λ none. omega (arith, none)) one v at_one p);
  counted = omega arith;
  place = inl (record {
    book = book;
    there = refl;
    stands = stands_still book;
    nobody = only_one (λ (j : ℕ) (u : View). u.stage < 3) (newcomer book) (omega arith);
  });
  at_most = omega arith;
  fewer = λ none_done. omega arith;
}

pub opens_at : (start : BookView) (slots : List (Option BookView)) → slots ≡ Some start ∷ [] → Kept start (opening (0 ∷ 0 ∷ 0 ∷ []) slots (newcomer start))
opens_at start slots is = subst (λ (xs : List (Option BookView)). Kept start (opening (0 ∷ 0 ∷ 0 ∷ []) xs (newcomer start))) (sym is) (opens start)

-- What is true of the first pass.
pub sound_first : (shelf : TableId) (start : BookView) → StandsForSome start → IsSound (pass_of shelf (newcomer start))
sound_first shelf start begins = record {
  some = begins;
  lawful = legal_still start;
  sole_may = λ sole. refl;
  sole_own = λ sole. tt;
  bare = λ none. tt;
}

pub rests_first : (shelf : TableId) (m : Seated) (start : BookView) → m ≡ (newcomer start, []) → StandsForSome start → Rests shelf m
rests_first shelf m start is begins = record {
  empty = ap (λ (x : Seated). x.1) is;
  idle = ap (λ (x : Seated). x.0.stage) is;
  live = ap (λ (x : Seated). x.0.spent) is;
  sound = subst (λ (x : Seated). IsSound (pass_of shelf x.0)) (sym is) (sound_first shelf start begins);
}

-- ---- split

-- What a new pass knows, which has seen what an old one has.
new_knows : (start : BookView) (s : BoardState) (k : Kept start s) (id : ℕ) (v : View) (changes : Bool) → Knows start k.tickets k.turn k.log id v
    → v.spent ≡ false → Knows start k.tickets k.turn k.log (length s.views) (other_of v changes)
new_knows start s k id v changes was live = record {
  opened = λ p. was.opened live;
  saw = record {
    first = was.saw.first;
    rest = was.saw.rest;
    whole = was.saw.whole;
    is = ap as_others was.saw.is ∙ others_next id (length s.views) was.saw.first (known_first (length s.views) was.saw.first was.saw.rest (subst (Known (length s.views)) was.saw.whole k.known));
    none = none_next (length s.views) was.saw.rest (known_rest (length s.views) was.saw.first was.saw.rest (subst (Known (length s.views)) was.saw.whole k.known));
  };
  left = begins_none k.log;
  right = begins_none k.log;
  agree = tt;
  left_whole = λ p. omega arith;
  right_whole = λ p. omega arith;
  bare = λ p. none_next (length s.views) k.log k.known;
  ticketed = λ p. absurd (omega (arith, p));
  at_turn = λ p. absurd (omega (arith, p));
  whole = λ p. absurd (omega (arith, p));
}

-- A new pass at rest comes.
kept_added : (start : BookView) (s : BoardState) (k : Kept start s) (r : View) → r.stage ≡ 0 → r.sole ≡ false
    → (r.may_change ≡ true → (j : ℕ) (u : View) → get_elem? s.views j ≡ some u → u.sole ≡ true → ⊥)
    → Knows start k.tickets k.turn k.log (length s.views) r
    → Kept start (record { words = s.words; homes = s.homes; views = s.views ++ r ∷ [] })
kept_added start s k r idle bare none_sole mine = record {
  log = k.log;
  tickets = k.tickets;
  turn = k.turn;
  words = k.words;
  room = k.room;
  legal = k.legal;
  known = let longer = length-append s.views (r ∷ []) in known_more (length s.views) (length (s.views ++ r ∷ [])) k.log (omega (arith, longer)) k.known;
  each = each_added (λ (j : ℕ) (u : View). Knows start k.tickets k.turn k.log j u) s.views r mine k.each;
  alone = alone_added s.views r bare none_sole k.alone;
  distinct = distinct_added s.views r idle k.distinct;
  counted = let sums = waiting_added s.views r in let none : has_ticket r.stage ≡ 0 = ap has_ticket idle in omega (arith, sums, none, k.counted);
  place = ⊎_elim
      (λ (h : IsHome start k.log s.views s.homes). inl (record {
        book = h.book;
        there = h.there;
        stands = h.stands;
        nobody = each_added (λ (j : ℕ) (u : View). u.stage < 3) s.views r (omega (arith, idle)) h.nobody;
      }))
      (λ (o : IsOut s.views s.homes). inr (record { empty = o.empty; number = o.number; v = o.v; there = at_longer s.views (r ∷ []) o.number o.v o.there; holds = o.holds }))
      k.place;
  at_most = k.at_most;
  fewer = λ none_done. k.fewer (λ j u there. none_done j u (at_longer s.views (r ∷ []) j u there));
}

pub splits_reader : (start : BookView) (id : ℕ) (v : View) → v.spent ≡ false → Splits (Kept start) id v v (reader_of v)
splits_reader start id v live s k at =
    subst (λ (views : List View). Kept start (record { words = s.words; homes = s.homes; views = views ++ reader_of v ∷ [] })) (sym (set_again s.views id v at))
    (kept_added start s k (reader_of v) refl refl (λ m. absurd (true≢false (sym m))) (new_knows start s k id v false (k.each id v at) live))

-- The old pass is no longer sole.
kept_shared : (start : BookView) (id : ℕ) (v : View) → v.stage ≡ 0 → (s : BoardState) → Kept start s → get_elem? s.views id ≡ some v
    → Kept start (record { words = s.words; homes = s.homes; views = set s.views id (shared v) })
kept_shared start id v idle s k at =
    kept_set start s k id v (shared v) at refl (λ q. absurd (true≢false (sym q))) k.tickets k.turn k.log s.words s.homes
    k.words k.room k.legal k.known mine
    (λ j u apart there knows. knows)
    (λ j u apart there p q ticket. omega (arith, q, idle))
    (omega arith)
    (place_set start k.log s.views s.homes id v (shared v) at (omega (arith, idle)) (omega (arith, idle)) k.place)
    k.at_most
    (fewer_set start k.log s.views s.homes id v (shared v) at k.turn (λ four. omega (arith, four, idle)) k.fewer)
  where
    mine : Knows start k.tickets k.turn k.log id (shared v)
    mine = let was = k.each id v at in record {
      opened = was.opened;
      saw = was.saw;
      left = was.left;
      right = was.right;
      agree = was.agree;
      left_whole = was.left_whole;
      right_whole = was.right_whole;
      bare = was.bare;
      ticketed = was.ticketed;
      at_turn = was.at_turn;
      whole = was.whole;
    }

-- Where a pass may change, no other is sole.
none_sole : (start : BookView) (s : BoardState) (k : Kept start s) (id : ℕ) (v : View) → get_elem? s.views id ≡ some v → v.may_change ≡ true
    → (j : ℕ) (u : View) → get_elem? (set s.views id (shared v)) j ≡ some u → u.sole ≡ true → ⊥
none_sole start s k id v at may = each_set (λ (j : ℕ) (u : View). u.sole ≡ true → ⊥) s.views id (shared v) (λ q. true≢false (sym q))
    (λ j u apart there q. apart (sym ((k.alone j u there).only q id v at may)))

pub splits_changer : (start : BookView) (id : ℕ) (v : View) → v.spent ≡ false → v.stage ≡ 0 → v.may_change ≡ true → Splits (Kept start) id v (shared v) (changer_of v)
splits_changer start id v live idle may s k at =
    let before : BoardState = record { words = s.words; homes = s.homes; views = set s.views id (shared v) } in
    let now : Kept start before = kept_shared start id v idle s k at in
    kept_added start before now (changer_of v) refl refl (λ m. none_sole start s k id v at may)
    (new_knows start before now id (shared v) true (now.each id (shared v) (set_here s.views id (shared v) (at_length s.views id v at))) live)
