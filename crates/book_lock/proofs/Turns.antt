-- Steps of a pass keep the rule: it draws a ticket, and looks whether it is its turn; and what the
-- rule says of the pass whose turn it is.
use Rattle.std.proofs.Common.{◌≡◌, ◌≢◌, ◌⊎◌, ◌<◌, ◌≤◌, ◌+◌, ◌^◌, ℕ, Bool, true, false, eqb, List, [], ◌∷◌, ◌++◌, length, set, get_or, refl, sym, ap, ◌∙◌, subst, ⊎_elim, arith, Option, MatchBool, append_assoc, eqb-true}
use Rattle.std.proofs.lemmas.Bool.{cases_eq, cases_lt}
use mathlib.Core.Option.{some, none, some-injective}
use lib.ListN.{get_elem?}
use prog.Atomic.{either}
use Rattle.atomic_table.specs.Table.{Act, Allows, Valid, carried_after, keeps, step, stepped}
use Rattle.atomic_table.proofs.Lists.{set_again}
use Rattle.collector_core.specs.declared.chronicle.Entry.{Entry}
use Rattle.collector_core.specs.Desks.{entries}
use Rattle.collector_core.specs.Standing.{BookView}
use Rattle.book_lock.specs.declared.view.View.{View}
use Rattle.book_lock.specs.Logs.{Known, Logged, NoneBy, Saw}
use Rattle.book_lock.specs.Plays.{Seated, drawn, drew, looked, reached}
use Rattle.book_lock.specs.Rule.{IsHome, IsOut, Kept, Knows, has_ticket}
use Rattle.book_lock.proofs.Keeping.{BoardState, fewer_set, kept_set, place_set, set_read, turn_alone, view_at}
use Rattle.book_lock.proofs.Logs.{AllBy, begins_more, none_append, none_left, none_rest, saw_more}

-- What a step owes at one state of the table.
abbrev pub Owes : BookView → BoardState → ℕ → Seated → ℕ → ℕ → (Seated → Type 0) → Type 0
Owes start s id me i new then =
    (w : View) × (a : Act (Option BookView)) × Valid s.homes me.1 a × Kept start (stepped s i new id me.1 w a) × then (w, carried_after me.1 a)

-- Nothing changes.
pub kept_again : (start : BookView) (s : BoardState) (id : ℕ) (v : View) (i : ℕ) → get_elem? s.views id ≡ some v → Kept start s
    → Kept start (record { words = set s.words i (get_or s.words i 0); homes = s.homes; views = set s.views id v })
kept_again start s id v i at k = subst (λ (z : List ℕ × List View). Kept start (record { words = z.0; homes = s.homes; views = z.1 }))
    (λ j. (sym (set_read s.words i) j, sym (set_again s.views id v at) j)) k

-- A ticket or a turn changes, and nothing of what was entered.
pub knows_later : (start : BookView) (tickets turn later : ℕ) (log : List Logged) (j : ℕ) (u : View) → tickets ≤ later → Knows start tickets turn log j u → Knows start later turn log j u
knows_later start tickets turn later log j u le knows = record {
  opened = knows.opened;
  saw = knows.saw;
  left = knows.left;
  right = knows.right;
  agree = knows.agree;
  left_whole = knows.left_whole;
  right_whole = knows.right_whole;
  bare = knows.bare;
  ticketed = λ p. let t = knows.ticketed p in (t.0, omega (arith, t.1, le));
  at_turn = knows.at_turn;
  whole = knows.whole;
}

-- ---- draw

pub draws : (start : BookView) (slots id : ℕ) (me : Seated) (old new : ℕ) → new ≡ old + 1 → new < 2 ^ 64 → me.0.stage ≡ 0
    → Allows (Kept start) slots id me 1 (λ n. either (eqb n old) new n) (drew (step slots 1 old new none) me)
draws start slots id me old new is fits idle s k deep at low = by_test (eqb (get_or s.words 1 0) old) refl
  where
    found : get_or s.words 1 0 ≡ k.tickets
    found = ap (λ (ws : List ℕ). get_or ws 1 0) k.words

    mine : get_or s.words 1 0 ≡ old → Knows start new k.turn k.log id (drawn me.0 (get_or s.words 1 0))
    mine same = let was = k.each id me.0 at in record {
      opened = was.opened;
      saw = was.saw;
      left = was.left;
      right = was.right;
      agree = was.agree;
      left_whole = was.left_whole;
      right_whole = was.right_whole;
      bare = was.bare;
      ticketed = λ p. (omega (arith, found, k.counted), omega (arith, same, is));
      at_turn = λ p. absurd (omega (arith, p));
      whole = λ p. absurd (omega (arith, p));
    }

    by_test : (b : Bool) → eqb (get_or s.words 1 0) old ≡ b
        → Owes start s id me 1 (either b new (get_or s.words 1 0)) (λ after. MatchBool b (after ≡ (drawn me.0 (get_or s.words 1 0), me.1)) (after ≡ me))
    by_test true is_old =
        let same : get_or s.words 1 0 ≡ old = eqb-true (get_or s.words 1 0) old is_old in (
          drawn me.0 (get_or s.words 1 0),
          keeps,
          tt,
          kept_set start s k id me.0 (drawn me.0 (get_or s.words 1 0)) at refl (λ q. q) new k.turn k.log (set s.words 1 new) s.homes
              (ap (λ (ws : List ℕ). set ws 1 new) k.words) fits k.legal k.known (mine same)
              (λ j u apart there knows. knows_later start k.tickets k.turn new k.log j u (omega (arith, found, same, is)) knows)
              (λ j u apart there p q ticket. let t = (k.each j u there).ticketed p in omega (arith, t.1, found, ticket))
              (let none : has_ticket me.0.stage ≡ 0 = ap has_ticket idle in omega (arith, none, found, same, is))
              (place_set start k.log s.views s.homes id me.0 (drawn me.0 (get_or s.words 1 0)) at (omega (arith, idle)) (omega arith) k.place)
              k.at_most
              (fewer_set start k.log s.views s.homes id me.0 (drawn me.0 (get_or s.words 1 0)) at k.turn (λ four. omega (arith, four, idle)) k.fewer),
          refl,
        )
    by_test false is_other = (me.0, keeps, tt, kept_again start s id me.0 1 at k, refl)

-- ---- look

pub looks : (start : BookView) (slots id : ℕ) (me : Seated) → me.0.stage ≡ 1
    → Allows (Kept start) slots id me 2 (λ n. n) (looked (step slots 2 0 0 none) me)
looks start slots id me drew_it s k deep at low = by_test (eqb (get_or s.words 2 0) me.0.ticket) refl
  where
    found : get_or s.words 2 0 ≡ k.turn
    found = ap (λ (ws : List ℕ). get_or ws 2 0) k.words

    mine : get_or s.words 2 0 ≡ me.0.ticket → Knows start k.tickets k.turn k.log id (reached me.0)
    mine same = let was = k.each id me.0 at in record {
      opened = was.opened;
      saw = was.saw;
      left = was.left;
      right = was.right;
      agree = was.agree;
      left_whole = was.left_whole;
      right_whole = was.right_whole;
      bare = was.bare;
      ticketed = λ p. was.ticketed (omega (arith, drew_it));
      at_turn = λ p. sym same ∙ found;
      whole = λ p. absurd (omega (arith, p));
    }

    by_test : (b : Bool) → eqb (get_or s.words 2 0) me.0.ticket ≡ b
        → Owes start s id me 2 (get_or s.words 2 0) (λ after. MatchBool b (after ≡ (reached me.0, me.1)) (after ≡ me))
    by_test true is_turn =
        let same : get_or s.words 2 0 ≡ me.0.ticket = eqb-true (get_or s.words 2 0) me.0.ticket is_turn in (
          reached me.0,
          keeps,
          tt,
          kept_set start s k id me.0 (reached me.0) at refl (λ q. q) k.tickets k.turn k.log (set s.words 2 (get_or s.words 2 0)) s.homes
              (set_read s.words 2 ∙ k.words) k.room k.legal k.known (mine same)
              (λ j u apart there knows. knows)
              (λ j u apart there p q ticket. turn_alone start s k id me.0 at (omega (arith, drew_it)) (sym same ∙ found) j u apart there p (ticket ∙ (sym same ∙ found)))
              (let one : has_ticket me.0.stage ≡ 1 = ap has_ticket drew_it in omega (arith, one))
              (place_set start k.log s.views s.homes id me.0 (reached me.0) at (omega (arith, drew_it)) (omega arith) k.place)
              k.at_most
              (fewer_set start k.log s.views s.homes id me.0 (reached me.0) at k.turn (λ four. omega (arith, four, drew_it)) k.fewer),
          refl,
        )
    by_test false is_not = (me.0, keeps, tt, kept_again start s id me.0 2 at k, refl)

-- ---- sole passes

-- All that was entered is of the pass that is sole.
module _ (start : BookView) (s : BoardState) (k : Kept start s) (id : ℕ) (v : View) (at : get_elem? s.views id ≡ some v) (sole : v.sole ≡ true) where
  author : (e : Logged) (first later : List Logged) → k.log ≡ first ++ e ∷ later → (u : View) → get_elem? s.views e.1 ≡ some u → (b : Bool) → u.may_change ≡ b → e.1 ≡ id
  author e first later whole u there true may = (k.alone id v at).only sole e.1 u there may
  author e first later whole u there false bare =
      absurd ((none_rest e.1 first (e ∷ later) (subst (NoneBy e.1) whole ((k.each e.1 u there).bare bare))).0 refl)

  all_by : (first later : List Logged) → k.log ≡ first ++ later → Known (length s.views) later → AllBy id later
  all_by first [] whole known = tt
  all_by first (e ∷ later) whole known =
      let seat = view_at s.views e.1 known.0 in (
        author e first later whole seat.0 seat.1 seat.0.may_change refl,
        all_by (first ++ e ∷ []) later (whole ∙ sym (append_assoc first (e ∷ []) later)) known.1,
      )

  pub all_own : AllBy id k.log
  all_own = all_by [] k.log refl k.known

  -- So it has seen it all.
  pub sole_rest : (saw : Saw id k.log v.seen) → saw.rest ≡ []
  sole_rest saw = none_left id saw.first saw.rest (subst (AllBy id) saw.whole all_own) saw.none

-- ---- the pass that has the book

module _ (start : BookView) (s : BoardState) (k : Kept start s) (id : ℕ) (v : View) (at : get_elem? s.views id ≡ some v) where
  -- Another pass at its turn would be the same.
  pub below_two : 0 < v.stage → v.ticket ≡ k.turn → (j : ℕ) (u : View) → j ≢ id → get_elem? s.views j ≡ some u → 2 ≤ u.stage → ⊥
  below_two some_stage turn j u apart there late =
      turn_alone start s k id v at some_stage turn j u apart there (omega (arith, late)) ((k.each j u there).at_turn late)

  pub below_three : 0 < v.stage → v.ticket ≡ k.turn → (j : ℕ) (u : View) → j ≢ id → get_elem? s.views j ≡ some u → u.stage < 3
  below_three some_stage turn j u apart there =
      ⊎_elim (λ (low : u.stage < 3). low) (λ (late : 3 ≤ u.stage). absurd (below_two some_stage turn j u apart there (omega (arith, late)))) (cases_lt u.stage 3)

  -- While it has the book and has not committed, no pass has.
  pub open_still : v.stage ≡ 3 → v.ticket ≡ k.turn → (j : ℕ) (u : View) → get_elem? s.views j ≡ some u → u.stage ≢ 4
  open_still holds turn j u there four = ⊎_elim
      (λ (same : j ≡ id).
      let stages : u.stage ≡ v.stage = ap (λ (x : View). x.stage) (some-injective u v (sym there ∙ (ap (λ (n : ℕ). get_elem? s.views n) same ∙ at))) in
      omega (arith, stages, four, holds))
      (λ (apart : j ≢ id). below_two (omega (arith, holds)) turn j u apart there (omega (arith, four)))
      (cases_eq j id)

  -- The slot is empty.
  pub out_of : 3 ≤ v.stage → s.homes ≡ none ∷ []
  out_of holds = ⊎_elim
      (λ (h : IsHome start k.log s.views s.homes). absurd (let low = h.nobody id v at in omega (arith, low, holds)))
      (λ (o : IsOut s.views s.homes). o.empty)
      k.place

  -- The others when it commits.
  pub grows : 0 < v.stage → v.ticket ≡ k.turn → (made : Entry) (j : ℕ) (u : View) → j ≢ id → get_elem? s.views j ≡ some u
      → Knows start k.tickets k.turn k.log j u → Knows start k.tickets k.turn (k.log ++ (made, id) ∷ []) j u
  grows some_stage turn made j u apart there knows = record {
    opened = knows.opened;
    saw = saw_more j k.log (made, id) u.seen (λ same. apart (sym same)) knows.saw;
    left = begins_more k.log (made, id) (entries u.left) knows.left;
    right = begins_more k.log (made, id) (entries u.right) knows.right;
    agree = knows.agree;
    left_whole = knows.left_whole;
    right_whole = knows.right_whole;
    bare = λ bare. none_append j k.log ((made, id) ∷ []) (knows.bare bare) ((λ same. apart (sym same)), tt);
    ticketed = knows.ticketed;
    at_turn = knows.at_turn;
    whole = λ late. absurd (below_two some_stage turn j u apart there (omega (arith, late)));
  }

  -- The others when it passes the turn on.
  pub moves_on : 0 < v.stage → v.ticket ≡ k.turn → (j : ℕ) (u : View) → j ≢ id → get_elem? s.views j ≡ some u
      → Knows start k.tickets k.turn k.log j u → Knows start k.tickets (k.turn + 1) k.log j u
  moves_on some_stage turn j u apart there knows = record {
    opened = knows.opened;
    saw = knows.saw;
    left = knows.left;
    right = knows.right;
    agree = knows.agree;
    left_whole = knows.left_whole;
    right_whole = knows.right_whole;
    bare = knows.bare;
    ticketed = λ p. let t = knows.ticketed p in (past u.ticket (turn_alone start s k id v at some_stage turn j u apart there p) t.0, t.1);
    at_turn = λ late. absurd (below_two some_stage turn j u apart there late);
    whole = λ late. absurd (below_two some_stage turn j u apart there (omega (arith, late)));
  }
    where
      past : (ticket : ℕ) → ticket ≢ k.turn → k.turn ≤ ticket → k.turn + 1 ≤ ticket
      past ticket other le = ⊎_elim (λ (same : ticket ≡ k.turn). absurd (other same)) (λ (apart_too : ticket ≢ k.turn). omega (arith, le, apart_too)) (cases_eq ticket k.turn)
