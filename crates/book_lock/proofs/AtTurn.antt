-- Steps of the pass whose turn it is keep the rule: it reads what was entered and takes the book,
-- commits, and passes the turn on.
use Rattle.std.proofs.Common.{◌≡◌, ◌≢◌, ◌⊎◌, ◌<◌, ◌≤◌, ◌+◌, ◌%◌, ◌^◌, ℕ, true, false, List, [], ◌∷◌, ◌++◌, length, set, get_or, refl, sym, ap, ◌∙◌, subst, ⊎_elim, inl, inr, arith, Option, Some, None, true≢false, length-append, mod-eq_of_lt}
use mathlib.Core.Option.{some, none, some-injective}
use lib.ListN.{get_elem?}
use Rattle.atomic_table.specs.Table.{Allows, gives, keeps, rest, step, takes}
use Rattle.atomic_table.proofs.Lists.{set_here}
use Rattle.collector_core.specs.declared.chronicle.Entry.{Entry}
use Rattle.collector_core.specs.declared.chronicle.Mark.{Mark}
use Rattle.collector_core.specs.Desks.{entries, own_mark}
use Rattle.collector_core.specs.Standing.{BookView}
use Rattle.book_lock.specs.declared.view.View.{View}
use Rattle.book_lock.specs.Logs.{LegalWith, Logged, Saw, StandsWith, entries_in, marked}
use Rattle.book_lock.specs.Plays.{Seated, committed, committing, holding, passed, resting, took}
use Rattle.book_lock.specs.Rule.{IsHome, IsOut, Kept, Knows, has_ticket}
use Rattle.book_lock.proofs.Keeping.{BoardState, Slots, at_length, each_set, fewer_set, has_some, kept_set, set_read, turn_alone}
use Rattle.book_lock.proofs.Logs.{begins_more, entries_marked, known_append, marked_own, others_marked, saw_all, saw_seen}
use Rattle.book_lock.proofs.Turns.{below_three, grows, moves_on, open_still, out_of, sole_rest}

-- ---- read at turn

-- The pass whose turn it is finds the book in the slot.
pub home_at_turn : (start : BookView) (s : BoardState) (k : Kept start s) (id : ℕ) (v : View) → get_elem? s.views id ≡ some v → v.stage ≡ 2
    → IsHome start k.log s.views s.homes
home_at_turn start s k id v at turn = ⊎_elim (λ (h : IsHome start k.log s.views s.homes). h) (λ (o : IsOut s.views s.homes). absurd (out o)) k.place
  where
    out : IsOut s.views s.homes → ⊥
    out o =
        let theirs : o.v.ticket ≡ k.turn = (k.each o.number o.v o.there).at_turn (omega (arith, o.holds)) in
        let ours : v.ticket ≡ k.turn = (k.each id v at).at_turn (omega (arith, turn)) in
        let same : o.number ≡ id = k.distinct o.number id o.v v o.there at (omega (arith, o.holds)) (omega (arith, turn)) (theirs ∙ sym ours) in
        let one : o.v ≡ v = some-injective o.v v (sym o.there ∙ (ap (λ (n : ℕ). get_elem? s.views n) same ∙ at)) in
        let stages : o.v.stage ≡ v.stage = ap (λ (u : View). u.stage) one in
        omega (arith, o.holds, turn, stages)

pub takes_book : (start : BookView) (slots id : ℕ) (me : Seated) → me.0.stage ≡ 2 → me.0.spent ≡ false
    → Allows (Kept start) slots id me 0 (λ n. n) (took (step slots 0 0 0 none) me)
takes_book start slots id me turn live s k deep at low =
    let home = home_at_turn start s k id me.0 at turn in
    let was = k.each id me.0 at in
    let at_turn : me.0.ticket ≡ k.turn = was.at_turn (omega (arith, turn)) in
    let others : List Mark = marked id was.saw.rest in
    let after : View = holding me.0 (me.0.seen ++ others) in
    let all_seen : marked id k.log ≡ me.0.seen ++ others = saw_seen id k.log me.0.seen was.saw in
    let mine : Knows start k.tickets k.turn k.log id after = record {
      opened = was.opened;
      saw = subst (Saw id k.log) all_seen (saw_all id k.log);
      left = was.left;
      right = was.right;
      agree = was.agree;
      left_whole = was.left_whole;
      right_whole = was.right_whole;
      bare = was.bare;
      ticketed = λ p. was.ticketed (omega (arith, turn));
      at_turn = λ p. at_turn;
      whole = λ p. sym all_seen;
    } in (
      after,
      takes 0 (Some home.book),
      ap (λ (hs : Slots). get_elem? hs 0) home.there,
      kept_set start s k id me.0 after at refl (λ q. q) k.tickets k.turn k.log (set s.words 0 (get_or s.words 0 0)) (set s.homes 0 none)
          (set_read s.words 0 ∙ k.words) k.room k.legal k.known mine
          (λ j u apart there knows. knows)
          (λ j u apart there p q ticket. turn_alone start s k id me.0 at (omega (arith, turn)) at_turn j u apart there p (ticket ∙ at_turn))
          (let one : has_ticket me.0.stage ≡ 1 = ap has_ticket turn in omega (arith, one))
          (inr (record {
            empty = ap (λ (hs : Slots). set hs 0 none) home.there;
            number = id;
            v = after;
            there = set_here s.views id after (at_length s.views id me.0 at);
            holds = omega arith;
          }))
          k.at_most
          (fewer_set start k.log s.views s.homes id me.0 after at k.turn (λ four. omega (arith, four, turn)) k.fewer),
      record {
        others = others;
        theirs = others_marked id was.saw.rest was.saw.none;
        book = home.book;
        is = refl;
        stands = subst (λ (b : BookView). StandsWith b home.book (entries (me.0.seen ++ others))) (sym (was.opened live))
            (subst (StandsWith start home.book) (sym (ap entries (sym all_seen) ∙ entries_marked id k.log)) home.stands);
        alone = λ sole. ap (marked id) (sole_rest start s k id me.0 at sole was.saw);
      },
    )

-- ---- commit

pub commits : (start : BookView) (slots id : ℕ) (made : Entry) (me : Seated) → me.0.stage ≡ 3 → me.0.spent ≡ false → me.0.may_change ≡ true
    → LegalWith me.0.start (entries (me.0.seen ++ own_mark made ∷ []))
    → Allows (Kept start) slots id me 0 (λ n. (n + 1) % 2 ^ 64) (committed made (step slots 0 1 0 none) me)
commits start slots id made me holds live may legal s k deep at low =
    let was = k.each id me.0 at in
    let e : Logged = (made, id) in
    let log : List Logged = k.log ++ e ∷ [] in
    let after : View = committing me.0 made in
    let at_turn : me.0.ticket ≡ k.turn = was.at_turn (omega (arith, holds)) in
    let tickets = was.ticketed (omega (arith, holds)) in
    let few : length k.log ≤ k.turn = k.fewer (open_still start s k id me.0 at holds at_turn) in
    let found : get_or s.words 0 0 ≡ length k.log = ap (λ (ws : List ℕ). get_or ws 0 0) k.words in
    let grown : length log ≡ length k.log + 1 = length-append k.log (e ∷ []) in
    let below : get_or s.words 0 0 + 1 < 2 ^ 64 = omega (arith, found, few, at_turn, tickets.1, k.room) in
    let more : get_or s.words 0 0 + 1 ≡ length log = omega (arith, found, grown) in
    let next : (get_or s.words 0 0 + 1) % 2 ^ 64 ≡ length log = mod-eq_of_lt below ∙ more in
    let all_seen : me.0.seen ++ own_mark made ∷ [] ≡ marked id log =
    ap (λ (ms : List Mark). ms ++ own_mark made ∷ []) (was.whole (omega (arith, holds))) ∙ sym (marked_own id k.log made) in
    let mine : Knows start k.tickets k.turn log id after = record {
      opened = was.opened;
      saw = subst (Saw id log) (sym all_seen) (saw_all id log);
      left = begins_more k.log e (entries me.0.left) was.left;
      right = begins_more k.log e (entries me.0.right) was.right;
      agree = was.agree;
      left_whole = was.left_whole;
      right_whole = was.right_whole;
      bare = λ bare. absurd (true≢false (sym may ∙ bare));
      ticketed = λ p. tickets;
      at_turn = λ p. at_turn;
      whole = λ p. all_seen;
    } in (
      after,
      keeps,
      tt,
      kept_set start s k id me.0 after at refl (λ q. q) k.tickets k.turn log (set s.words 0 ((get_or s.words 0 0 + 1) % 2 ^ 64)) s.homes
          (ap (λ (ws : List ℕ). set ws 0 ((get_or s.words 0 0 + 1) % 2 ^ 64)) k.words ∙ ap (λ (n : ℕ). n ∷ k.tickets ∷ k.turn ∷ []) next)
          k.room
          (subst (λ (b : BookView). LegalWith b (entries_in log)) (was.opened live)
          (subst (LegalWith me.0.start) (ap entries all_seen ∙ entries_marked id log) legal))
          (known_append (length s.views) k.log (e ∷ []) k.known (at_length s.views id me.0 at, tt))
          mine
          (λ j u apart there knows. grows start s k id me.0 at (omega (arith, holds)) at_turn made j u apart there knows)
          (λ j u apart there p q ticket. turn_alone start s k id me.0 at (omega (arith, holds)) at_turn j u apart there p (ticket ∙ at_turn))
          (let one : has_ticket me.0.stage ≡ 1 = ap has_ticket holds in omega (arith, one))
          (inr (record {
            empty = out_of start s k id me.0 at (omega (arith, holds));
            number = id;
            v = after;
            there = set_here s.views id after (at_length s.views id me.0 at);
            holds = omega arith;
          }))
          (omega (arith, grown, few))
          (λ none_done. absurd (none_done id after (set_here s.views id after (at_length s.views id me.0 at)) refl)),
      refl,
    )

-- ---- pass on

passes_with : (start : BookView) (slots id : ℕ) (v : View) (book : BookView) → 3 ≤ v.stage → v.spent ≡ false
    → StandsWith v.start book (entries v.seen)
    → Allows (Kept start) slots id (v, (0, Some book) ∷ []) 2 (λ n. (n + 1) % 2 ^ 64) (passed (step slots 2 1 0 none) (v, (0, Some book) ∷ []))
passes_with start slots id v book holds live stands s k deep at low =
    let was = k.each id v at in
    let after : View = resting v in
    let at_turn : v.ticket ≡ k.turn = was.at_turn (omega (arith, holds)) in
    let tickets = was.ticketed (omega (arith, holds)) in
    let found : get_or s.words 2 0 ≡ k.turn = ap (λ (ws : List ℕ). get_or ws 2 0) k.words in
    let below : get_or s.words 2 0 + 1 < 2 ^ 64 = omega (arith, found, at_turn, tickets.1, k.room) in
    let more : get_or s.words 2 0 + 1 ≡ k.turn + 1 = omega (arith, found) in
    let next : (get_or s.words 2 0 + 1) % 2 ^ 64 ≡ k.turn + 1 = mod-eq_of_lt below ∙ more in
    let mine : Knows start k.tickets (k.turn + 1) k.log id after = record {
      opened = was.opened;
      saw = was.saw;
      left = was.left;
      right = was.right;
      agree = was.agree;
      left_whole = was.left_whole;
      right_whole = was.right_whole;
      bare = was.bare;
      ticketed = λ p. absurd (omega (arith, p));
      at_turn = λ p. absurd (omega (arith, p));
      whole = λ p. absurd (omega (arith, p));
    } in (
      after,
      gives,
      tt,
      kept_set start s k id v after at refl (λ q. q) k.tickets (k.turn + 1) k.log (set s.words 2 ((get_or s.words 2 0 + 1) % 2 ^ 64)) (set s.homes 0 (some (Some book)))
          (ap (λ (ws : List ℕ). set ws 2 ((get_or s.words 2 0 + 1) % 2 ^ 64)) k.words ∙ ap (λ (n : ℕ). length k.log ∷ k.tickets ∷ n ∷ []) next)
          k.room k.legal k.known mine
          (λ j u apart there knows. moves_on start s k id v at (omega (arith, holds)) at_turn j u apart there knows)
          (λ j u apart there p q ticket. omega (arith, q))
          (let one : has_ticket v.stage ≡ 1 = has_some v.stage (omega (arith, holds)) in omega (arith, one))
          (inl (record {
            book = book;
            there = ap (λ (hs : Slots). set hs 0 (some (Some book))) (out_of start s k id v at holds);
            stands = subst (λ (b : BookView). StandsWith b book (entries_in k.log)) (was.opened live)
                (subst (StandsWith v.start book) (ap entries (was.whole holds) ∙ entries_marked id k.log) stands);
            nobody = each_set (λ (j : ℕ) (u : View). u.stage < 3) s.views id after (omega arith)
                (λ j u apart there. below_three start s k id v at (omega (arith, holds)) at_turn j u apart there);
          }))
          (let most = k.at_most in omega (arith, most))
          (λ none_done. k.at_most),
      refl,
    )

-- The same where the book was put in place of nothing before.
pub passes_on : (start : BookView) (slots id : ℕ) (me before : Seated) (book : BookView) → me ≡ (before.0, (0, Some book) ∷ rest before.1) → before.1 ≡ (0, None) ∷ []
    → 3 ≤ before.0.stage → before.0.spent ≡ false → StandsWith before.0.start book (entries before.0.seen)
    → Allows (Kept start) slots id me 2 (λ n. (n + 1) % 2 ^ 64) (passed (step slots 2 1 0 none) me)
passes_on start slots id me before book put taken holds live stands =
    let whole : me ≡ (before.0, (0, Some book) ∷ []) =
    put ∙ ap (λ (cs : List (ℕ × Option BookView)). let z : Seated = (before.0, (0, Some book) ∷ rest cs) in z) taken in
    subst (λ (m : Seated). Allows (Kept start) slots id m 2 (λ n. (n + 1) % 2 ^ 64) (passed (step slots 2 1 0 none) m))
    (sym whole) (passes_with start slots id before.0 book holds live stands)
