-- Two passes that meet keep the rule; and what the pass learns of it afterwards.
use Rattle.std.proofs.Common.{◌≡◌, ◌≢◌, ◌⊎◌, ◌≤◌, ◌+◌, ◌||◌, ℕ, Bool, true, false, List, [], ◌∷◌, ◌++◌, length, set, get_or, refl, sym, ap, ◌∙◌, subst, ⊎_elim, inl, inr, arith, true≢false, append-nil, append_assoc, length-append, length-set}
use Rattle.std.proofs.lemmas.Bool.{or_cases}
use mathlib.Core.Option as maybe
use mathlib.Core.Option.{some, none}
use lib.ListN.{get_elem?}
use Rattle.atomic_table.specs.Table.{Allows, Joins, keeps, step}
use Rattle.atomic_table.proofs.Lists.{set_else}
use Rattle.collector_core.specs.declared.chronicle.Entry.{Entry}
use Rattle.collector_core.specs.declared.chronicle.Mark.{Mark}
use Rattle.collector_core.specs.Desks.{AreOthers, AreOwn, entries}
use Rattle.collector_core.specs.Legal.{IsLegal}
use Rattle.collector_core.specs.Standing.{BookView}
use Rattle.collector_core.proofs.Fronts.{legal_front}
use Rattle.book_lock.specs.declared.view.View.{View}
use Rattle.book_lock.specs.Logs.{Known, LegalWith, Logged, NoneBy, Saw, StandsWith, marked}
use Rattle.book_lock.specs.Passes.{Agree, merged}
use Rattle.book_lock.specs.Plays.{Seated, gone, joined, settled, settling}
use Rattle.book_lock.specs.Rule.{Alone, IsHome, IsOut, Kept, Knows, has_ticket}
use Rattle.book_lock.proofs.Keeping.{AllAlone, BoardState, at_length, distinct_set, each_set, fewer_set, kept_set, place_set, set_read, waiting_set}
use Rattle.book_lock.proofs.Logs.{AllBy, begins_none, begins_same, length_marked, none_first, others_marked, own_marked, saw_begins, saw_none}
use Rattle.book_lock.proofs.Relabel.{agree_both, entries_relabelled, known_relabelled, length_relabelled, marked_else, none_both, none_else, none_other, relabelled, saw_both, saw_else}
use Rattle.book_lock.proofs.Turns.{all_own, sole_rest}

-- ---- join

module _ (start : BookView) (s : BoardState) (k : Kept start s) (id : ℕ) (v : View) (other : ℕ) (w : View) (at : get_elem? s.views id ≡ some v) (apart : other ≢ id)
    (there : get_elem? s.views other ≡ some w) (idle : v.stage ≡ 0) (idle_too : w.stage ≡ 0) (live : v.spent ≡ false) where
  -- What the pass has seen that a sole one has not is nothing.
  whole_left : v.sole ≡ true → length w.seen ≤ length v.seen
  whole_left sole =
      let ours = (k.each id v at).saw in
      let theirs = (k.each other w there).saw in
      let none = sole_rest start s k id v at sole ours in
      let all : length k.log ≡ length ours.first = ap length (ours.whole ∙ (ap (λ (xs : List Logged). ours.first ++ xs) none ∙ append-nil ours.first)) in
      let parts : length k.log ≡ length theirs.first + length theirs.rest = ap length theirs.whole ∙ length-append theirs.first theirs.rest in
      let one : length v.seen ≡ length ours.first = ap length ours.is ∙ length_marked id ours.first in
      let two : length w.seen ≡ length theirs.first = ap length theirs.is ∙ length_marked other theirs.first in
      omega (arith, all, parts, one, two)

  whole_right : w.sole ≡ true → length v.seen ≤ length w.seen
  whole_right sole =
      let ours = (k.each id v at).saw in
      let theirs = (k.each other w there).saw in
      let none = sole_rest start s k other w there sole theirs in
      let all : length k.log ≡ length theirs.first = ap length (theirs.whole ∙ (ap (λ (xs : List Logged). theirs.first ++ xs) none ∙ append-nil theirs.first)) in
      let parts : length k.log ≡ length ours.first + length ours.rest = ap length ours.whole ∙ length-append ours.first ours.rest in
      let one : length v.seen ≡ length ours.first = ap length ours.is ∙ length_marked id ours.first in
      let two : length w.seen ≡ length theirs.first = ap length theirs.is ∙ length_marked other theirs.first in
      omega (arith, all, parts, one, two)

  joined_knows : Knows start k.tickets k.turn (relabelled id other apart k.log) id (joined v w)
  joined_knows =
      let was = k.each id v at in
      let theirs = k.each other w there in
      let same : theirs.saw.first ++ theirs.saw.rest ≡ was.saw.first ++ was.saw.rest = sym theirs.saw.whole ∙ was.saw.whole in
      let alike = entries_relabelled id other apart k.log in record {
        opened = λ p. was.opened live;
        saw = subst (λ (ms : List Mark). Saw id (relabelled id other apart k.log) (merged ms w.seen)) (sym was.saw.is)
            (subst (λ (ms : List Mark). Saw id (relabelled id other apart k.log) (merged (marked id was.saw.first) ms)) (sym theirs.saw.is)
            (subst (λ (log : List Logged). Saw id (relabelled id other apart log) (merged (marked id was.saw.first) (marked other theirs.saw.first))) (sym was.saw.whole)
            (saw_both id other apart was.saw.first was.saw.rest theirs.saw.first theirs.saw.rest same was.saw.none theirs.saw.none)));
        left = begins_same k.log (relabelled id other apart k.log) (entries v.seen) alike (saw_begins id k.log v.seen was.saw);
        right = begins_same k.log (relabelled id other apart k.log) (entries w.seen) alike (saw_begins other k.log w.seen theirs.saw);
        agree = subst (λ (ms : List Mark). Agree ms w.seen) (sym was.saw.is)
            (subst (λ (ms : List Mark). Agree (marked id was.saw.first) ms) (sym theirs.saw.is)
            (agree_both id other apart was.saw.first was.saw.rest theirs.saw.first theirs.saw.rest same));
        left_whole = whole_left;
        right_whole = whole_right;
        bare = λ bare. none_both id other apart k.log (was.bare (or_left v.may_change w.may_change bare)) (theirs.bare (or_right v.may_change w.may_change bare));
        ticketed = λ p. absurd (omega (arith, p));
        at_turn = λ p. absurd (omega (arith, p));
        whole = λ p. absurd (omega (arith, p));
      }
    where
      or_left : (a b : Bool) → (a || b) ≡ false → a ≡ false
      or_left true b is = absurd (true≢false is)
      or_left false b is = refl

      or_right : (a b : Bool) → (a || b) ≡ false → b ≡ false
      or_right true b is = absurd (true≢false is)
      or_right false b is = is

  gone_knows : Knows start k.tickets k.turn (relabelled id other apart k.log) other gone
  gone_knows = record {
    opened = λ p. absurd (true≢false p);
    saw = saw_none other (relabelled id other apart k.log) (none_other id other apart k.log);
    left = begins_none (relabelled id other apart k.log);
    right = begins_none (relabelled id other apart k.log);
    agree = tt;
    left_whole = λ p. omega arith;
    right_whole = λ p. omega arith;
    bare = λ p. none_other id other apart k.log;
    ticketed = λ p. absurd (omega (arith, p));
    at_turn = λ p. absurd (omega (arith, p));
    whole = λ p. absurd (omega (arith, p));
  }

  else_knows : (j : ℕ) (u : View) → j ≢ other → j ≢ id → get_elem? s.views j ≡ some u → Knows start k.tickets k.turn (relabelled id other apart k.log) j u
  else_knows j u not_other not_id is =
      let was = k.each j u is in
      let alike = entries_relabelled id other apart k.log in record {
        opened = was.opened;
        saw = saw_else id other apart j k.log u.seen not_id not_other was.saw;
        left = begins_same k.log (relabelled id other apart k.log) (entries u.left) alike was.left;
        right = begins_same k.log (relabelled id other apart k.log) (entries u.right) alike was.right;
        agree = was.agree;
        left_whole = was.left_whole;
        right_whole = was.right_whole;
        bare = λ bare. none_else id other apart j k.log not_id not_other (was.bare bare);
        ticketed = was.ticketed;
        at_turn = was.at_turn;
        whole = λ late. was.whole late ∙ sym (marked_else id other apart j k.log not_id not_other);
      }

  abbrev pub both_views : List View
  both_views = set (set s.views id (joined v w)) other gone

  -- A fact of each pass, after the two have met.
  each_joined : (P : ℕ → View → Type 0) → P id (joined v w) → P other gone
      → ((j : ℕ) (u : View) → j ≢ other → j ≢ id → get_elem? s.views j ≡ some u → P j u) → (j : ℕ) (u : View) → get_elem? both_views j ≡ some u → P j u
  each_joined P ours theirs others = each_set P (set s.views id (joined v w)) other gone theirs
      (λ j u not_other is. each_set (λ (i : ℕ) (x : View). i ≢ other → P i x) s.views id (joined v w) (λ p. ours) (λ i x not_id was p. others i x p not_id was) j u is not_other)

  -- Nobody else may change where one of the two is sole.
  only_both : (j : ℕ) (u : View) → j ≢ other → j ≢ id → get_elem? s.views j ≡ some u → u.may_change ≡ true → (v.sole || w.sole) ≡ true → ⊥
  only_both j u not_other not_id is may sole = ⊎_elim
      (λ (left : v.sole ≡ true). not_id ((k.alone id v at).only left j u is may))
      (λ (right : w.sole ≡ true). not_other ((k.alone other w there).only right j u is may))
      (or_cases v.sole w.sole sole)

  may_both : (v.sole || w.sole) ≡ true → (v.may_change || w.may_change) ≡ true
  may_both sole = ⊎_elim
      (λ (left : v.sole ≡ true). ap (λ (b : Bool). b || w.may_change) ((k.alone id v at).may left))
      (λ (right : w.sole ≡ true). ap (λ (b : Bool). v.may_change || b) ((k.alone other w there).may right) ∙ or_true v.may_change)
      (or_cases v.sole w.sole sole)
    where
      or_true : (b : Bool) → (b || true) ≡ true
      or_true true = refl
      or_true false = refl

  -- One of the two is the pass that may change alone.
  not_else : (j : ℕ) (u : View) → j ≢ other → j ≢ id → get_elem? s.views j ≡ some u → u.sole ≡ true → (v.may_change || w.may_change) ≡ true → ⊥
  not_else j u not_other not_id is sole may = ⊎_elim
      (λ (left : v.may_change ≡ true). not_id (sym ((k.alone j u is).only sole id v at left)))
      (λ (right : w.may_change ≡ true). not_other (sym ((k.alone j u is).only sole other w there right)))
      (or_cases v.may_change w.may_change may)

  alone_joined : AllAlone both_views
  alone_joined = each_joined (λ (j : ℕ) (u : View). Alone both_views j u)
      (record {
        may = λ sole. may_both sole;
        only = λ sole. each_joined (λ (i : ℕ) (x : View). x.may_change ≡ true → i ≡ id) (λ may. refl) (λ may. absurd (true≢false (sym may)))
            (λ i x not_other not_id is may. absurd (only_both i x not_other not_id is may sole));
      })
      (record { may = λ sole. absurd (true≢false (sym sole)); only = λ sole. absurd (true≢false (sym sole)) })
      (λ j u not_other not_id is. record {
        may = λ sole. (k.alone j u is).may sole;
        only = λ sole. each_joined (λ (i : ℕ) (x : View). x.may_change ≡ true → i ≡ j)
            (λ may. absurd (not_else j u not_other not_id is sole may)) (λ may. absurd (true≢false (sym may)))
            (λ i x apart_other apart_id there_too may. (k.alone j u is).only sole i x there_too may);
      })

  pub kept_joined : Kept start (record { words = s.words; homes = s.homes; views = both_views })
  kept_joined =
      let alike = entries_relabelled id other apart k.log in
      let long = length_relabelled id other apart k.log in
      let still : get_elem? (set s.views id (joined v w)) other ≡ some w = set_else s.views id other (joined v w) apart ∙ there in
      let count : length both_views ≡ length s.views = length-set (set s.views id (joined v w)) other gone ∙ length-set s.views id (joined v w) in
      let one = waiting_set s.views id v (joined v w) at in
      let two = waiting_set (set s.views id (joined v w)) other w gone still in
      let none : has_ticket v.stage ≡ 0 = ap has_ticket idle in
      let none_too : has_ticket w.stage ≡ 0 = ap has_ticket idle_too in record {
        log = relabelled id other apart k.log;
        tickets = k.tickets;
        turn = k.turn;
        words = k.words ∙ ap (λ (n : ℕ). n ∷ k.tickets ∷ k.turn ∷ []) (sym long);
        room = k.room;
        legal = subst (LegalWith start) (sym alike) k.legal;
        known = subst (λ (n : ℕ). Known n (relabelled id other apart k.log)) (sym count) (known_relabelled id other apart (length s.views) k.log (at_length s.views id v at) k.known);
        each = each_joined (λ (j : ℕ) (u : View). Knows start k.tickets k.turn (relabelled id other apart k.log) j u) joined_knows gone_knows else_knows;
        alone = alone_joined;
        distinct = distinct_set (set s.views id (joined v w)) other gone (λ j u not_other is p q same. omega (arith, q))
            (distinct_set s.views id (joined v w) (λ j u not_id is p q same. omega (arith, q)) k.distinct);
        counted = omega (arith, one, two, none, none_too, k.counted);
        place = homes_alike (place_set start k.log (set s.views id (joined v w)) s.homes other w gone still (omega (arith, idle_too)) (omega arith)
            (place_set start k.log s.views s.homes id v (joined v w) at (omega (arith, idle)) (omega arith) k.place));
        at_most = let most = k.at_most in omega (arith, long, most);
        fewer = λ none_done. let few = fewer_set start k.log (set s.views id (joined v w)) s.homes other w gone still k.turn (λ four. omega (arith, four, idle_too))
            (fewer_set start k.log s.views s.homes id v (joined v w) at k.turn (λ four. omega (arith, four, idle)) k.fewer) none_done in omega (arith, long, few);
      }
    where
      homes_alike : IsHome start k.log both_views s.homes ⊎ IsOut both_views s.homes → IsHome start (relabelled id other apart k.log) both_views s.homes ⊎ IsOut both_views s.homes
      homes_alike = ⊎_elim
          (λ (h : IsHome start k.log both_views s.homes). inl (record {
            book = h.book;
            there = h.there;
            stands = subst (StandsWith start h.book) (sym (entries_relabelled id other apart k.log)) h.stands;
            nobody = h.nobody;
          }))
          (λ (o : IsOut both_views s.homes). inr o)

pub joins : (start : BookView) (id : ℕ) (v : View) (other : ℕ) (w : View) → v.stage ≡ 0 → w.stage ≡ 0 → v.spent ≡ false
    → Joins (Kept start) id v other w (joined v w) gone
joins start id v other w idle idle_too live s k at apart there =
    kept_joined start s k id v other w at apart (sym (set_else s.views id other (joined v w) apart) ∙ there) idle idle_too live

-- ---- settle

-- What has come may follow, and so may its first entries.
pub legal_first : (start : BookView) (xs ys : List Entry) → LegalWith start (xs ++ ys) → LegalWith start xs
legal_first start xs ys legal chronicle stands =
    legal_front chronicle.start (chronicle.entries ++ xs) ys
    (subst (λ (zs : List Entry). IsLegal (record { start = chronicle.start; entries = zs })) (sym (append_assoc chronicle.entries xs ys)) (legal chronicle stands))

pub settles : (start : BookView) (slots id : ℕ) (me : Seated) → me.0.stage ≡ 0 → me.0.spent ≡ false
    → Allows (Kept start) slots id me 0 (λ n. n) (settled (step slots 0 0 0 none) me)
settles start slots id me idle live s k deep at low =
    let was = k.each id me.0 at in
    let after : View = settling me.0 in
    let begins = saw_begins id k.log me.0.seen was.saw in
    let mine : Knows start k.tickets k.turn k.log id after = record {
      opened = was.opened;
      saw = was.saw;
      left = begins_none k.log;
      right = begins_none k.log;
      agree = tt;
      left_whole = λ p. omega arith;
      right_whole = λ p. omega arith;
      bare = was.bare;
      ticketed = was.ticketed;
      at_turn = was.at_turn;
      whole = was.whole;
    } in (
      after,
      keeps,
      tt,
      kept_set start s k id me.0 after at refl (λ q. q) k.tickets k.turn k.log (set s.words 0 (get_or s.words 0 0)) s.homes
          (set_read s.words 0 ∙ k.words) k.room k.legal k.known mine
          (λ j u apart there knows. knows)
          (λ j u apart there p q ticket. omega (arith, q, idle))
          (omega arith)
          (place_set start k.log s.views s.homes id me.0 after at (omega (arith, idle)) (omega (arith, idle)) k.place)
          k.at_most
          (fewer_set start k.log s.views s.homes id me.0 after at k.turn (λ four. omega (arith, four, idle)) k.fewer),
      record {
        is = refl;
        agree = was.agree;
        left_whole = was.left_whole;
        right_whole = was.right_whole;
        sole_may = (k.alone id me.0 at).may;
        sole_own = λ sole. subst AreOwn (sym was.saw.is)
            (own_marked id was.saw.first was.saw.rest (subst (AllBy id) was.saw.whole (all_own start s k id me.0 at sole)));
        bare = λ bare. subst AreOthers (sym was.saw.is)
            (others_marked id was.saw.first (none_first id was.saw.first was.saw.rest (subst (NoneBy id) was.saw.whole (was.bare bare))));
        lawful = subst (λ (b : BookView). LegalWith b (entries me.0.seen)) (sym (was.opened live))
            (legal_first start (entries me.0.seen) begins.0 (subst (LegalWith start) begins.1 k.legal));
      },
    )
