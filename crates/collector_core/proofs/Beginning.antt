-- The book of a start.
use Rattle.std.proofs.Common.{◌≡◌, ℕ, suc, ◌+◌, ◌<◌, ◌≤◌, List, [], ◌∷◌, ◌++◌, length, get_or, take, refl, sym, ap, ◌∙◌, subst, arith}
use Rattle.std.specs.List.{sum_by}
use Rattle.std.specs.List.Sorted.{IsStrictlyIncreasing}
use Rattle.std.proofs.lemmas.List.{take_more, length-take}
use Rattle.std.proofs.lemmas.List.Sums.{sum_by-append}
use Rattle.std.proofs.lemmas.List.Elements.{All-cons, All-nil}
use Rattle.swima_model.specs.declared.event.Event.{Event}
use Rattle.swima_model.specs.declared.record.Content.{Content}
use Rattle.swima_model.specs.declared.record.Record.{Record}
use Rattle.swima_model.specs.History.{IsHonestEpoch}
use Rattle.swima_model.specs.InOrder.{ids}
use Rattle.swima_model.specs.Size.{MOST_RECORDS, MOST_RECORDS_OCTETS, content_octets, records_octets}
use Rattle.swima_model.proofs.Rises.{AllFrom, from_lower}
use Rattle.swima_model.proofs.Living.{live_none}
use Rattle.collector_core.specs.declared.chronicle.Entry.{Entry}
use Rattle.collector_core.specs.Book.{IsBook}
use Rattle.collector_core.specs.Chronicle.{Start, identified_from, first_epoch}
use Rattle.collector_core.specs.Legal.{IsStart}
use Rattle.collector_core.specs.Standing.{Stands, book_of}
use Rattle.collector_core.proofs.Changing.{not_large}
use Rattle.swima_model.proofs.Places.{Climbs, climbed, climbs_left}
use Rattle.collector_core.proofs.Places.{octets_append}

identified_append : (id : ℕ) (xs ys : List Content) → identified_from id (xs ++ ys) ≡ identified_from id xs ++ identified_from (id + length xs) ys
identified_append id [] ys =
    let e : id ≡ id + 0 = omega arith in
    ap (λ (n : ℕ). identified_from n ys) e
identified_append id (x ∷ xs) ys =
    let e : id + 1 + length xs ≡ id + length (x ∷ xs) = omega arith in
    ap (λ (l : List Record). record { id = id; content = x } ∷ l) (identified_append (id + 1) xs ys ∙ ap (λ (n : ℕ). identified_from (id + 1) xs ++ identified_from n ys) e)

pub identified_more : (xs : List Content) (place : ℕ) (item : Content) → place < length xs → item ≡ get_or xs place item
    → identified_from 1 (take (place + 1) xs) ≡ identified_from 1 (take place xs) ++ record { id = place + 1; content = item } ∷ []
identified_more xs place item lt is =
    let e : 1 + length (take place xs) ≡ place + 1 = omega (arith, lt, length-take place xs) in
    ap (identified_from 1) (take_more xs place item lt)
    ∙ identified_append 1 (take place xs) (get_or xs place item ∷ [])
    ∙ ap (λ (n : ℕ). identified_from 1 (take place xs) ++ record { id = n; content = get_or xs place item } ∷ []) e
    ∙ ap (λ (c : Content). identified_from 1 (take place xs) ++ record { id = place + 1; content = c } ∷ []) (sym is)

pub identified_length : (id : ℕ) (xs : List Content) → length (identified_from id xs) ≡ length xs
identified_length id [] = refl
identified_length id (x ∷ xs) = omega (arith, identified_length (id + 1) xs)

identified_octets : (id : ℕ) (xs : List Content) → records_octets (identified_from id xs) ≡ sum_by content_octets xs
identified_octets id [] = refl
identified_octets id (x ∷ xs) =
    let left : records_octets (identified_from id (x ∷ xs)) ≡ 0 + content_octets x + records_octets (identified_from (id + 1) xs) = octets_append (record { id = id; content = x } ∷ []) (identified_from (id + 1) xs) in
    let right : sum_by content_octets (x ∷ xs) ≡ 0 + content_octets x + sum_by content_octets xs = sum_by-append content_octets (x ∷ []) xs in
    omega (arith, left, right, identified_octets (id + 1) xs)

identified_climbs : (n : ℕ) (xs : List Content) → AllFrom n (ids (identified_from n xs) ++ (n + length xs) ∷ []) × Climbs (ids (identified_from n xs) ++ (n + length xs) ∷ [])
identified_climbs n [] = ((omega arith, tt), (tt, tt))
identified_climbs n (x ∷ xs) =
    let last : n + 1 + length xs ≡ n + length (x ∷ xs) = omega arith in
    let one : n + 1 ≡ suc n = omega arith in
    let rest = subst (λ (m : ℕ). AllFrom (n + 1) (ids (identified_from (n + 1) xs) ++ m ∷ []) × Climbs (ids (identified_from (n + 1) xs) ++ m ∷ [])) last (identified_climbs (n + 1) xs) in
    let above : AllFrom (n + 1) (ids (identified_from (n + 1) xs) ++ (n + length (x ∷ xs)) ∷ []) = rest.0 in (
      (omega arith, from_lower n (n + 1) (ids (identified_from (n + 1) xs) ++ (n + length (x ∷ xs)) ∷ []) (omega arith) rest.0),
      (subst (λ (m : ℕ). AllFrom m (ids (identified_from (n + 1) xs) ++ (n + length (x ∷ xs)) ∷ [])) one rest.0, rest.1),
    )

pub new_book : (octets next : ℕ) (base : List Content) (records : List Record) → length base ≤ MOST_RECORDS → octets ≤ MOST_RECORDS_OCTETS → octets ≡ sum_by content_octets base → next ≡ length base + 1 → records ≡ identified_from 1 base
    → IsBook next octets records
new_book octets next base records few small counted behind made =
    let e : 1 + length base ≡ next = omega (arith, behind) in
    record {
      rising = subst (λ (rs : List Record). IsStrictlyIncreasing (ids rs ++ next ∷ [])) (sym made)
          (climbed (ids (identified_from 1 base) ++ next ∷ []) (subst (λ (n : ℕ). Climbs (ids (identified_from 1 base) ++ n ∷ [])) e (identified_climbs 1 base).1));
      counted = counted ∙ sym (identified_octets 1 base) ∙ ap records_octets (sym made);
      fits = not_large records (omega (arith, ap length made, identified_length 1 base, few)) (omega (arith, ap records_octets made, identified_octets 1 base, small, counted));
    }

-- It stands for the chronicle without entries.
pub stands_new : (start : Start) → IsStart start → length start.contents ≤ MOST_RECORDS → sum_by content_octets start.contents ≤ MOST_RECORDS_OCTETS → Stands (book_of start) (record { start = start; entries = [] })
stands_new start is few small =
    let rising : IsStrictlyIncreasing (ids (identified_from 1 start.contents)) =
    climbed (ids (identified_from 1 start.contents)) (climbs_left (ids (identified_from 1 start.contents)) ((1 + length start.contents) ∷ []) (identified_climbs 1 start.contents).1) in
    let epoch : IsHonestEpoch (first_epoch start) = record {
      numbered = omega (arith, is.epoch.0);
      rising = rising;
      begins = not_large (identified_from 1 start.contents) (omega (arith, identified_length 1 start.contents, few)) (omega (arith, identified_octets 1 start.contents, small));
      eids = tt;
      few = omega arith;
      fit = λ before event after split. absurd (none before event after split);
    } in
    record {
      legal = record {
        start = is;
        honest = record {
          epochs = All-cons IsHonestEpoch (first_epoch start) [] epoch (All-nil IsHonestEpoch);
          distinct = λ i j d lt within. absurd (omega (arith, lt, within));
        };
        follow = λ before x after split. absurd (no_entry before x after split);
      };
      epoch = refl;
      next = refl;
      records = sym (live_none (identified_from 1 start.contents) rising);
      cap = refl;
      first = omega (arith, is.cap.0);
      last = refl;
      events = refl;
    }
  where
    none : (before : List Event) (event : Event) (after : List Event) → [] ≡ before ++ event ∷ after → ⊥
    none [] event after e = cc
    none (b ∷ before) event after e = cc

    no_entry : (before : List Entry) (x : Entry) (after : List Entry) → [] ≡ before ++ x ∷ after → ⊥
    no_entry [] x after e = cc
    no_entry (b ∷ before) x after e = cc
