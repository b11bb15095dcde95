-- How many events fit into a report, and what is reported of them.
use Rattle.std.proofs.Common.{◌≡◌, inl, inr, ℕ, zero, suc, ◌+◌, ◌<◌, ◌≤◌, leb, Bool, true, false, List, [], ◌∷◌, length, get_or, take, drop, refl, sym, ap, ◌∙◌, subst, arith, take-take}
use Rattle.std.specs.Prelude.{max, min}
use Rattle.std.specs.List.{sum_by}
use Rattle.std.proofs.lemmas.Bool.{cases_lt, cond-true, cond-false, le-leb, leb-false, leb-true, lt-leb}
use Rattle.std.proofs.lemmas.List.{take_min, drop_min, take-map, get_or-map, length-map}
use Rattle.std.proofs.lemmas.List.Sums.{sum_by-cons, sum_by_more, sum_by-take-le}
use denote.Ref.{Bor}
use Rattle.swima_model.specs.declared.event.Event.{Event}
use Rattle.swima_model.specs.declared.record.Record.{Record}
use Rattle.swima_model.specs.declared.report.Kind.{Kind}
use Rattle.swima_model.specs.declared.report.Kind.TheVariants.{Ids, Full}
use Rattle.swima_model.specs.declared.report.Point.{Point}
use Rattle.swima_model.specs.declared.report.Report.TheVariants.{Events}
use Rattle.swima_model.specs.Kinds.{events_of_kind, record_of_kind, records_of_kind}
use Rattle.swima_model.specs.Size.{event_size, record_size, report_size}
use Rattle.swima_request.specs.declared.request.Request.{Request}
use Rattle.collector_core.specs.declared.answer.Answer.TheVariants as answer
use Rattle.collector_core.specs.Answering.{consulted_before, events_report, front_fits, if_fits, longest, told}
use Rattle.collector_core.specs.Meaning.{LongestFrontIsTold}
use Rattle.collector_core.specs.BookAnswer.{inventory_of}
use Rattle.collector_core.specs.Borrowed.{values}
use Rattle.collector_core.specs.ReportContent.{event_of_kind}

-- ---- sizes

record_same : (kind : Kind) (r : Record) → record_size kind (record_of_kind kind r) ≡ record_size kind r
record_same Ids r = refl
record_same Full r = refl

event_same : (kind : Kind) (e : Event) → event_size kind (event_of_kind kind e) ≡ event_size kind e
event_same kind e = ap (λ (n : ℕ). 24 + n) (record_same kind e.subject)

records_same : (kind : Kind) (rs : List Record) → sum_by (record_size kind) (records_of_kind kind rs) ≡ sum_by (record_size kind) rs
records_same kind [] = refl
records_same kind (r ∷ rs) =
    sum_by-cons (record_size kind) (record_of_kind kind r) (records_of_kind kind rs)
    ∙ ap (λ (n : ℕ). n + sum_by (record_size kind) (records_of_kind kind rs)) (record_same kind r)
    ∙ ap (λ (n : ℕ). record_size kind r + n) (records_same kind rs)
    ∙ sym (sum_by-cons (record_size kind) r rs)

events_same : (kind : Kind) (es : List Event) → sum_by (event_size kind) (events_of_kind kind es) ≡ sum_by (event_size kind) es
events_same kind [] = refl
events_same kind (e ∷ es) =
    sum_by-cons (event_size kind) (event_of_kind kind e) (events_of_kind kind es)
    ∙ ap (λ (n : ℕ). n + sum_by (event_size kind) (events_of_kind kind es)) (event_same kind e)
    ∙ ap (λ (n : ℕ). event_size kind e + n) (events_same kind es)
    ∙ sym (sum_by-cons (event_size kind) e es)

-- The size of an inventory and of a report of events, by the records and events as they are held.
pub inventory_size : (request : Request) (point : Point) (rs : List Record) → report_size (inventory_of request point rs) ≡ 16 + sum_by (record_size request.kind) rs
inventory_size request point rs = ap (λ (n : ℕ). 16 + n) (records_same request.kind rs)

pub events_report_size : (request : Request) (point : Point) (es : List Event) (count : ℕ) → report_size (events_report request point es count) ≡ 20 + sum_by (event_size request.kind) (take count es)
events_report_size request point es count = ap (λ (n : ℕ). 20 + n) (events_same request.kind (take count es))

-- ---- the longest

pub longest_is : (test : ℕ → Bool) (count n : ℕ) → count ≤ n → (0 < count → test count ≡ true) → ((k : ℕ) → count < k → k ≤ n → test k ≡ false) → longest test n ≡ count
longest_is test count zero within fits more = omega (arith, within)
longest_is test count (suc n) within fits more = elim (cases_lt count (suc n)) [
  | inl below ↦
      cond-false (test (suc n)) (suc n) (longest test n) (more (suc n) below (omega arith))
      ∙ longest_is test count n (omega (arith, below)) fits (λ k above under. more k above (omega (arith, under)))
  | inr from ↦
      let is : count ≡ suc n = omega (arith, within, from) in
      let here : test (suc n) ≡ true = subst (λ (k : ℕ). test k ≡ true) is (fits (omega (arith, is))) in
      cond-true (test (suc n)) (suc n) (longest test n) here ∙ sym is
]

-- It is the greatest that passes.
pub record Greatest (test : ℕ → Bool) (n : ℕ) : Type 0 where
  pub within : longest test n ≤ n
  pub passes : 0 < longest test n → test (longest test n) ≡ true
  pub more : (k : ℕ) → longest test n < k → k ≤ n → test k ≡ false

pub greatest : (test : ℕ → Bool) (n : ℕ) → Greatest test n
greatest test zero = record {
  within = omega arith;
  passes = λ some. absurd (omega (arith, some));
  more = λ k above under. absurd (omega (arith, above, under));
}
greatest test (suc n) = one (test (suc n)) refl (greatest test n)
  where
    one : (here : Bool) → test (suc n) ≡ here → Greatest test n → Greatest test (suc n)
    one true is rest =
        let at : longest test (suc n) ≡ suc n = cond-true (test (suc n)) (suc n) (longest test n) is in
        record {
          within = omega (arith, at);
          passes = λ some. subst (λ (k : ℕ). test k ≡ true) (sym at) is;
          more = λ k above under. absurd (omega (arith, above, under, at));
        }
    one false is rest =
        let at : longest test (suc n) ≡ longest test n = cond-false (test (suc n)) (suc n) (longest test n) is in
        record {
          within = omega (arith, at, rest.within);
          passes = λ some. subst (λ (k : ℕ). test k ≡ true) (sym at) (rest.passes (omega (arith, at, some)));
          more = λ k above under. elim (cases_lt k (suc n)) [
            | inl below ↦ rest.more k (omega (arith, above, at)) (omega (arith, below))
            | inr last ↦
                let here : suc n ≡ k = omega (arith, under, last) in
                subst (λ (j : ℕ). test j ≡ false) here is
          ];
        }

module _ (request : Request) (point : Point) (es : List Event) (most : ℕ) where
  -- As many fit as the sizes say: with these it is not too large, with one more it is.
  pub fitting_is : (count : ℕ) → count ≤ length es → (0 < count → 20 + sum_by (event_size request.kind) (take count es) ≤ most)
      → (count < length es → most < 20 + sum_by (event_size request.kind) (take (count + 1) es)) → longest (front_fits request point es most) (length es) ≡ count
  fitting_is count within fits more =
      longest_is (front_fits request point es most) count (length es) within
      (λ some. le-leb (report_size (events_report request point es count)) most (omega (arith, events_report_size request point es count, fits some)))
      (λ k above under.
      let grows : sum_by (event_size request.kind) (take (count + 1) (take k es)) ≤ sum_by (event_size request.kind) (take k es) = sum_by-take-le (event_size request.kind) (take k es) (count + 1) in
      let same : sum_by (event_size request.kind) (take (count + 1) (take k es)) ≡ sum_by (event_size request.kind) (take (count + 1) es) = ap (sum_by (event_size request.kind)) (take-take (count + 1) k es (omega (arith, above))) in
      lt-leb (report_size (events_report request point es k)) most (omega (arith, events_report_size request point es k, more (omega (arith, above, under)), grows, same)))

  -- What is reported, by the events from the start and those that are left out.
  pub told_is : (count : ℕ) → count ≡ min (max (longest (front_fits request point es most) (length es)) 1) (length es)
      → told request point es most ≡ events_report request point es count
  told_is count is =
      let n : ℕ = max 1 (longest (front_fits request point es most) (length es)) in
      let same : count ≡ min (max 1 (longest (front_fits request point es most) (length es))) (length es) = omega (arith, is) in
      let front : take count es ≡ take (max 1 (longest (front_fits request point es most) (length es))) es = ap (λ (k : ℕ). take k es) same ∙ take_min (max 1 (longest (front_fits request point es most) (length es))) es in
      let behind : drop count es ≡ drop (max 1 (longest (front_fits request point es most) (length es))) es = ap (λ (k : ℕ). drop k es) same ∙ drop_min (max 1 (longest (front_fits request point es most) (length es))) es in
      ap (λ (xs : List Event). Events request.kind false request.id point (consulted_before xs point.eid) (events_of_kind request.kind (take (max 1 (longest (front_fits request point es most) (length es))) es))) (sym behind)
      ∙ ap (λ (xs : List Event). Events request.kind false request.id point (consulted_before (drop count es) point.eid) (events_of_kind request.kind xs)) (sym front)

  told_size : (count : ℕ) → count ≡ min (max (longest (front_fits request point es most) (length es)) 1) (length es) → report_size (told request point es most) ≡ 20 + sum_by (event_size request.kind) (take count es)
  told_size count is = ap report_size (told_is count is) ∙ ap (λ (n : ℕ). 20 + n) (events_same request.kind (take count es))

  -- The answer, where the size passes the most octets and where it does not.
  pub told_too_large : (count size : ℕ) → count ≡ min (max (longest (front_fits request point es most) (length es)) 1) (length es) → size ≡ 20 + sum_by (event_size request.kind) (take count es) → most < size
      → answer.TooLarge size most ≡ if_fits most (told request point es most)
  told_too_large count size is sized above =
      let same : size ≡ report_size (told request point es most) = sized ∙ sym (told_size count is) in
      ap (λ (n : ℕ). answer.TooLarge n most) same
      ∙ sym (cond-false (leb (report_size (told request point es most)) most) _ _ (lt-leb (report_size (told request point es most)) most (omega (arith, same, above))))

  pub told_fits : (count size : ℕ) → count ≡ min (max (longest (front_fits request point es most) (length es)) 1) (length es) → size ≡ 20 + sum_by (event_size request.kind) (take count es) → size ≤ most
      → answer.Report (Events request.kind false request.id point (consulted_before (drop count es) point.eid) (events_of_kind request.kind (take count es))) ≡ if_fits most (told request point es most)
  told_fits count size is sized within =
      let same : size ≡ report_size (told request point es most) = sized ∙ sym (told_size count is) in
      ap answer.Report (sym (told_is count is))
      ∙ sym (cond-true (leb (report_size (told request point es most)) most) _ _ (le-leb (report_size (told request point es most)) most (omega (arith, same, within))))

-- In the words of the law.
pub longest_front_is_told : LongestFrontIsTold
longest_front_is_told request point es most =
    let is = greatest (front_fits request point es most) (length es) in
    let count : ℕ = min (max (longest (front_fits request point es most) (length es)) 1) (length es) in
    record {
      count = min (max (longest (front_fits request point es most) (length es)) 1) (length es);
      within = omega arith;
      some = λ there. omega (arith, there);
      is = told_is request point es most (min (max (longest (front_fits request point es most) (length es)) 1) (length es)) refl;
      fits = λ several.
          let at : longest (front_fits request point es most) (length es) ≡ min (max (longest (front_fits request point es most) (length es)) 1) (length es) = omega (arith, several, is.within) in
          leb-true (report_size (events_report request point es (min (max (longest (front_fits request point es most) (length es)) 1) (length es)))) most
          (subst (λ (k : ℕ). front_fits request point es most k ≡ true) at (is.passes (omega (arith, several))));
      longer = λ more above under. leb-false (report_size (events_report request point es more)) most (is.more more (omega (arith, above, under)) under);
    }

-- The same of an inventory.
module _ (request : Request) (point : Point) (rs : List Record) (most size : ℕ) (sized : size ≡ 16 + sum_by (record_size request.kind) rs) where
  same_size : size ≡ report_size (inventory_of request point rs)
  same_size = sized ∙ sym (inventory_size request point rs)

  pub inventory_too_large : most < size → answer.TooLarge size most ≡ if_fits most (inventory_of request point rs)
  inventory_too_large above =
      ap (λ (n : ℕ). answer.TooLarge n most) same_size
      ∙ sym (cond-false (leb (report_size (inventory_of request point rs)) most) _ _ (lt-leb (report_size (inventory_of request point rs)) most (omega (arith, same_size, above))))

  pub inventory_fits : size ≤ most → answer.Report (inventory_of request point rs) ≡ if_fits most (inventory_of request point rs)
  inventory_fits within = sym (cond-true (leb (report_size (inventory_of request point rs)) most) _ _ (le-leb (report_size (inventory_of request point rs)) most (omega (arith, same_size, within))))

-- ---- the loop over borrowed events

module _ (request : Request) (point : Point) (events : List (Bor Event)) (most count size place : ℕ) (sized : size ≡ 20 + sum_by (event_size request.kind) (values (take place events))) (is : count ≡ place)
    (fits : 0 < place → size ≤ most) where
  so_far : 20 + sum_by (event_size request.kind) (take count (values events)) ≡ size
  so_far = ap (λ (k : ℕ). 20 + sum_by (event_size request.kind) (take k (values events))) is ∙ ap (λ (es : List Event). 20 + sum_by (event_size request.kind) es) (take-map (λ b. b.now) place events) ∙ sym sized

  pub fitting_stops : (one : ℕ) (event : Bor Event) → place < length events → event ≡ get_or events place event → one ≡ event_size request.kind event.now → most < size + one → count ≡ longest (front_fits request point (values events) most) (length (values events))
  fitting_stops one event within here takes above =
      let more : sum_by (event_size request.kind) (take (count + 1) (values events)) ≡ sum_by (event_size request.kind) (take count (values events)) + event_size request.kind (get_or (values events) count event.now) =
      sum_by_more (event_size request.kind) (values events) count event.now (omega (arith, is, within, length-map events (λ b. b.now))) in
      let item : event_size request.kind (get_or (values events) count event.now) ≡ event_size request.kind event.now =
      ap (λ (k : ℕ). event_size request.kind (get_or (values events) k event.now)) is
      ∙ ap (event_size request.kind) (get_or-map (λ b. b.now) events place event event.now within)
      ∙ ap (λ (b : Bor Event). event_size request.kind b.now) (sym here) in
      sym (fitting_is request point (values events) most count (omega (arith, is, within, length-map events (λ b. b.now))) (λ some. omega (arith, so_far, fits (omega (arith, some, is))))
      (λ room. omega (arith, so_far, more, item, takes, above)))

  pub fitting_ends : place ≡ length events → count ≡ longest (front_fits request point (values events) most) (length (values events))
  fitting_ends end =
      sym (fitting_is request point (values events) most count (omega (arith, is, end, length-map events (λ b. b.now))) (λ some. omega (arith, so_far, fits (omega (arith, some, is))))
      (λ room. absurd (omega (arith, room, is, end, length-map events (λ b. b.now)))))
