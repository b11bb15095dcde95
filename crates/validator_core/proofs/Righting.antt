-- A mirror that is right stays right.
use Rattle.std.proofs.Common.{◌≡◌, ℕ, ◌<◌, ◌≤◌, eqb, leb, cond, not, Bool, true, false, List, [], ◌∷◌, ◌++◌, length, take, drop, Option, Some, None, refl, sym, ap, ◌∙◌, subst, append_assoc, arith, eqb-true, leb-false}
use Rattle.std.proofs.lemmas.Bool.{cond_both, cond-false, true≢false}
use Rattle.std.specs.Prelude.{Contains}
use Rattle.std.specs.List.Sorted.{IsStrictlyIncreasing}
use Rattle.std.proofs.lemmas.List.{map-append, take-append-drop}
use Rattle.swima_model.specs.declared.event.Event.{Event}
use Rattle.swima_model.specs.declared.record.Record.{Record}
use Rattle.swima_model.specs.declared.report.Kind.{Kind}
use Rattle.swima_model.specs.declared.report.Kind.TheVariants.{Ids, Full}
use Rattle.swima_model.specs.declared.report.Point.{Point}
use Rattle.swima_model.specs.declared.report.Report.{Report}
use Rattle.swima_model.specs.declared.report.Report.TheVariants.{Inventory, Events}
use Rattle.swima_model.specs.Doubled.{doubled}
use Rattle.swima_model.specs.InOrder.{ids, in_order}
use Rattle.swima_model.specs.Kinds.{records_of_kind, events_of_kind}
use Rattle.swima_model.specs.History.{Epoch, History, IsHonest, IsHonestEpoch, FitsBehind, LiesIn, Answers, TellsAll, contradicts, live_at}
use Rattle.swima_model.specs.Live.{live}
use Rattle.swima_model.specs.Size.{are_large, records_octets}
use Rattle.swima_model.proofs.Living.{once_strict, strict_rises}
use Rattle.swima_model.proofs.OfKind.{event_of_kind}
use Rattle.swima_model.proofs.Placing.{is_in_order}
use Rattle.swima_model.proofs.Repeats.{doubled_is_least_repeated}
use Rattle.validator_core.specs.declared.mirror.Taken.{Taken}
use Rattle.validator_core.specs.declared.mirror.Taken.TheVariants as taken
use Rattle.validator_core.specs.Following.{events_above, gap, too_large, misfit, or_later, first_misfit_after, first_misfit}
use Rattle.validator_core.specs.Held.{Held}
use Rattle.validator_core.specs.Judge.{Judged, is_stale, judge, judge_inventory, judge_records, judge_events, judge_events_at, judge_numbered, judge_above, marked, same_kind}
use Rattle.validator_core.specs.Right.{RightAt, IsRight, BlamesNot, StaysRight}
use Rattle.validator_core.proofs.Epochs.{honest_epoch, one_epoch, live_at_rises, live_at_fits, live_on, fits_on}
use Rattle.validator_core.proofs.Numbered.{between, followed, tells_above, nothing_told}

-- What is judged is right and says nothing against the report.
abbrev pub Good : History → Taken × Held → Type 0
Good history judged = IsRight history judged.1 × BlamesNot judged.0

-- Two kinds that are one.
kinds_are : (one other : Kind) → not (same_kind one other) ≡ false → one ≡ other
kinds_are Ids Ids e = refl
kinds_are Ids Full e = absurd (true≢false e)
kinds_are Full Ids e = absurd (true≢false e)
kinds_are Full Full e = refl

-- ---- an inventory

-- Records of rising identifiers are in order, and none is doubled.
rising_in_order : (records : List Record) → IsStrictlyIncreasing (ids records) → in_order records ≡ records
rising_in_order records up = sym (is_in_order records records (strict_rises (ids records) up) (λ x. refl))

rising_undoubled : (records : List Record) → IsStrictlyIncreasing (ids records) → doubled (ids records) ≡ None
rising_undoubled records up = (doubled_is_least_repeated (ids records) None).1 (λ n. once_strict n (ids records) up)

-- So they are adopted where they are not too many.
adopted : (mirror : Held) (point : Point) (records : List Record) → IsStrictlyIncreasing (ids records) → are_large records ≡ false
    → judge_records mirror point records (doubled (ids records)) ≡ (taken.Adopted, record mirror { point = Some point; records = records; off = false })
adopted mirror point records up fits =
    ap (judge_records mirror point records) (rising_undoubled records up)
    ∙ cond-false (are_large records) (taken.Large (length records) (records_octets records), marked mirror) (taken.Adopted, record mirror { point = Some point; records = in_order records; off = false }) fits
    ∙ ap (λ (rs : List Record). (taken.Adopted, record mirror { point = Some point; records = rs; off = false })) (rising_in_order records up)

inventory_right : (history : History) (mirror : Held) (kind : Kind) (point : Point) (records : List Record) → IsHonest history → IsRight history mirror
    → LiesIn history point (λ epoch. records ≡ live_at epoch point.eid kind) → Good history (judge_inventory mirror kind point records)
inventory_right history mirror kind point records honest right lies =
    let stale = is_stale mirror.point mirror.off point in
    let found = judge_records mirror point records (doubled (ids records)) in
    let epoch = honest_epoch history lies.epoch honest lies.among in
    let up = subst (λ (rs : List Record). IsStrictlyIncreasing (ids rs)) (sym lies.holds_so) (live_at_rises lies.epoch point.eid kind epoch) in
    let fits = ap are_large lies.holds_so ∙ live_at_fits lies.epoch point.eid kind epoch lies.reached in
    cond_both (not (same_kind kind mirror.kind)) (taken.WrongKind, mirror) (cond stale (taken.Stale, mirror) found) (Good history) (λ other. (right, tt))
    (λ same. cond_both stale (taken.Stale, mirror) found (Good history) (λ behind. (right, tt))
    (λ new. subst (Good history) (sym (adopted mirror point records up fits)) (
      record {
        epoch = lies.epoch;
        among = lies.among;
        named = lies.named;
        reached = lies.reached;
        holds_so = lies.holds_so ∙ ap (live_at lies.epoch point.eid) (kinds_are kind mirror.kind same);
      },
      tt,
    )))

-- ---- events

-- Nothing is said of events that fit.
no_misfit : (base : List Record) (before : List Event) (event : Event) → FitsBehind base before event → misfit base before event ≡ None
no_misfit base before event fits =
    cond-false (contradicts (live base before) event) (Some (taken.Contradiction event.eid)) (too_large (live base (before ++ event ∷ []))) fits.agrees
    ∙ cond-false (are_large (live base (before ++ event ∷ []))) (Some (taken.Large (length (live base (before ++ event ∷ []))) (records_octets (live base (before ++ event ∷ []))))) None fits.fits

no_misfit_after : (epoch : Epoch) (count : ℕ) (kind : Kind) (before later after : List Event) → IsHonestEpoch epoch → epoch.events ≡ take count epoch.events ++ (before ++ (later ++ after))
    → first_misfit_after (live_at epoch count kind) (events_of_kind kind before) (events_of_kind kind later) ≡ None
no_misfit_after epoch count kind before [] after honest split = refl
no_misfit_after epoch count kind before (event ∷ later) after honest split =
    let here = no_misfit (live_at epoch count kind) (events_of_kind kind before) (event_of_kind kind event) (fits_on epoch count kind before event (later ++ after) honest split) in
    let front = sym (map-append (event_of_kind kind) before (event ∷ [])) in
    let next : epoch.events ≡ take count epoch.events ++ ((before ++ event ∷ []) ++ (later ++ after)) =
    split ∙ ap (λ (es : List Event). take count epoch.events ++ es) (sym (append_assoc before (event ∷ []) (later ++ after))) in
    ap (λ (said : Option Taken). or_later said (first_misfit_after (live_at epoch count kind) (events_of_kind kind before ++ event_of_kind kind event ∷ []) (events_of_kind kind later))) here
    ∙ ap (λ (es : List Event). first_misfit_after (live_at epoch count kind) es (events_of_kind kind later)) front
    ∙ no_misfit_after epoch count kind (before ++ event ∷ []) later after honest next

-- The events of an epoch up to a place that is consulted, after one that is held.
without_misfit : (epoch : Epoch) (held consulted : ℕ) (kind : Kind) → IsHonestEpoch epoch → held ≤ consulted
    → first_misfit (live_at epoch held kind) (events_of_kind kind (between held consulted epoch.events)) ≡ None
without_misfit epoch held consulted kind honest le =
    no_misfit_after epoch held kind [] (between held consulted epoch.events) (drop consulted epoch.events) honest
    (sym (take-append-drop consulted epoch.events) ∙ ap (λ (es : List Event). es ++ drop consulted epoch.events) (sym (followed held consulted epoch.events honest.eids le))
    ∙ append_assoc (take held epoch.events) (between held consulted epoch.events) (drop consulted epoch.events))

-- Such events lead on to what is live there.
advanced : (epoch : Epoch) (held consulted : ℕ) (kind : Kind) → IsHonestEpoch epoch → held ≤ consulted
    → live (live_at epoch held kind) (events_of_kind kind (between held consulted epoch.events)) ≡ live_at epoch consulted kind
advanced epoch held consulted kind honest le =
    live_on epoch held kind (between held consulted epoch.events) honest
    ∙ ap (λ (es : List Event). records_of_kind kind (live epoch.base es)) (followed held consulted epoch.events honest.eids le)

-- The events that a report without a gap reports above the one that is held.
above_is : (epoch : Epoch) (held consulted : ℕ) (kind : Kind) (events : List Event) → TellsAll epoch kind consulted events → held < consulted → gap held consulted events ≡ None
    → events_above held events ≡ events_of_kind kind (between held consulted epoch.events)
above_is epoch held consulted kind [] tells lt none = absurd (nothing_told held consulted lt none)
above_is epoch held consulted kind (first ∷ others) tells lt none = tells_above kind held consulted epoch.events (first ∷ others) first.eid tells lt none

-- The epoch of a point, with as many events as were consulted.
record Cited (history : History) (point : Point) (consulted : ℕ) (epoch : Epoch) : Type 0 where
  among : Contains history epoch
  named : epoch.number ≡ point.epoch
  reached : consulted ≤ length epoch.events

-- They are followed.
followed_right : (history : History) (mirror : Held) (held : Point) (consulted : ℕ) (events : List Event) (epoch : Epoch) → IsHonest history → IsRight history mirror
    → LiesIn history held (λ e. mirror.records ≡ live_at e held.eid mirror.kind) → Cited history held consulted epoch → TellsAll epoch mirror.kind consulted events → held.eid < consulted → (found : Option ℕ) → gap held.eid consulted events ≡ found → Good history (judge_numbered mirror held consulted events found)
followed_right history mirror held consulted events epoch honest stays right cited tells lt (Some got) is = (stays, tt)
followed_right history mirror held consulted events epoch honest stays right cited tells lt None is =
    let one : right.epoch ≡ epoch = one_epoch history right.epoch epoch honest right.among cited.among (right.named ∙ sym cited.named) in
    let good = honest_epoch history epoch honest cited.among in
    let base : mirror.records ≡ live_at epoch held.eid mirror.kind = right.holds_so ∙ ap (λ (e : Epoch). live_at e held.eid mirror.kind) one in
    let above = above_is epoch held.eid consulted mirror.kind events tells lt is in
    let le : held.eid ≤ consulted = omega (arith, lt) in
    let calm : first_misfit mirror.records (events_above held.eid events) ≡ None =
    ap (λ (rs : List Record). first_misfit rs (events_above held.eid events)) base ∙ ap (first_misfit (live_at epoch held.eid mirror.kind)) above ∙ without_misfit epoch held.eid consulted mirror.kind good le in
    let on : live mirror.records (events_above held.eid events) ≡ live_at epoch consulted mirror.kind =
    ap (λ (rs : List Record). live rs (events_above held.eid events)) base ∙ ap (live (live_at epoch held.eid mirror.kind)) above ∙ advanced epoch held.eid consulted mirror.kind good le in
    subst (λ (said : Option Taken). Good history (judge_above mirror held consulted (events_above held.eid events) said)) (sym calm)
    (record { epoch = epoch; among = cited.among; named = cited.named; reached = cited.reached; holds_so = on }, tt)

-- Over the point that is held.
events_at_right : (history : History) (mirror : Held) (point : Point) (consulted : ℕ) (events : List Event) → IsHonest history
    → LiesIn history point (λ epoch. (consulted ≤ point.eid) × TellsAll epoch mirror.kind consulted events) → (held : Option Point) → RightAt history mirror.kind mirror.records held → mirror.point ≡ held
    → Good history (judge_events_at mirror point.epoch consulted events held)
events_at_right history mirror point consulted events honest lies None right is = (subst (RightAt history mirror.kind mirror.records) (sym is) right, tt)
events_at_right history mirror point consulted events honest lies (Some held) right is =
    let stays = subst (RightAt history mirror.kind mirror.records) (sym is) right in
    let found = judge_numbered mirror held consulted events (gap held.eid consulted events) in
    let stale = leb consulted held.eid in
    cond_both (not (eqb point.epoch held.epoch)) (taken.OtherEpoch (Some held.epoch) point.epoch, marked mirror) (cond stale (taken.Stale, mirror) found) (Good history) (λ other. (stays, tt))
    (λ same. cond_both stale (taken.Stale, mirror) found (Good history) (λ behind. (stays, tt))
    (λ new. followed_right history mirror held consulted events lies.epoch honest stays right (record {
      among = lies.among;
      named = lies.named ∙ epochs_are point.epoch held.epoch same;
      reached = omega (arith, lies.reached, lies.holds_so.0);
    }) lies.holds_so.1 (leb-false consulted held.eid new) (gap held.eid consulted events) refl))
  where
    epochs_are : (one other : ℕ) → not (eqb one other) ≡ false → one ≡ other
    epochs_are one other e = eqb-true one other (twice_not (eqb one other) e)
      where
        twice_not : (b : Bool) → not b ≡ false → b ≡ true
        twice_not true e = refl
        twice_not false e = absurd (true≢false e)

events_right : (history : History) (mirror : Held) (kind : Kind) (point : Point) (consulted : ℕ) (events : List Event) → IsHonest history → IsRight history mirror
    → LiesIn history point (λ epoch. (consulted ≤ point.eid) × TellsAll epoch kind consulted events) → Good history (judge_events mirror kind point.epoch consulted events)
events_right history mirror kind point consulted events honest right lies =
    cond_both (not (same_kind kind mirror.kind)) (taken.WrongKind, mirror) (judge_events_at mirror point.epoch consulted events mirror.point) (Good history) (λ other. (right, tt))
    (λ same. events_at_right history mirror point consulted events honest
    (subst (λ (k : Kind). LiesIn history point (λ epoch. (consulted ≤ point.eid) × TellsAll epoch k consulted events)) (kinds_are kind mirror.kind same) lies) mirror.point right refl)

-- ---- a report

-- Each line of the tables keeps the kind.
abbrev Keeps : Held → Taken × Held → Type 0
Keeps mirror judged = judged.1.kind ≡ mirror.kind

records_kind : (mirror : Held) (point : Point) (records : List Record) (found : Option ℕ) → Keeps mirror (judge_records mirror point records found)
records_kind mirror point records (Some id) = refl
records_kind mirror point records None =
    cond_both (are_large records) (taken.Large (length records) (records_octets records), marked mirror) (taken.Adopted, record mirror { point = Some point; records = in_order records; off = false }) (Keeps mirror)
    (λ large. refl) (λ fits. refl)

inventory_kind : (mirror : Held) (kind : Kind) (point : Point) (records : List Record) → Keeps mirror (judge_inventory mirror kind point records)
inventory_kind mirror kind point records =
    let stale = is_stale mirror.point mirror.off point in
    let found = judge_records mirror point records (doubled (ids records)) in
    cond_both (not (same_kind kind mirror.kind)) (taken.WrongKind, mirror) (cond stale (taken.Stale, mirror) found) (Keeps mirror) (λ other. refl)
    (λ same. cond_both stale (taken.Stale, mirror) found (Keeps mirror) (λ behind. refl) (λ new. records_kind mirror point records (doubled (ids records))))

above_kind : (mirror : Held) (held : Point) (consulted : ℕ) (above : List Event) (said : Option Taken) → Keeps mirror (judge_above mirror held consulted above said)
above_kind mirror held consulted above (Some misfit) = refl
above_kind mirror held consulted above None = refl

numbered_kind : (mirror : Held) (held : Point) (consulted : ℕ) (events : List Event) (found : Option ℕ) → Keeps mirror (judge_numbered mirror held consulted events found)
numbered_kind mirror held consulted events (Some got) = refl
numbered_kind mirror held consulted events None = above_kind mirror held consulted (events_above held.eid events) (first_misfit mirror.records (events_above held.eid events))

events_at_kind : (mirror : Held) (epoch consulted : ℕ) (events : List Event) (held : Option Point) → Keeps mirror (judge_events_at mirror epoch consulted events held)
events_at_kind mirror epoch consulted events None = refl
events_at_kind mirror epoch consulted events (Some held) =
    let found = judge_numbered mirror held consulted events (gap held.eid consulted events) in
    let stale = leb consulted held.eid in
    cond_both (not (eqb epoch held.epoch)) (taken.OtherEpoch (Some held.epoch) epoch, marked mirror) (cond stale (taken.Stale, mirror) found) (Keeps mirror) (λ other. refl)
    (λ same. cond_both stale (taken.Stale, mirror) found (Keeps mirror) (λ behind. refl) (λ new. numbered_kind mirror held consulted events (gap held.eid consulted events)))

events_kind : (mirror : Held) (kind : Kind) (epoch consulted : ℕ) (events : List Event) → Keeps mirror (judge_events mirror kind epoch consulted events)
events_kind mirror kind epoch consulted events =
    cond_both (not (same_kind kind mirror.kind)) (taken.WrongKind, mirror) (judge_events_at mirror epoch consulted events mirror.point) (Keeps mirror) (λ other. refl)
    (λ same. events_at_kind mirror epoch consulted events mirror.point)

pub judged_right : (history : History) (mirror : Held) (report : Report) → IsHonest history → IsRight history mirror → Answers history report → Good history (judge mirror report)
judged_right history mirror (Inventory kind fulfil id point records) honest right answers = inventory_right history mirror kind point records honest right answers
judged_right history mirror (Events kind fulfil id point consulted events) honest right answers = events_right history mirror kind point consulted events honest right answers

-- The mirror keeps its kind.
pub judged_kind : (mirror : Held) (report : Report) → (judge mirror report).1.kind ≡ mirror.kind
judged_kind mirror (Inventory kind fulfil id point records) = inventory_kind mirror kind point records
judged_kind mirror (Events kind fulfil id point consulted events) = events_kind mirror kind point.epoch consulted events

-- So it is after each answer of a call.
pub stays_right : (before : Held) (report : Report) (answer : Taken) (after : Held) → Judged before (judge before report) answer after → StaysRight before report answer after
stays_right before report taken.Memory after h history honest right answers = (subst (IsRight history) (sym h.1) right, tt)
stays_right before report taken.WrongKind after h history honest right answers = subst (Good history) h (judged_right history before report honest right answers)
stays_right before report taken.Stale after h history honest right answers = subst (Good history) h (judged_right history before report honest right answers)
stays_right before report (taken.Doubled id) after h history honest right answers = subst (Good history) h (judged_right history before report honest right answers)
stays_right before report (taken.Large count octets) after h history honest right answers = subst (Good history) h (judged_right history before report honest right answers)
stays_right before report taken.Adopted after h history honest right answers = subst (Good history) h (judged_right history before report honest right answers)
stays_right before report (taken.OtherEpoch have got) after h history honest right answers = subst (Good history) h (judged_right history before report honest right answers)
stays_right before report (taken.Gap have got) after h history honest right answers = subst (Good history) h (judged_right history before report honest right answers)
stays_right before report (taken.Contradiction eid) after h history honest right answers = subst (Good history) h (judged_right history before report honest right answers)
stays_right before report (taken.Advanced from to) after h history honest right answers = subst (Good history) h (judged_right history before report honest right answers)
