-- Where a call of a source failed, and how its count of faults rose.
use Rattle.std.proofs.Common.{◌≡◌, ◌≢◌, inl, inr, ℕ, ◌<◌, Bool, true, false, List, Option, None, Some, Result, Ok, Err, get_or, length, set, refl, sym, ap, ◌∙◌, subst, arith, eq-eqb}
use Rattle.std.proofs.lemmas.Bool.{cases_eq, ne_eqb}
use Rattle.std.proofs.lemmas.List.{get_or-set_other, get_or-set_same, get_or_default, length-set}
use Rattle.wire_base.specs.Outside.{HasCause}
use Rattle.collector_core.specs.declared.chronicle.Mark.{Mark}
use Rattle.collector_core.specs.declared.error.BookError.TheVariants as refused
use Rattle.collector_core.specs.Chronicle.{Chronicle}
use Rattle.source_set.specs.Asking.{Asks, HasCauseAt, Hears, Refused, Stand, Stops, asked_failed, is_failure, left_by, numbered, stop_of}
use Rattle.source_set.specs.Doing.{Place}
use Rattle.source_set.specs.Items.{is_failed}
use Rattle.source_set.specs.Sweeping.{HaveCauses}
use Rattle.source_set.specs.declared.doing.Undone.{Undone}
use Rattle.source_set.specs.declared.doing.Undone.TheVariants as undone
use Rattle.source_set.specs.declared.seat.Seat.{Seat}
use Rattle.source_set.specs.declared.seat.Stop.{Stop}
use Rattle.source_set.specs.declared.told.Told.{Told}
use Rattle.source_set.specs.declared.told.Told.TheVariants as told

-- ---- one source

-- Why an item was not done is no failure of a source.
pub undone_no_failure : (at number : ℕ) (item : Told) (why : Undone) → is_failure at (stop_of number item why).error ≡ false
undone_no_failure at number item (undone.UnknownKey key) = refl
undone_no_failure at number item (undone.Book refused.Memory) = refl
undone_no_failure at number item (undone.Book (refused.EidsSpent last)) = refl
undone_no_failure at number item (undone.Book (refused.IdsSpent next)) = refl
undone_no_failure at number item (undone.Book (refused.UnknownRecord id)) = refl
undone_no_failure at number item (undone.Book (refused.RecordsFull count)) = refl
undone_no_failure at number item (undone.Book (refused.BytesFull held given)) = refl
undone_no_failure at number item (undone.Book (refused.EpochNotNew latest given)) = refl
undone_no_failure at number item (undone.Book (refused.TrimPast last given)) = refl

module _ {B : Type 0} (faults : B → ℕ) where
  -- Nothing was asked.
  pub cause_none : (source : Option B) → HasCauseAt faults source source false
  cause_none None = (refl, refl)
  cause_none (Some source) = record { later = omega arith; cause = refl }

  pub cause_left : (item : Told) (source : Option B) → HasCauseAt faults source (left_by item source) false
  cause_left (told.Add key content) source = cause_none source
  cause_left (told.Change key content) source = cause_none source
  cause_left (told.Gone key) source = cause_none source
  cause_left (told.Bad line) source = cause_none source
  cause_left told.Quiet source = cause_none source
  cause_left told.Ended None = (refl, refl)
  cause_left told.Ended (Some source) = refl
  cause_left told.Failed source = cause_none source
  cause_left told.Memory source = cause_none source

  -- After calls that did not fail comes another.
  cause_next : (a b c : ℕ) (failed : Bool) → HasCause a b false → HasCause b c failed → HasCause a c failed
  cause_next a b c failed first second = subst (λ (n : ℕ). HasCause n c failed) first.cause second

  pub cause_joins : (a b c : Option B) (failed : Bool) → HasCauseAt faults a b false → HasCauseAt faults b c failed → HasCauseAt faults a c failed
  cause_joins None b c failed first second = subst (λ (o : Option B). HasCauseAt faults o c failed) first.0 second
  cause_joins (Some a) None c failed first second = subst (λ (o : Option B). HasCauseAt faults (Some a) o failed) (sym second.0) second.1
  cause_joins (Some a) (Some b) None failed first second = second
  cause_joins (Some a) (Some b) (Some c) failed first second = cause_next (faults a) (faults b) (faults c) failed first second

module _ {B D : Type 0} (faults : B → ℕ) (stands : D → Chronicle → Type 0) (went : D → List Mark → D → Type 0) (stamp : List ℕ) where
  -- What was heard of a call names its failure.
  done_cause : (number : ℕ) (first onward : B) (item : Told) (before after : Stand B D) → HasCause (faults first) (faults onward) (is_failed item) → before.source ≡ Some onward
      → is_failed item ≡ false → after.source ≡ left_by (numbered number item) before.source → HasCauseAt faults (Some first) after.source false
  done_cause number first onward item before after cause is good left =
      let called : HasCauseAt faults (Some first) (Some onward) false = subst (λ (b : Bool). HasCause (faults first) (faults onward) b) good cause in
      subst (λ (o : Option B). HasCauseAt faults (Some first) o false) (sym left)
      (cause_joins faults (Some first) before.source (left_by (numbered number item) before.source) false
      (subst (λ (o : Option B). HasCauseAt faults (Some first) o false) (sym is) called)
      (cause_left faults (numbered number item) before.source))

  refused_cause : (number : ℕ) (first onward : B) (item : Told) (place : Place D) (after : Stand B D) (stop : Stop) → HasCause (faults first) (faults onward) false
      → Refused stands went stamp item number (record { source = Some onward; place = place }) after stop → HasCauseAt faults (Some first) after.source (is_failure number stop.error)
  refused_cause number first onward item place after stop cause refusal =
      subst (λ (o : Option B). HasCauseAt faults (Some first) o (is_failure number stop.error)) (sym refusal.source)
      (subst (λ (b : Bool). HasCause (faults first) (faults onward) b) (sym (ap (λ (s : Stop). is_failure number s.error) refusal.is ∙ undone_no_failure number number item refusal.why)) cause)

  stops_cause : (number : ℕ) (first onward : B) (item : Told) (place : Place D) (after : Stand B D) (stop : Stop) → HasCause (faults first) (faults onward) (is_failed item)
      → Stops stands went stamp (numbered number item) number (record { source = Some onward; place = place }) after stop → HasCauseAt faults (Some first) after.source (is_failure number stop.error)
  stops_cause number first onward (told.Add key content) place after stop cause stops = refused_cause number first onward _ place after stop cause stops
  stops_cause number first onward (told.Change key content) place after stop cause stops = refused_cause number first onward _ place after stop cause stops
  stops_cause number first onward (told.Gone key) place after stop cause stops = refused_cause number first onward _ place after stop cause stops
  stops_cause number first onward told.Ended place after stop cause stops = refused_cause number first onward _ place after stop cause stops
  stops_cause number first onward told.Quiet place after stop cause stops = absurd stops
  stops_cause number first onward (told.Bad line) place after stop cause stops =
      subst (λ (s : Stop). HasCauseAt faults (Some first) after.source (is_failure number s.error)) (sym stops.0)
      (subst (λ (a : Stand B D). HasCauseAt faults (Some first) a.source false) (sym stops.1) cause)
  stops_cause number first onward told.Memory place after stop cause stops =
      subst (λ (s : Stop). HasCauseAt faults (Some first) after.source (is_failure number s.error)) (sym stops.0)
      (subst (λ (a : Stand B D). HasCauseAt faults (Some first) a.source false) (sym stops.1) cause)
  stops_cause number first onward told.Failed place after stop cause stops =
      subst (λ (s : Stop). HasCauseAt faults (Some first) after.source (is_failure number s.error)) (sym stops.0)
      (subst (λ (b : Bool). HasCauseAt faults (Some first) after.source b) (sym (eq-eqb number number refl))
      (subst (λ (a : Stand B D). HasCauseAt faults (Some first) a.source true) (sym stops.1) cause))

  heard_cause : (number : ℕ) (first onward : B) (item : Told) (place : Place D) (after : Stand B D) (result : Result Bool Stop) → HasCause (faults first) (faults onward) (is_failed item)
      → Hears stands went stamp (numbered number item) number (record { source = Some onward; place = place }) after result → HasCauseAt faults (Some first) after.source (asked_failed number result)
  heard_cause number first onward (told.Add key content) place after (Ok true) cause heard = done_cause number first onward (told.Add key content) (record { source = Some onward; place = place }) after cause refl refl heard.1.source
  heard_cause number first onward (told.Change key content) place after (Ok true) cause heard = done_cause number first onward (told.Change key content) (record { source = Some onward; place = place }) after cause refl refl heard.1.source
  heard_cause number first onward (told.Gone key) place after (Ok true) cause heard = done_cause number first onward (told.Gone key) (record { source = Some onward; place = place }) after cause refl refl heard.1.source
  heard_cause number first onward told.Ended place after (Ok true) cause heard = done_cause number first onward told.Ended (record { source = Some onward; place = place }) after cause refl refl heard.1.source
  heard_cause number first onward told.Quiet place after (Ok true) cause heard = absurd heard.0
  heard_cause number first onward (told.Bad line) place after (Ok true) cause heard = absurd heard.0
  heard_cause number first onward told.Failed place after (Ok true) cause heard = absurd heard.0
  heard_cause number first onward told.Memory place after (Ok true) cause heard = absurd heard.0
  heard_cause number first onward told.Quiet place after (Ok false) cause heard = subst (λ (a : Stand B D). HasCauseAt faults (Some first) a.source false) (sym heard.1) cause
  heard_cause number first onward (told.Add key content) place after (Ok false) cause heard = let is = heard.0 in absurd cc
  heard_cause number first onward (told.Change key content) place after (Ok false) cause heard = let is = heard.0 in absurd cc
  heard_cause number first onward (told.Gone key) place after (Ok false) cause heard = let is = heard.0 in absurd cc
  heard_cause number first onward told.Ended place after (Ok false) cause heard = let is = heard.0 in absurd cc
  heard_cause number first onward (told.Bad line) place after (Ok false) cause heard = let is = heard.0 in absurd cc
  heard_cause number first onward told.Failed place after (Ok false) cause heard = let is = heard.0 in absurd cc
  heard_cause number first onward told.Memory place after (Ok false) cause heard = let is = heard.0 in absurd cc
  heard_cause number first onward item place after (Err stop) cause heard = stops_cause number first onward item place after stop cause heard

  -- The same of the source as it stood.
  pub once_cause : (number : ℕ) (source : Option B) (first onward : B) (item : Told) (place : Place D) (after : Stand B D) (result : Result Bool Stop) → source ≡ Some first
      → HasCause (faults first) (faults onward) (is_failed item)
      → Hears stands went stamp (numbered number item) number (record { source = Some onward; place = place }) after result → HasCauseAt faults source after.source (asked_failed number result)
  once_cause number source first onward item place after result is cause heard =
      subst (λ (o : Option B). HasCauseAt faults o after.source (asked_failed number result)) (sym is) (heard_cause number first onward item place after result cause heard)

  -- ---- which source it was

  pub refused_names : (number at : ℕ) (item : Told) (before after : Stand B D) (stop : Stop) → Refused stands went stamp item number before after stop → is_failure at stop.error ≡ false
  refused_names number at item before after stop refusal = ap (λ (s : Stop). is_failure at s.error) refusal.is ∙ undone_no_failure at number item refusal.why

  -- No call was made.
  pub refused_stays : (number at : ℕ) (item : Told) (before after : Stand B D) (stop : Stop) → Refused stands went stamp item number before after stop
      → HasCauseAt faults before.source after.source (is_failure at stop.error)
  refused_stays number at item before after stop refusal =
      subst (λ (o : Option B). HasCauseAt faults before.source o (is_failure at stop.error)) (sym refusal.source)
      (subst (λ (b : Bool). HasCauseAt faults before.source before.source b) (sym (refused_names number at item before after stop refusal)) (cause_none faults before.source))

  stops_names : (number at : ℕ) (item : Told) (before after : Stand B D) (stop : Stop) → at ≢ number → Stops stands went stamp item number before after stop → is_failure at stop.error ≡ false
  stops_names number at (told.Add key content) before after stop other stops = refused_names number at (told.Add key content) before after stop stops
  stops_names number at (told.Change key content) before after stop other stops = refused_names number at (told.Change key content) before after stop stops
  stops_names number at (told.Gone key) before after stop other stops = refused_names number at (told.Gone key) before after stop stops
  stops_names number at told.Ended before after stop other stops = refused_names number at told.Ended before after stop stops
  stops_names number at told.Quiet before after stop other stops = absurd stops
  stops_names number at (told.Bad line) before after stop other stops = ap (λ (s : Stop). is_failure at s.error) stops.0
  stops_names number at told.Memory before after stop other stops = ap (λ (s : Stop). is_failure at s.error) stops.0
  stops_names number at told.Failed before after stop other stops = ap (λ (s : Stop). is_failure at s.error) stops.0 ∙ ne_eqb number at (λ e. other (sym e))

  pub asks_names : (reports : B → List Told → Type 0) (number at : ℕ) (before after : Stand B D) (stop : Stop) → at ≢ number → Asks reports stands went stamp number before after (Err stop)
      → is_failure at stop.error ≡ false
  asks_names reports number at before after stop other asks = let once = asks.ends.1 in stops_names number at (numbered number once.2) _ after stop other once.5

-- ---- all sources

module _ {B : Type 0} (faults : B → ℕ) where
  pub causes_none : (seats : List (Seat B)) → HaveCauses faults seats seats (λ number. false)
  causes_none seats = (refl, λ number seat less. cause_none faults (get_or seats number seat).source)

  causes_here : (before middle : List (Seat B)) (place : ℕ) (d other seat left : Seat B) (failed : Bool) → place < length middle → HaveCauses faults before middle (λ number. false)
      → get_or middle place d ≡ seat → HasCauseAt faults seat.source left.source failed
      → HasCauseAt faults (get_or before place other).source (get_or (set middle place left) place other).source failed
  causes_here before middle place d other seat left failed less so-far is one =
      let here : get_or middle place other ≡ seat = get_or_default middle place other d less ∙ is in
      subst (λ (s : Seat B). HasCauseAt faults (get_or before place other).source s.source failed) (sym (get_or-set_same middle place left other less))
      (cause_joins faults (get_or before place other).source seat.source left.source failed
      (subst (λ (s : Seat B). HasCauseAt faults (get_or before place other).source s.source false) here (so-far.1 place other (omega (arith, less, so-far.0)))) one)

  -- One of them was asked.
  pub causes_one : (before middle : List (Seat B)) (place : ℕ) (d seat left : Seat B) (failed : ℕ → Bool) → place < length middle → HaveCauses faults before middle (λ number. false)
      → get_or middle place d ≡ seat → HasCauseAt faults seat.source left.source (failed place) → ((number : ℕ) → number ≢ place → failed number ≡ false)
      → HaveCauses faults before (set middle place left) failed
  causes_one before middle place d seat left failed less so-far is one none = (
    length-set middle place left ∙ so-far.0,
    λ number other within. elim (cases_eq number place) [
      | inl same ↦ subst (λ (n : ℕ). HasCauseAt faults (get_or before n other).source (get_or (set middle place left) n other).source (failed n)) (sym same) (causes_here before middle place d other seat left (failed place) less so-far is one)
      | inr apart ↦
          subst (λ (b : Bool). HasCauseAt faults (get_or before number other).source (get_or (set middle place left) number other).source b) (sym (none number apart))
          (subst (λ (s : Seat B). HasCauseAt faults (get_or before number other).source s.source false) (sym (get_or-set_other middle place number left other apart)) (so-far.1 number other within))
    ],
  )
