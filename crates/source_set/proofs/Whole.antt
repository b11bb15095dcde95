-- What a whole sweep did, as deeds one after another.
use Rattle.std.proofs.Common.{◌≡◌, inl, inr, false, ℕ, ◌+◌, List, [], ◌∷◌, ◌++◌, Option, None, Some, Result, Ok, Err, sym, subst}
use Rattle.collector_core.specs.declared.chronicle.Mark.{Mark}
use Rattle.collector_core.specs.Chronicle.{Chronicle, extended}
use Rattle.collector_core.specs.Desks.{entries}
use Rattle.source_set.specs.Asking.{Asks, AsksOnce, Ends, Refused, Stand, Stops, Tries, numbered, stand}
use Rattle.source_set.specs.Deeds.{Deed}
use Rattle.source_set.specs.Doing.{Performs, Place, Works}
use Rattle.source_set.specs.Sweeping.{AsksAll, DoesKept, Row, SweepsSeats}
use Rattle.source_set.specs.declared.doing.Undone.{Undone}
use Rattle.source_set.specs.declared.doing.Undone.TheVariants as undone
use Rattle.source_set.specs.declared.seat.Seat.{Seat}
use Rattle.source_set.specs.declared.seat.Stop.{Stop}
use Rattle.source_set.specs.declared.set.Kept.{Kept}
use Rattle.source_set.specs.declared.set.Stopped.{Stopped}
use Rattle.source_set.specs.declared.swept.Swept.{Swept}
use Rattle.source_set.specs.declared.told.Told.{Told}
use Rattle.source_set.specs.declared.told.Told.TheVariants as told
use Rattle.source_set.proofs.Working.{works_more, works_none}

module _ {B D : Type 0} (reports : B → List Told → Type 0) (stands : D → Chronicle → Type 0) (went : D → List Mark → D → Type 0) (stamp : List ℕ)
    (stays : (desk : D) → went desk [] desk)
    (follows : (one two three : D) (first second : List Mark) → went one first two → went two second three → went one (first ++ second) three)
    (carries : (before after : D) (marks : List Mark) (chronicle : Chronicle) → went before marks after → stands before chronicle → stands after (extended chronicle (entries marks))) where
  -- Some deeds were done between two places.
  abbrev Some_done : Place D → Place D → Type 0
  Some_done before after = (deeds : List Deed) × Works stands went stamp before.desk after.desk before.swept after.swept deeds

  none_done : (place : Place D) → Some_done place place
  none_done place = ([], works_none stands went stamp stays follows carries place.desk place.swept)

  then_done : (one two three : Place D) → Some_done one two → Some_done two three → Some_done one three
  then_done one two three a b = (a.0 ++ b.0, works_more stands went stamp stays follows carries one.desk two.desk three.desk one.swept two.swept three.swept a.0 b.0 a.1 b.1)

  same_done : (before after : Stand B D) → after ≡ before → Some_done before.place after.place
  same_done before after is = subst (λ (s : Stand B D). Some_done before.place s.place) (sym is) (none_done before.place)

  -- ---- one item

  undone_works : (item : Told) (before after : Place D) (why : Undone) → Performs stands went stamp item before after (Err why) → Some_done before after
  undone_works item before after (undone.UnknownKey key) performs = ([], performs.1)
  undone_works item before after (undone.Book error) performs = (_, performs.2)

  refused_works : (item : Told) (number : ℕ) (before after : Stand B D) (stop : Stop) → Refused stands went stamp item number before after stop → Some_done before.place after.place
  refused_works item number before after stop refused = undone_works item before.place after.place refused.why refused.undone

  stops_works : (item : Told) (number : ℕ) (before after : Stand B D) (stop : Stop) → Stops stands went stamp item number before after stop → Some_done before.place after.place
  stops_works (told.Bad line) number before after stop stops = same_done before after stops.1
  stops_works told.Failed number before after stop stops = same_done before after stops.1
  stops_works told.Memory number before after stop stops = same_done before after stops.1
  stops_works told.Quiet number before after stop stops = absurd stops
  stops_works (told.Add key content) number before after stop stops = refused_works (told.Add key content) number before after stop stops
  stops_works (told.Change key content) number before after stop stops = refused_works (told.Change key content) number before after stop stops
  stops_works (told.Gone key) number before after stop stops = refused_works (told.Gone key) number before after stop stops
  stops_works told.Ended number before after stop stops = refused_works told.Ended number before after stop stops

  tries_works : (item : Told) (number : ℕ) (before after : Stand B D) (result : Result Unit Stop) → Tries stands went stamp item number before after result → Some_done before.place after.place
  tries_works item number before after (Ok done) does = (_, does.works)
  tries_works item number before after (Err stop) refused = refused_works item number before after stop refused

  -- ---- one source

  once_works : (number : ℕ) (before after : Stand B D) (stop : Stop) → AsksOnce reports stands went stamp number before after (Err stop) → Some_done before.place after.place
  once_works number before after stop asks = stops_works (numbered number asks.2) number (record before { source = Some asks.1 }) after stop asks.5

  quiet_works : (number : ℕ) (before after : Stand B D) → AsksOnce reports stands went stamp number before after (Ok false) → Some_done before.place after.place
  quiet_works number before after (inl given_up) = same_done before after given_up.1
  quiet_works number before after (inr quiet) = same_done (record before { source = Some quiet.1 }) after quiet.4

  ends_works : (number count : ℕ) (middle after : Stand B D) (result : Result Unit Stop) → Ends reports stands went stamp number count middle after result → Some_done middle.place after.place
  ends_works number count middle after (Ok done) (inl full) = same_done middle after full.1
  ends_works number count middle after (Ok done) (inr ended) = quiet_works number middle after ended.1
  ends_works number count middle after (Err stop) ended = once_works number middle after stop ended.1

  asks_works : (number : ℕ) (before after : Stand B D) (result : Result Unit Stop) → Asks reports stands went stamp number before after result → Some_done before.place after.place
  asks_works number before after result asks =
      then_done before.place asks.middle.place after.place (_, asks.asked.works) (ends_works number _ asks.middle after result asks.ends)

  -- ---- all sources

  abbrev All_done : D → Swept → D → Swept → Type 0
  All_done before swept after counts = (deeds : List Deed) × Works stands went stamp before after swept counts deeds

  both_done : (one two three : D) (swept between counts : Swept) → All_done one swept two between → All_done two between three counts → All_done one swept three counts
  both_done one two three swept between counts a b = (a.0 ++ b.0, works_more stands went stamp stays follows carries one two three swept between counts a.0 b.0 a.1 b.1)

  all_works : (number : ℕ) (seats : List (Seat B)) (desk : D) (swept : Swept) (later : List (Seat B)) (after : D) (counts : Swept) (result : Result Unit Stopped)
      → AsksAll reports stands went stamp number seats desk swept later after counts result → All_done desk swept after counts
  all_works number [] desk swept later after counts result asks =
      subst (λ (d : D). All_done desk swept d counts) (sym asks.1)
      (subst (λ (s : Swept). All_done desk swept desk s) (sym asks.2) ([], works_none stands went stamp stays follows carries desk swept))
  all_works number (seat ∷ others) desk swept [] after counts result asks = absurd asks
  all_works number (seat ∷ others) desk swept (left ∷ later) after counts result (inl on) =
      both_done desk on.0 after swept on.1 counts (asks_works number (stand seat desk swept) (stand left on.0 on.1) (Ok tt) on.2)
      (all_works (number + 1) others on.0 on.1 later after counts result on.3)
  all_works number (seat ∷ others) desk swept (left ∷ later) after counts result (inr stopped) =
      asks_works number (stand seat desk swept) (stand left after counts) (Err stopped.0) stopped.2

  kept_works : (kept : Option Kept) (before after : Row B D) (result : Result Unit Stopped) → DoesKept reports stands went stamp kept before after result → All_done before.desk before.swept after.desk after.swept
  kept_works None before after result none =
      subst (λ (r : Row B D). All_done before.desk before.swept r.desk r.swept) (sym none.0) ([], works_none stands went stamp stays follows carries before.desk before.swept)
  kept_works (Some kept) before after result one =
      tries_works kept.item kept.source (stand one.seat before.desk before.swept) (stand one.left after.desk after.swept) one.answer one.tried

  pub seats_work : (kept : Option Kept) (before after : Row B D) (result : Result Unit Stopped) → SweepsSeats reports stands went stamp kept before after result → All_done before.desk before.swept after.desk after.swept
  seats_work kept before after result (inl asked) =
      both_done before.desk asked.0.desk after.desk before.swept asked.0.swept after.swept (kept_works kept before asked.0 (Ok tt) asked.1)
      (all_works 0 asked.0.seats asked.0.desk asked.0.swept after.seats after.desk after.swept result asked.2)
  seats_work kept before after result (inr stopped) = kept_works kept before after result stopped.2
