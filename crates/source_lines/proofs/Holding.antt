-- What a source of lines will report, and the fault that it keeps, as it reads and reports.
use Rattle.std.proofs.Common.{◌≡◌, inl, inr, Bool, true, false, Result, Ok, Err, arith, length-append, ℕ, ◌+◌, ◌<◌, ◌≤◌, List, [], ◌++◌, Option, None, Some, length, take, drop, refl, sym, ap, ◌∙◌, subst, append_assoc}
use Rattle.std.specs.Option.{option_map}
use Rattle.std.specs.Prelude.{OnErr}
use Rattle.std.proofs.lemmas.List.{append-nil, take-append-le}
use Rattle.std.proofs.lemmas.Option.{none-some}
use Rattle.wire_base.specs.Counter.{next}
use Rattle.wire_base.specs.Outside.{NothingLeft}
use Rattle.wire_base.proofs.Streams.{moves_more}
use Rattle.source_set.specs.Items.{Gave, LeavesAll, Reported, Tells, is_failed}
use Rattle.source_lines.specs.LineFaults.{FaultOf, HasFault, Keeps, KeepsFault}
use Rattle.source_lines.specs.LineItems.{IsItem}
use Rattle.source_lines.specs.Lines.{AreItems, BeginsWith, BufferView, HasRead, Holds, IfUnread, IsUnfinished, LineView, MOST_OCTETS, SameLines, WillReport, before_feed}
use Rattle.source_lines.specs.declared.line_buffer.Front.TheVariants as front
use Rattle.source_lines.specs.declared.line_fault.LineFault.{LineFault}
use Rattle.source_lines.specs.declared.line_fault.LineFault.TheVariants as faults
use Rattle.source_set.specs.declared.told.Told.{Told}
use Rattle.source_set.specs.declared.told.Told.TheVariants as told
use Rattle.wire_base.specs.declared.outside.stopped.Stopped.{Stopped}
use Rattle.source_lines.proofs.Feeds.{feed_le, feed_more, feed_short}
use Rattle.source_lines.proofs.OneItem.{item_not_failed, item_not_memory}
use Rattle.source_lines.proofs.LinesOf.{Comes, line_comes, long_comes, none_comes}

some_same : (xs ys : List ℕ) → Some xs ≡ Some ys → xs ≡ ys
some_same xs ys e = cc

-- A source of this input and of these octets.
abbrev pub viewed : {S : Type 0} → S → BufferView → LineView S
viewed input lines = record { input = input; held = lines.held; number = lines.number; fault = lines.fault }

-- Octets that were read are those that were left.
moved_is : (octets more : List ℕ) (after : Option (List ℕ)) → Some octets ≡ option_map (λ (left : List ℕ). more ++ left) after → (rest : List ℕ) × (after ≡ Some rest) × (octets ≡ more ++ rest)
moved_is octets more None is = absurd (none-some octets (sym is))
moved_is octets more (Some rest) is = (rest, refl, some_same octets (more ++ rest) is)

-- The octets that are held and left are the same after a read.
pub same_octets : {S : Type 0} (left : S → Option (List ℕ)) (before after : LineView S) (more octets : List ℕ) → Holds left before after more → left before.input ≡ Some octets
    → (rest : List ℕ) × (left after.input ≡ Some rest) × (after.held ++ rest ≡ before.held ++ octets)
same_octets left before after more octets holds is =
    let rest = moved_is octets more (left after.input) (sym is ∙ holds.moved) in (
      rest.0,
      rest.1,
      ap (λ (held : List ℕ). held ++ rest.0) holds.held ∙ append_assoc before.held more rest.0 ∙ ap (λ (xs : List ℕ). before.held ++ xs) (sym rest.2),
    )

-- A read loses nothing.
pub read_keeps : {S : Type 0} (left : S → Option (List ℕ)) (before after : LineView S) (more : List ℕ) (items : List Told) → Holds left before after more → WillReport left before items → WillReport left after items
read_keeps left before after more items holds will =
    let here = same_octets left before after more will.0 holds will.1 in (
      here.0,
      here.1,
      subst (λ (n : ℕ). AreItems n (after.held ++ here.0) items) (sym holds.number) (subst (λ (xs : List ℕ). AreItems before.number xs items) (sym here.2) will.2),
    )

-- One read after another.
holds_more : {S : Type 0} (left : S → Option (List ℕ)) (before mid after : LineView S) (first second : List ℕ) → Holds left before mid first → Holds left mid after second → Holds left before after (first ++ second)
holds_more left before mid after first second one other = record {
  held = other.held ∙ ap (λ (held : List ℕ). held ++ second) one.held ∙ append_assoc before.held first second;
  number = other.number ∙ one.number;
  fault = other.fault ∙ one.fault;
  moved = moves_more (left before.input) (left mid.input) (left after.input) first second one.moved other.moved;
}

-- Octets that were looked at are as they were.
holds_same : {S : Type 0} (left : S → Option (List ℕ)) (first : LineView S) (input : S) (lines looked : BufferView) (more : List ℕ) → Holds left first (viewed input lines) more → SameLines lines looked
    → Holds left first (viewed input looked) more
holds_same left first input lines looked more holds same =
    record { held = same.held ∙ holds.held; number = same.number ∙ holds.number; fault = same.fault ∙ holds.fault; moved = holds.moved }

-- The item that comes is reported, and the rest is held.
came : {S : Type 0} (left : S → Option (List ℕ)) (before after : LineView S) (item : Told) (items : List Told) (octets rest : List ℕ) → left before.input ≡ Some octets → after.input ≡ before.input
    → after.held ≡ rest → after.number ≡ next before.number → Comes before.number items item (rest ++ octets) → (later : List Told) × Tells items item later × WillReport left after later
came left before after item items octets rest is input held number comes = (
  comes.later,
  comes.tells,
  (
    octets,
    ap left input ∙ is,
    subst (λ (n : ℕ). AreItems n (after.held ++ octets) comes.later) (sym number) (subst (λ (xs : List ℕ). AreItems (next before.number) (xs ++ octets) comes.later) (sym held) comes.are),
  ),
)

pub line_gave : {S : Type 0} (left : S → Option (List ℕ)) (before after : LineView S) (item : Told) → before_feed before.held < length before.held → before_feed before.held ≤ MOST_OCTETS
    → IsItem before.number (take (before_feed before.held) before.held) item → after.input ≡ before.input → after.held ≡ drop (before_feed before.held + 1) before.held → after.number ≡ next before.number
    → Gave (WillReport left) before item after
line_gave left before after item less short is input held number = λ items will.
    came left before after item items will.0 (drop (before_feed before.held + 1) before.held) will.1 input held number (line_comes before.number before.held will.0 item items less short is will.2)

pub long_gave : {S : Type 0} (left : S → Option (List ℕ)) (before after : LineView S) → MOST_OCTETS < before_feed before.held → after.input ≡ before.input → after.held ≡ drop MOST_OCTETS before.held
    → after.number ≡ next before.number → Gave (WillReport left) before (told.Bad before.number) after
long_gave left before after long input held number = λ items will.
    came left before after (told.Bad before.number) items will.0 (drop MOST_OCTETS before.held) will.1 input held number (long_comes before.number before.held will.0 items long will.2)

nothing_is : (left : Option (List ℕ)) → NothingLeft left → (octets : List ℕ) → left ≡ Some octets → octets ≡ []
nothing_is None nothing octets is = absurd (none-some octets is)
nothing_is (Some rest) nothing octets is = sym (some_same rest octets is) ∙ nothing

-- At the end of the input no whole line is left.
pub end_gave : {S : Type 0} (left : S → Option (List ℕ)) (before after : LineView S) → IsUnfinished before.held → NothingLeft (left before.input) → Holds left before after [] → Gave (WillReport left) before told.Quiet after
end_gave left before after unfinished nothing holds = λ items will.
    let none = nothing_is (left before.input) nothing will.0 will.1 in
    let are : AreItems before.number before.held items = subst (λ (xs : List ℕ). AreItems before.number xs items) (ap (λ (xs : List ℕ). before.held ++ xs) none ∙ append-nil before.held) will.2 in
    let empty = none_comes before.number before.held items unfinished are in
    let left-over = read_keeps left before after [] items holds will in
    ([], subst (λ (xs : List Told). Tells xs told.Quiet []) (sym empty) (refl, refl), subst (λ (xs : List Told). WillReport left after xs) empty left-over)

-- ---- the fault that is kept

-- What holds of the fault of a bad line, and what was kept before.
keeps_by : (Has Also : LineFault → Type 0) (item : Told) (before first after : Option LineFault) → before ≡ first → ((fault : LineFault) → Has fault → Also fault) → Keeps Has item before after → Keeps Also item first after
keeps_by Has Also (told.Bad line) before first after same to kept = (kept.0, kept.1, to kept.0 kept.2)
keeps_by Has Also (told.Add key content) before first after same to kept = kept ∙ same
keeps_by Has Also (told.Change key content) before first after same to kept = kept ∙ same
keeps_by Has Also (told.Gone key) before first after same to kept = kept ∙ same
keeps_by Has Also told.Quiet before first after same to kept = kept ∙ same
keeps_by Has Also told.Ended before first after same to kept = kept ∙ same
keeps_by Has Also told.Failed before first after same to kept = kept ∙ same
keeps_by Has Also told.Memory before first after same to kept = kept ∙ same

-- Octets after the first line do not matter.
line_fault : (octets more : List ℕ) (fault : LineFault) → before_feed octets < length octets → before_feed octets ≤ MOST_OCTETS → HasFault (take (before_feed octets) octets) fault → FaultOf (octets ++ more) fault
line_fault octets more fault less short has =
    let same = feed_short octets more less in
    let line = ap (λ (n : ℕ). take n (octets ++ more)) same ∙ take-append-le (before_feed octets) octets more (omega (arith, less)) in
    inl (record {
      short = omega (arith, short, same);
      ended = omega (arith, less, same, length-append octets more);
      has = subst (λ (l : List ℕ). HasFault l fault) (sym line) has;
    })

long_fault : (octets more : List ℕ) → MOST_OCTETS < before_feed octets → FaultOf (octets ++ more) faults.Long
long_fault octets more long = inr (omega (arith, long, feed_more octets more), refl)

-- What comes after more was read, comes.
pub gave_later : {S : Type 0} (left : S → Option (List ℕ)) (first before after : LineView S) (item : Told) → ((items : List Told) → WillReport left first items → WillReport left before items)
    → Gave (WillReport left) before item after → Gave (WillReport left) first item after
gave_later left first before after item keeps gave = λ items will. gave items (keeps items will)

-- ---- a source that goes on

module _ {S : Type 0} (left : S → Option (List ℕ)) (first loop : LineView S) (input : S) (lines looked : BufferView) (view : viewed input lines ≡ loop)
    (done : (more : List ℕ) × Holds left first loop more) (same : SameLines lines looked) where
  looked_holds : Holds left first (viewed input looked) done.0
  looked_holds = holds_same left first input lines looked done.0 (subst (λ (v : LineView S). Holds left first v done.0) (sym view) done.1) same

  looked_keeps : (items : List Told) → WillReport left first items → WillReport left (viewed input looked) items
  looked_keeps items will = read_keeps left first (viewed input looked) done.0 items looked_holds will

  pub stayed_keeps : (after : BufferView) → SameLines looked after → (items : List Told) → WillReport left first items → WillReport left (viewed input after) items
  stayed_keeps after stays items will = read_keeps left first (viewed input after) done.0 items (holds_same left first input looked after done.0 looked_holds stays) will

  pub stayed_fault : (after : BufferView) → SameLines looked after → after.fault ≡ first.fault
  stayed_fault after stays = stays.fault ∙ looked_holds.fault

  pub held_more : (after : LineView S) (more : List ℕ) → Holds left (viewed input looked) after more → (all : List ℕ) × Holds left first after all
  held_more after more holds = (done.0 ++ more, holds_more left first (viewed input looked) after done.0 more looked_holds holds)

  pub held_keeps : (after : LineView S) → Holds left (viewed input looked) after [] → (items : List Told) → WillReport left first items → WillReport left after items
  held_keeps after holds items will = let all = held_more after [] holds in read_keeps left first after all.0 items all.1 will

  pub held_fault : (after : LineView S) → Holds left (viewed input looked) after [] → after.fault ≡ first.fault
  held_fault after holds = holds.fault ∙ looked_holds.fault

  -- A line was taken.
  pub line_item : (after : BufferView) (item : Told) (len : ℕ) → BeginsWith lines.held (front.Line len) → IsItem looked.number (take len looked.held) item → after.held ≡ drop (len + 1) looked.held
      → after.number ≡ next looked.number → (is_failed item ≡ false) × (item ≡ told.Memory → ⊥) × Gave (WillReport left) first item (viewed input after)
  line_item after item len begins is rest number =
      let at : len ≡ before_feed looked.held = begins.0 ∙ ap before_feed (sym same.held) in
      let size = ap (λ (held : List ℕ). length held) same.held in (
        item_not_failed looked.number (take len looked.held) item is,
        item_not_memory looked.number (take len looked.held) item is,
        gave_later left first (viewed input looked) (viewed input after) item looked_keeps
            (line_gave left (viewed input looked) (viewed input after) item (omega (arith, at, begins.1, size)) (omega (arith, at, begins.2))
            (subst (λ (n : ℕ). IsItem looked.number (take n looked.held) item) at is) refl (rest ∙ ap (λ (n : ℕ). drop (n + 1) looked.held) at) number),
      )

  -- The fault of a bad line is that of the first line of the octets.
  pub line_keeps : (after : BufferView) (item : Told) (len : ℕ) → BeginsWith lines.held (front.Line len) → Keeps (HasFault (take len looked.held)) item looked.fault after.fault
      → KeepsFault left first item (viewed input after)
  line_keeps after item len begins kept =
      let at : len ≡ before_feed looked.held = begins.0 ∙ ap before_feed (sym same.held) in
      let size = ap (λ (held : List ℕ). length held) same.held in
      keeps_by (HasFault (take len looked.held)) (λ fault. (octets : List ℕ) → left first.input ≡ Some octets → FaultOf (first.held ++ octets) fault) item looked.fault first.fault after.fault looked_holds.fault
      (λ fault has octets is.
      let here = same_octets left first (viewed input looked) done.0 octets looked_holds is in
      subst (λ (xs : List ℕ). FaultOf xs fault) here.2
      (line_fault looked.held here.0 fault (omega (arith, at, begins.1, size)) (omega (arith, at, begins.2)) (subst (λ (n : ℕ). HasFault (take n looked.held) fault) at has)))
      kept

  -- More octets than a line may have were taken.
  pub long_within : BeginsWith lines.held front.Long → MOST_OCTETS ≤ length looked.held
  long_within long = omega (arith, long, feed_le lines.held, ap (λ (held : List ℕ). length held) same.held)

  long_bad : (after : BufferView) → BeginsWith lines.held front.Long → after.held ≡ drop MOST_OCTETS looked.held → after.number ≡ next looked.number
      → Gave (WillReport left) first (told.Bad looked.number) (viewed input after)
  long_bad after long rest number =
      gave_later left first (viewed input looked) (viewed input after) (told.Bad looked.number) looked_keeps
      (long_gave left (viewed input looked) (viewed input after) (omega (arith, long, ap before_feed same.held)) refl rest number)

  pub long_item : (after : BufferView) (item : Told) → BeginsWith lines.held front.Long → item ≡ told.Bad looked.number → after.held ≡ drop MOST_OCTETS looked.held → after.number ≡ next looked.number
      → (is_failed item ≡ false) × (item ≡ told.Memory → ⊥) × Gave (WillReport left) first item (viewed input after)
  long_item after item long is rest number =
      (ap is_failed is, λ e. let both : told.Bad looked.number ≡ told.Memory = sym is ∙ e in absurd cc, subst (λ (t : Told). Gave (WillReport left) first t (viewed input after)) (sym is) (long_bad after long rest number))

  pub long_keeps : (after : BufferView) (item : Told) → BeginsWith lines.held front.Long → item ≡ told.Bad looked.number → after.fault ≡ Some faults.Long → KeepsFault left first item (viewed input after)
  long_keeps after item long is fault =
      subst (λ (t : Told). KeepsFault left first t (viewed input after)) (sym is) (
        faults.Long,
        fault,
        λ octets left-is.
            let here = same_octets left first (viewed input looked) done.0 octets looked_holds left-is in
            subst (λ (xs : List ℕ). FaultOf xs faults.Long) here.2 (long_fault looked.held here.0 (omega (arith, long, ap before_feed same.held))),
      )

  -- The input has come to its end.
  pub quiet_item : (after : LineView S) (more : Bool) → BeginsWith lines.held front.More → more ≡ false → HasRead left (viewed input looked) after (Ok more)
      → (is_failed told.Quiet ≡ false) × (told.Quiet ≡ told.Memory → ⊥) × Gave (WillReport left) first told.Quiet after
  quiet_item after true begins is read = absurd cc
  quiet_item after false begins is read =
      let unfinished : IsUnfinished looked.held = subst IsUnfinished (sym same.held) begins in
      (refl, λ e. absurd cc, gave_later left first (viewed input looked) after told.Quiet looked_keeps (end_gave left (viewed input looked) after unfinished read.0 read.1))

  pub quiet_keeps : (after : LineView S) (more : Bool) → more ≡ false → HasRead left (viewed input looked) after (Ok more) → KeepsFault left first told.Quiet after
  quiet_keeps after true is read = absurd cc
  quiet_keeps after false is read = held_fault after read.1

  -- It gave more.
  pub more_held : (after : LineView S) (more : Bool) → more ≡ true → HasRead left (viewed input looked) after (Ok more) → (all : List ℕ) × Holds left first after all
  more_held after false is read = absurd cc
  more_held after true is read = held_more after read.0 read.2

-- Where no item was read, all that would be reported will be.
pub unread_any : {S : Type 0} → (reports : S → List Told → Type 0) (before after : S) (result : Result Told Stopped) → ((items : List Told) → reports before items → reports after items)
    → IfUnread reports before after result
unread_any reports before after (Ok item) keeps = tt
unread_any reports before after (Err why) keeps = keeps

pub kept_any : {A : Type 0} {Is : Type 0} (result : Result A Stopped) → Is → OnErr result Is
kept_any (Ok value) is = tt
kept_any (Err why) is = is

-- What was read is what a source reports.
pub reported_item : {S : Type 0} → (reports : S → List Told → Type 0) (before after : S) (item : Told) → Gave reports before item after → Reported reports before item after
reported_item reports before after (told.Add key content) gave = gave
reported_item reports before after (told.Change key content) gave = gave
reported_item reports before after (told.Gone key) gave = gave
reported_item reports before after (told.Bad line) gave = gave
reported_item reports before after told.Quiet gave = gave
reported_item reports before after told.Ended gave = gave
reported_item reports before after told.Failed gave = tt
reported_item reports before after told.Memory gave = tt

pub leaves_item : {S : Type 0} → (reports : S → List Told → Type 0) (before after : S) (item : Told) → is_failed item ≡ false → (item ≡ told.Memory → ⊥) → LeavesAll reports before item after
leaves_item reports before after (told.Add key content) good some = tt
leaves_item reports before after (told.Change key content) good some = tt
leaves_item reports before after (told.Gone key) good some = tt
leaves_item reports before after (told.Bad line) good some = tt
leaves_item reports before after told.Quiet good some = tt
leaves_item reports before after told.Ended good some = tt
leaves_item reports before after told.Failed good some = absurd cc
leaves_item reports before after told.Memory good some = absurd (some refl)
