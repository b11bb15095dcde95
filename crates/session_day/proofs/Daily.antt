-- The day, step by step.
use Rattle.std.proofs.Common.{◌≡◌, ◌∙◌, ℕ, zero, suc, ◌+◌, ◌-◌, ◌≤◌, ◌++◌, List, [], ◌∷◌, Result, Ok, Err, refl, sym, ap, ap₂, subst, append_assoc, append-nil, length, arith}
use Rattle.std.specs.Borrow.{Bor}
use Rattle.std.specs.Prelude.{◌/◌, ◌%◌, ◌==◌, false, IfOk, OnOk, if◌then◌else◌}
use Rattle.wire_base.specs.Stamp.{IsStampAt}
use Rattle.collector_core.specs.declared.book.edit.Edit.{Edit}
use Rattle.collector_core.specs.declared.book.edit.Edit.TheVariants as edit
use Rattle.swima_model.specs.declared.record.Content.{Content}
use Rattle.validator_core.specs.Held.{Held}
use Rattle.session_world.specs.declared.telling.Telling.{Telling}
use Rattle.session_world.specs.Lines.{Told, and_on, cuts, enters, opens, round, runs, ups}
use Rattle.session_world.specs.Standing.{Does, StandsFor, WorldView}
use Rattle.session_world.specs.World.{World, carried_up, waits_up}
use Rattle.session_world.proofs.Joining.{on_ok}
use Rattle.session_world.proofs.Rounds.{does_same, does_then}
use Rattle.session_script.specs.declared.line.Line.{Line}
use Rattle.session_script.specs.declared.line.Line.TheVariants as said
use Rattle.session_script.specs.Replay.{Changes, IsEntered}
use Rattle.session_day.specs.declared.day.Day.{Day}
use Rattle.session_day.specs.Day.{AreChanged, IsChanged, MakeTells, day_change, first_session, half_up, last_sessions, morning, summary}
use Rattle.session_day.specs.Days.{Acts, FollowsFirst, IsMorning, PlaysDay, Steps}
use Rattle.session_day.specs.Package.{content_by, next_number, number_of, package_content, packages}

-- ---- packages

-- One more package.
pub packages_more : (count first n : ℕ) → packages count first n ++ package_content count (first + n) 0 ∷ [] ≡ packages count first (suc n)
packages_more count first zero = ap (λ (k : ℕ). package_content count k 0 ∷ []) here
  where
    here : first + 0 ≡ first
    here = omega (arith)
packages_more count first (suc n) =
    ap (λ (cs : List Content). package_content count first 0 ∷ cs) (ap (λ (k : ℕ). packages count (first + 1) n ++ package_content count k 0 ∷ []) there ∙ packages_more count (first + 1) n)
  where
    there : first + suc n ≡ first + 1 + n
    there = omega (arith)

-- The packages up to the one of this number, and its number in the sequence.
pub morning_next : (count number x next : ℕ) (base longer : List Content) (made : Content) → 1 ≤ number → x ≡ number_of count (number - 1) → base ≡ packages count 1 (number - 1) → next ≡ next_number x → made ≡ content_by number 0 next
    → longer ≡ base ++ made ∷ [] → (next ≡ number_of count (number + 1 - 1)) × (longer ≡ packages count 1 (number + 1 - 1))
morning_next count number x next base longer made some so_far before one is more =
    let k : ℕ = number - 1 in
    let here : number ≡ 1 + k = omega (arith, some) in
    let there : suc k ≡ number + 1 - 1 = omega (arith, some) in
    let next_is : suc k ≡ 1 + k = omega (arith) in
    let counted : next ≡ number_of count (suc k) = one ∙ ap next_number so_far in
    let packed : made ≡ package_content count (1 + k) 0 = is ∙ ap₂ (λ (n x : ℕ). content_by n 0 x) here (counted ∙ ap (number_of count) next_is) in (
      counted ∙ ap (number_of count) there,
      more ∙ ap₂ (λ (cs : List Content) (c : Content). cs ++ c ∷ []) before packed ∙ packages_more count 1 k ∙ ap (packages count 1) there,
    )

-- ---- changes

-- The changes before the one of this number were made.
pub record Changing (count : ℕ) (first : World) (before after : Day) (left number : ℕ) : Type 0 where
  pub w : World
  pub stands : StandsFor after.world w
  pub so_far : List Telling
  pub told : after.told ≡ before.told ++ so_far
  pub carried : after.carried ≡ before.carried
  pub goes : (last : Told) → AreChanged count left number w last → AreChanged count 40 1 first (last.0, so_far ++ last.1)

-- One change, and then others.
changes_one : (count n number : ℕ) (w : World) (one others : Told) → IsChanged count number w one → AreChanged count n (number + 1) one.0 others → AreChanged count (suc n) number w (others.0, one.1 ++ others.1)
unfolding AreChanged
changes_one count n number w one others is are = (one, is, (others, are, refl))

changes_none : (count number : ℕ) (w : World) → AreChanged count 0 number w (w, [])
unfolding AreChanged
changes_none count number w = refl

module _ (count : ℕ) (first : World) (before : Day) where
  pub changing_first : StandsFor before.world first → Changing count first before before 40 1
  changing_first stands = record { w = first; stands = stands; so_far = []; told = sym (append-nil before.told); carried = refl; goes = λ last are. are }

  pub changing_next : (mid after : Day) (left n number : ℕ) → left ≡ suc n → Changing count first before mid left number → Steps (IsChanged count number) mid after → Changing count first before after n (number + 1)
  changing_next mid after left n number one so steps =
      let step = steps so.w so.stands in
      record {
        w = step.0.0;
        stands = step.2.0;
        so_far = so.so_far ++ step.0.1;
        told = step.2.1 ∙ ap (λ (told : List Telling). told ++ step.0.1) so.told ∙ append_assoc before.told so.so_far step.0.1;
        carried = step.2.2 ∙ so.carried;
        goes = λ last are. subst (λ (told : List Telling). AreChanged count 40 1 first (last.0, told)) (sym (append_assoc so.so_far step.0.1 last.1))
            (so.goes (last.0, step.0.1 ++ last.1) (subst (λ (k : ℕ). AreChanged count k number so.w (last.0, step.0.1 ++ last.1)) (sym one) (changes_one count n number so.w step.0 last step.1 are)));
      }

pub changed_all : (count number left : ℕ) (before after : Day) → left ≡ 0 → ((w : World) → StandsFor before.world w → Changing count w before after left number) → Steps (AreChanged count 40 1) before after
changed_all count number left before after none changing w stands =
    let so = changing w stands in
    let all : AreChanged count 40 1 w (so.w, so.so_far ++ []) = so.goes (so.w, []) (subst (λ (k : ℕ). AreChanged count k number so.w (so.w, [])) (sym none) (changes_none count number so.w)) in
    ((so.w, so.so_far ++ []), all, (so.stands, so.told ∙ ap (λ (told : List Telling). before.told ++ told) (sym (append-nil so.so_far)), so.carried))

-- What the change of a number is.
module _ (count number : ℕ) where
  abbrev by_rest : ℕ → Line
  by_rest rest = if rest == 0 then said.Delete number else (if rest == 3 then said.Create (package_content count (count + number) 0) else said.Alter number (package_content count number number))

  pub day_deletes : number % 4 ≡ 0 → day_change count number ≡ said.Delete number
  day_deletes is = ap by_rest is

  pub day_creates : number % 4 ≡ 3 → day_change count number ≡ said.Create (package_content count (count + number) 0)
  day_creates is = ap by_rest is

  pub day_alters : (number % 4 == 0) ≡ false → (number % 4 == 3) ≡ false → day_change count number ≡ said.Alter number (package_content count number number)
  day_alters not_0 not_3 = rw (not_0, not_3) refl

-- One change that a line says, with its stamp.
changed_so : {T E : Type 0} (line : Line) (second : ℕ) (stamp : List ℕ) (change : Edit) (before after : Day) (result : Result T E)
    → OnOk result (Does (enters change) before.world before.told after.world after.told) → IsStampAt second (Ok stamp) → Changes line stamp change → after.carried ≡ before.carried
    → OnOk result (Steps (IsEntered line second) before after)
changed_so line second stamp change before after result done stamped changes carried =
    on_ok result (λ does w stands.
    let to = does w stands in
    (enters change w, record { stamp = stamp; stamped = stamped; change = change; changes = changes; does = refl }, (to.0, to.1, carried))) done

pub created_so : {T E : Type 0} (content : Content) (second : ℕ) (moment : Bor (List ℕ)) (given : Bor Content) (before after : Day) (result : Result T E)
    → OnOk result (Does (enters (edit.Create moment given)) before.world before.told after.world after.told) → IsStampAt second (Ok moment.now) → given.now ≡ content → after.carried ≡ before.carried
    → OnOk result (Steps (IsEntered (said.Create content) second) before after)
created_so content second moment given before after result done stamped is carried =
    changed_so (said.Create content) second moment.now (edit.Create moment given) before after result done stamped (refl, is) carried

pub altered_so : {T E : Type 0} (id : ℕ) (content : Content) (second : ℕ) (moment : Bor (List ℕ)) (given : Bor Content) (before after : Day) (result : Result T E)
    → OnOk result (Does (enters (edit.Alter moment id given)) before.world before.told after.world after.told) → IsStampAt second (Ok moment.now) → given.now ≡ content → after.carried ≡ before.carried
    → OnOk result (Steps (IsEntered (said.Alter id content) second) before after)
altered_so id content second moment given before after result done stamped is carried =
    changed_so (said.Alter id content) second moment.now (edit.Alter moment id given) before after result done stamped (refl, refl, is) carried

-- ---- sessions

-- A line of which nothing is told, whatever was told before.
pub untold : (line : World → Told) (before after : WorldView) (told : List Telling) → ((w : World) → (line w).1 ≡ []) → Does line before [] after [] → Does line before told after told
untold line before after told none does = λ w stands. ((does w stands).0, sym (append-nil told) ∙ ap (λ (ts : List Telling). told ++ ts) (sym (none w)))

-- The sessions after the changes, one line after another.
pub last_done : (start opened waiting halved over again last : WorldView) (told first second third : List Telling) (half : ℕ) → ((w : World) → StandsFor waiting w → half ≡ length (waits_up w) / 2)
    → Does opens start [] opened [] → Does round opened told waiting first → Does (ups half) waiting first halved second → Does cuts halved [] over [] → Does opens over [] again [] → Does runs again second last third
    → Does last_sessions start told last third
last_done start opened waiting halved over again last told first second third half is begins carries cut drops reopens ends =
    does_then (λ w. and_on (and_on (and_on (and_on (opens w) round) half_up) cuts) opens) runs start again last told second third
    (does_then (λ w. and_on (and_on (and_on (opens w) round) half_up) cuts) opens start over again told second second
    (does_then (λ w. and_on (and_on (opens w) round) half_up) cuts start halved over told second second
    (does_then (λ w. and_on (opens w) round) half_up start waiting halved told first second
    (does_then opens round start opened waiting told told first (untold opens start opened told (λ w. refl) begins) carries)
    (does_same (ups half) half_up waiting halved first second (λ w stands. ap (λ (k : ℕ). ups k w) (is w stands)) cut))
    (untold cuts halved over second (λ w. refl) drops))
    (untold opens over again second (λ w. refl) reopens))
    ends

-- The first session, and the octets that it carries.
pub first_followed : {T E : Type 0} (before after : Day) (opened : WorldView) (result : Result T E) → Does opens before.world [] opened []
    → OnOk result (Does runs opened before.told after.world after.told)
    → OnOk result ((w : World) → StandsFor opened w → before.carried ≡ carried_up w → after.carried ≡ carried_up (runs w).0) → OnOk result (FollowsFirst before after)
first_followed before after opened (Ok value) begins ends noted = (
  does_then opens runs before.world opened after.world before.told before.told after.told (untold opens before.world opened before.told (λ w. refl) begins) ends,
  λ w stands none. noted (opens w).0 (begins w stands).0 none,
)
first_followed before after opened (Err error) begins ends noted = tt

-- ---- the whole day

pub played : (count : ℕ) (day first changed last : Day) → IsMorning count day → FollowsFirst day first → Steps (AreChanged count 40 1) first changed → Acts last_sessions changed last → PlaysDay count last
played count day first changed last is follows steps ends =
    let one = follows.0 (morning count) is.world in
    let two = steps (first_session count).0 one.0 in
    let three = ends.0 two.0.0 two.2.0 in
    record {
      changed = two.0;
      are = two.1;
      world = three.0;
      told = three.1 ∙ ap (λ (ts : List Telling). ts ++ (last_sessions two.0.0).1) (two.2.1 ∙ ap (λ (ts : List Telling). ts ++ two.0.1) (one.1 ∙ ap (λ (ts : List Telling). ts ++ (first_session count).1) is.told))
          ∙ append_assoc (first_session count).1 two.0.1 (last_sessions two.0.0).1;
      carried = ends.1 ∙ two.2.2 ∙ follows.1 (morning count) is.world is.carried;
    }

-- The summary of a day that was played.
pub summarized : {E : Type 0} (count : ℕ) (day : Day) (result : Result (List ℕ) E) → PlaysDay count day
    → IfOk result (λ (made : List ℕ). made ≡ summary count day.told day.carried day.world.mirror) → IfOk result (λ (made : List ℕ). MakeTells count made)
summarized count day (Ok made) plays is =
    let reported : List Telling = (first_session count).1 ++ (plays.changed.1 ++ (last_sessions plays.changed.0).1) in
    record {
      changed = plays.changed;
      are = plays.are;
      text = is ∙ ap (λ (ts : List Telling). summary count ts day.carried day.world.mirror) plays.told ∙ ap (λ (os : List ℕ). summary count reported os day.world.mirror) plays.carried
          ∙ ap (λ (m : Held). summary count reported (carried_up (first_session count).0) m) plays.world.mirror;
    }
summarized count day (Err error) plays is = tt
