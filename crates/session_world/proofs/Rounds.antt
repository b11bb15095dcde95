-- Lines of a world, and runs.
use Rattle.std.proofs.Common.{◌≡◌, ◌-◌, ◌+◌, ◌==◌, ◌&&◌, ℕ, suc, Bool, true, false, cond, List, [], ◌∷◌, ◌++◌, Option, Some, None, length, refl, sym, ap, ap₂, subst, ◌∙◌, append-nil, append_assoc, arith, inl, inr}
use Rattle.std.specs.Prelude.{drop, is_some, min, take, ◌⊎◌}
use Rattle.std.proofs.lemmas.Bool.{cases_lt, eqb-true}
use Rattle.std.proofs.lemmas.List.{take_all}
use Rattle.validator_core.specs.Held.{Held}
use Rattle.collector_core.specs.Chronicle.{Chronicle}
use Rattle.session_rules.specs.declared.end.SessionEnd.{SessionEnd}
use Rattle.session_rules.specs.Following.{Stand}
use Rattle.session_world.specs.declared.terms.Terms.{Terms}
use Rattle.session_world.specs.declared.joined.Joined.{Joined as JoinedView}
use Rattle.session_world.specs.declared.telling.Telling.{Telling}
use Rattle.wire_base.specs.Turns.{Turn, turns_of}
use Rattle.session_world.specs.Lines.{Told, all_down, all_up, and_on, carries_down, carries_up, downs, follows_by, in_session, is_none, is_quiet, round, rounds, serves_by, ups, used, MOST_ROUNDS}
use Rattle.session_world.specs.Standing.{Does, JoinedBy, StandsFor, WorldView, view_down, view_up}
use Rattle.session_world.specs.World.{World, Joined, carried_up, collector_end, down_waits, serving, unless_over, up_waits, validator_end, waits_down, waits_up}
use Rattle.session_world.proofs.Collecting.{down_is, up_is, world_of}
use Rattle.session_world.proofs.Following.{following_is, validator_is}

-- ---- without a session

pub no_session : (view : WorldView) (told : List Telling) (does : World → Joined → Told) → view.joined ≡ None → Does (λ w. in_session w (does w)) view told view told
no_session view told does none w stands = by_joined w.terms w.chronicle w.mirror w.joined (subst (λ (o : Option JoinedView). JoinedBy w.terms w.chronicle w.mirror o w.joined) none stands.joined) stands
  where
    by_joined : (terms : Terms) (chronicle : Chronicle) (mirror : Held) (joined : Option Joined) → JoinedBy terms chronicle mirror None joined → StandsFor view (record { terms = terms; chronicle = chronicle; mirror = mirror; joined = joined })
        → StandsFor view (in_session (record { terms = terms; chronicle = chronicle; mirror = mirror; joined = joined }) (does (record { terms = terms; chronicle = chronicle; mirror = mirror; joined = joined }))).0
        × (told ≡ told ++ (in_session (record { terms = terms; chronicle = chronicle; mirror = mirror; joined = joined }) (does (record { terms = terms; chronicle = chronicle; mirror = mirror; joined = joined }))).1)
    by_joined terms chronicle mirror None by stands = (stands, sym (append-nil told))
    by_joined terms chronicle mirror (Some j) by stands = absurd by

-- ---- what waits

pub up_waits_are : (view : WorldView) (w : World) → StandsFor view w → view_up view ≡ waits_up w
up_waits_are view w stands = by_joined w.terms w.chronicle w.mirror view.joined w.joined stands.joined
  where
    by_joined : (terms : Terms) (chronicle : Chronicle) (mirror : Held) (joined : Option JoinedView) (spec : Option Joined) → JoinedBy terms chronicle mirror joined spec
        → view_up (record { terms = view.terms; book = view.book; mirror = view.mirror; joined = joined }) ≡ waits_up (record { terms = terms; chronicle = chronicle; mirror = mirror; joined = spec })
    by_joined terms chronicle mirror None None by = refl
    by_joined terms chronicle mirror None (Some j) by = absurd by
    by_joined terms chronicle mirror (Some v) None by = absurd by
    by_joined terms chronicle mirror (Some v) (Some j) by = ap₂ (λ (o : Option SessionEnd) (os : List ℕ). unless_over o os) (sym (validator_is terms chronicle mirror v j by)) (sym (up_is terms chronicle mirror v j by))

pub down_waits_are : (view : WorldView) (w : World) → StandsFor view w → view_down view ≡ waits_down w
down_waits_are view w stands = by_joined w.terms w.chronicle w.mirror view.joined w.joined stands.joined
  where
    by_joined : (terms : Terms) (chronicle : Chronicle) (mirror : Held) (joined : Option JoinedView) (spec : Option Joined) → JoinedBy terms chronicle mirror joined spec
        → view_down (record { terms = view.terms; book = view.book; mirror = view.mirror; joined = joined }) ≡ waits_down (record { terms = terms; chronicle = chronicle; mirror = mirror; joined = spec })
    by_joined terms chronicle mirror None None by = refl
    by_joined terms chronicle mirror None (Some j) by = absurd by
    by_joined terms chronicle mirror (Some v) None by = absurd by
    by_joined terms chronicle mirror (Some v) (Some j) by = sym (down_is terms chronicle mirror v j by (ap (λ (f : List ℕ × Stand). f.0) (following_is terms chronicle mirror v j by)))

-- What waits is read from the session, where one is open, and it is what waits in the world.
pub waiting : (waits : WorldView → List ℕ) (waits_in : World → List ℕ) → ((view : WorldView) (w : World) → StandsFor view w → waits view ≡ waits_in w)
    → {joined : Option JoinedView} (inside view : WorldView) (octets : List ℕ) → octets ≡ waits (record inside { joined = joined }) → inside.joined ≡ joined → inside ≡ view
    → (octets ≡ waits view) × ((w : World) → StandsFor view w → octets ≡ waits_in w)
waiting waits waits_in are inside view octets is has same =
    let here : octets ≡ waits view = is ∙ ap (λ (j : Option JoinedView). waits (record inside { joined = j })) (sym has) ∙ ap waits same in
    (here, λ w stands. here ∙ are view w stands)

-- ---- one line and another, or the same line in other words

pub does_same : (one other : World → Told) (view next : WorldView) (told told_after : List Telling) → ((w : World) → StandsFor view w → one w ≡ other w) → Does one view told next told_after → Does other view told next told_after
does_same one other view next told told_after same does w stands =
    subst (λ (t : Told). StandsFor next t.0 × (told_after ≡ told ++ t.1)) (same w stands) (does w stands)

pub does_then : (one other : World → Told) (first second third : WorldView) (before between after : List Telling) → Does one first before second between → Does other second between third after → Does (λ w. and_on (one w) other) first before third after
does_then one other first second third before between after a b w stands =
    let mid = a w stands in
    let last = b (one w).0 mid.0 in
    (last.0, last.1 ∙ ap (λ (ts : List Telling). ts ++ (other (one w).0).1) mid.1 ∙ append_assoc before (one w).1 (other (one w).0).1)

-- ---- pieces

take_within : (most count : ℕ) (xs : List ℕ) → count ≡ min (length xs) most → take count xs ≡ take most xs
take_within most count xs is = elim (cases_lt (length xs) most) [
  | inl less ↦ take_all count xs (omega (arith, is, less)) ∙ sym (take_all most xs (omega (arith, less)))
  | inr more ↦ let same : count ≡ most = omega (arith, is, more) in ap (λ (n : ℕ). take n xs) same
]

pub ups_within : (view : WorldView) (most count : ℕ) (w : World) → count ≡ min (length (view_up view)) most → StandsFor view w → ups count w ≡ ups most w
ups_within view most count w is stands =
    by_joined w.terms w.chronicle w.mirror w.joined (subst (λ (os : List ℕ). count ≡ min (length os) most) (up_waits_are view w stands) is)
  where
    by_joined : (terms : Terms) (chronicle : Chronicle) (mirror : Held) (joined : Option Joined) → count ≡ min (length (waits_up (record { terms = terms; chronicle = chronicle; mirror = mirror; joined = joined }))) most
        → ups count (record { terms = terms; chronicle = chronicle; mirror = mirror; joined = joined }) ≡ ups most (record { terms = terms; chronicle = chronicle; mirror = mirror; joined = joined })
    by_joined terms chronicle mirror None is = refl
    by_joined terms chronicle mirror (Some j) is =
        ap (λ (os : List ℕ). carries_up (world_of terms chronicle mirror j) j os) (take_within most count (up_waits (world_of terms chronicle mirror j) j) is)

pub downs_within : (view : WorldView) (most count : ℕ) (w : World) → count ≡ min (length (view_down view)) most → StandsFor view w → downs count w ≡ downs most w
downs_within view most count w is stands =
    by_joined w.terms w.chronicle w.mirror w.joined (subst (λ (os : List ℕ). count ≡ min (length os) most) (down_waits_are view w stands) is)
  where
    by_joined : (terms : Terms) (chronicle : Chronicle) (mirror : Held) (joined : Option Joined) → count ≡ min (length (waits_down (record { terms = terms; chronicle = chronicle; mirror = mirror; joined = joined }))) most
        → downs count (record { terms = terms; chronicle = chronicle; mirror = mirror; joined = joined }) ≡ downs most (record { terms = terms; chronicle = chronicle; mirror = mirror; joined = joined })
    by_joined terms chronicle mirror None is = refl
    by_joined terms chronicle mirror (Some j) is =
        ap (λ (os : List ℕ). carries_down (world_of terms chronicle mirror j) j os) (take_within most count (down_waits (world_of terms chronicle mirror j) j) is)

pub ups_all : (view : WorldView) (count : ℕ) (w : World) → count ≡ length (view_up view) → StandsFor view w → ups count w ≡ all_up w
ups_all view count w is stands =
    by_joined w.terms w.chronicle w.mirror w.joined (is ∙ ap (λ (os : List ℕ). length os) (up_waits_are view w stands))
  where
    by_joined : (terms : Terms) (chronicle : Chronicle) (mirror : Held) (joined : Option Joined) → count ≡ length (waits_up (record { terms = terms; chronicle = chronicle; mirror = mirror; joined = joined }))
        → ups count (record { terms = terms; chronicle = chronicle; mirror = mirror; joined = joined }) ≡ all_up (record { terms = terms; chronicle = chronicle; mirror = mirror; joined = joined })
    by_joined terms chronicle mirror None is = refl
    by_joined terms chronicle mirror (Some j) is =
        ap (λ (os : List ℕ). carries_up (world_of terms chronicle mirror j) j os) (take_all count (up_waits (world_of terms chronicle mirror j) j) (omega (arith, is)))

pub downs_all : (view : WorldView) (count : ℕ) (w : World) → count ≡ length (view_down view) → StandsFor view w → downs count w ≡ all_down w
downs_all view count w is stands =
    by_joined w.terms w.chronicle w.mirror w.joined (is ∙ ap (λ (os : List ℕ). length os) (down_waits_are view w stands))
  where
    by_joined : (terms : Terms) (chronicle : Chronicle) (mirror : Held) (joined : Option Joined) → count ≡ length (waits_down (record { terms = terms; chronicle = chronicle; mirror = mirror; joined = joined }))
        → downs count (record { terms = terms; chronicle = chronicle; mirror = mirror; joined = joined }) ≡ all_down (record { terms = terms; chronicle = chronicle; mirror = mirror; joined = joined })
    by_joined terms chronicle mirror None is = refl
    by_joined terms chronicle mirror (Some j) is =
        ap (λ (os : List ℕ). carries_down (world_of terms chronicle mirror j) j os) (take_all count (down_waits (world_of terms chronicle mirror j) j) (omega (arith, is)))

never_none : (octet : ℕ) (octets : List ℕ) → length (octet ∷ octets) ≡ 0 → ⊥
never_none octet octets none = omega (arith, none)

some_is : (octet : ℕ) (octets : List ℕ) (test : Bool) → (length (octet ∷ octets) == 0) ≡ test → (length (octet ∷ octets) == 0) ≡ false
some_is octet octets false is = is
some_is octet octets true is = absurd (never_none octet octets (eqb-true (length (octet ∷ octets)) 0 is))

-- Nothing waits.
pub none_is : (octets : List ℕ) → (length octets == 0) ≡ is_none octets
none_is [] = refl
none_is (octet ∷ octets) = some_is octet octets (length (octet ∷ octets) == 0) refl

-- ---- whether nothing waits

pub quiet_then : (up down : List ℕ) → (length up == 0) ≡ true → (length down == 0) ≡ (is_none up && is_none down)
quiet_then up down empty = none_is down ∙ ap (λ (b : Bool). b && is_none down) (sym (sym (none_is up) ∙ empty))

pub quiet_else : (up down : List ℕ) → (length up == 0) ≡ false → (length up == 0) ≡ (is_none up && is_none down)
quiet_else up down some = some ∙ ap (λ (b : Bool). b && is_none down) (sym (sym (none_is up) ∙ some))

pub most_rounds : MOST_ROUNDS ≡ 8589934590
unfolding MOST_ROUNDS
most_rounds = refl

-- ---- a run

-- What was reported first.
abbrev pub ahead : List Telling → Told → Told
ahead front told = (told.0, front ++ told.1)

-- After some rounds: what is still to come makes the run whole. Of the world before and the one
-- that was reached this is kept.
pub record Reached (entry : WorldView) (told : List Telling) (view : WorldView) (told_now : List Telling) (left : ℕ) (keeps : World → World → Type 0) (w : World) : Type 0 where
  pub world : World
  pub stands : StandsFor view world
  pub front : List Telling
  pub told_is : told_now ≡ told ++ front
  pub run : rounds MOST_ROUNDS w ≡ ahead front (rounds left world)
  pub kept : keeps w world

abbrev pub RunsKeeping : (World → World → Type 0) → WorldView → List Telling → WorldView → List Telling → ℕ → Type 0
RunsKeeping keeps entry told view told_now left = (w : World) → StandsFor entry w → Reached entry told view told_now left keeps w

abbrev pub Anything : World → World → Type 0
Anything before after = Unit {0}

abbrev pub Runs : WorldView → List Telling → WorldView → List Telling → ℕ → Type 0
Runs entry told view told_now left = RunsKeeping Anything entry told view told_now left

pub runs_none : (keeps : World → World → Type 0) (entry : WorldView) (told : List Telling) (left : ℕ) → left ≡ MOST_ROUNDS → ((w : World) → keeps w w) → RunsKeeping keeps entry told entry told left
runs_none keeps entry told left all kept w stands = record {
  world = w;
  stands = stands;
  front = [];
  told_is = sym (append-nil told);
  run = ap (λ (n : ℕ). rounds n w) (sym all);
  kept = kept w;
}

rounds_quiet : (quiet : Bool) (w : World) (more : ℕ) → quiet ≡ true → cond quiet (w, []) (and_on (round w) (rounds more)) ≡ (w, [])
rounds_quiet true w more is = refl
rounds_quiet false w more is = absurd cc

rounds_on : (quiet : Bool) (w : World) (more : ℕ) → quiet ≡ false → cond quiet (w, []) (and_on (round w) (rounds more)) ≡ and_on (round w) (rounds more)
rounds_on false w more is = refl
rounds_on true w more is = absurd cc

pub runs_on : (keeps next_keeps : World → World → Type 0) (entry view next : WorldView) (told told_now told_next : List Telling) (left more : ℕ) (quiet : Bool) → left ≡ suc more → RunsKeeping keeps entry told view told_now left
    → ((w : World) → StandsFor view w → quiet ≡ is_quiet w) → quiet ≡ false → Does round view told_now next told_next
    → ((w v : World) → StandsFor view v → keeps w v → next_keeps w (round v).0) → RunsKeeping next_keeps entry told next told_next more
runs_on keeps next_keeps entry view next told told_now told_next left more quiet one reached said waits does kept w stands =
    let r = reached w stands in
    let step = does r.world r.stands in
    record {
      world = (round r.world).0;
      stands = step.0;
      front = r.front ++ (round r.world).1;
      told_is = step.1 ∙ ap (λ (ts : List Telling). ts ++ (round r.world).1) r.told_is ∙ append_assoc told r.front (round r.world).1;
      run =
          r.run ∙ ap (λ (n : ℕ). ahead r.front (rounds n r.world)) one
          ∙ ap (λ (t : Told). ahead r.front t) (rounds_on (is_quiet r.world) r.world more (sym (said r.world r.stands) ∙ waits))
          ∙ ap (λ (ts : List Telling). ((rounds more (round r.world).0).0, ts)) (sym (append_assoc r.front (round r.world).1 (rounds more (round r.world).0).1));
      kept = kept w r.world r.stands r.kept;
    }

-- Where a run ends, what was reached is what it makes.
ends_so : (keeps : World → World → Type 0) (entry view : WorldView) (told told_now : List Telling) (left : ℕ) (w : World) (r : Reached entry told view told_now left keeps w) → rounds left r.world ≡ (r.world, [])
    → rounds MOST_ROUNDS w ≡ (r.world, r.front)
ends_so keeps entry view told told_now left w r none = r.run ∙ ap (λ (t : Told). ahead r.front t) none ∙ ap (λ (ts : List Telling). (r.world, ts)) (append-nil r.front)

-- It ends where nothing waits, or after the last round.
abbrev pub Ends : (World → World → Type 0) → WorldView → List Telling → WorldView → List Telling → Type 0
Ends keeps entry told view told_now = (w : World) → StandsFor entry w → (StandsFor view (rounds MOST_ROUNDS w).0 × (told_now ≡ told ++ (rounds MOST_ROUNDS w).1)) × keeps w (rounds MOST_ROUNDS w).0

pub run_ends : (keeps : World → World → Type 0) (entry view : WorldView) (told told_now : List Telling) (left more : ℕ) (quiet : Bool) → left ≡ suc more → RunsKeeping keeps entry told view told_now left
    → ((w : World) → StandsFor view w → quiet ≡ is_quiet w) → quiet ≡ true → Ends keeps entry told view told_now
run_ends keeps entry view told told_now left more quiet one reached said none w stands =
    let r = reached w stands in
    let still : rounds left r.world ≡ (r.world, []) = ap (λ (n : ℕ). rounds n r.world) one ∙ rounds_quiet (is_quiet r.world) r.world more (sym (said r.world r.stands) ∙ none) in
    subst (λ (t : Told). (StandsFor view t.0 × (told_now ≡ told ++ t.1)) × keeps w t.0) (sym (ends_so keeps entry view told told_now left w r still)) ((r.stands, r.told_is), r.kept)

pub run_is_over : (keeps : World → World → Type 0) (entry view : WorldView) (told told_now : List Telling) (left : ℕ) → left ≡ 0 → RunsKeeping keeps entry told view told_now left → Ends keeps entry told view told_now
run_is_over keeps entry view told told_now left zero_left reached w stands =
    let r = reached w stands in
    let none : rounds left r.world ≡ (r.world, []) = ap (λ (n : ℕ). rounds n r.world) zero_left in
    subst (λ (t : Told). (StandsFor view t.0 × (told_now ≡ told ++ t.1)) × keeps w t.0) (sym (ends_so keeps entry view told told_now left w r none)) ((r.stands, r.told_is), r.kept)

pub ends_does : (keeps : World → World → Type 0) (entry view : WorldView) (told told_now : List Telling) → Ends keeps entry told view told_now → Does (rounds MOST_ROUNDS) entry told view told_now
ends_does keeps entry view told told_now ends w stands = (ends w stands).0

-- ---- what was carried to the validator

follows_carried : (by : Option SessionEnd) (terms : Terms) (chronicle : Chronicle) (mirror : Held) (j : Joined) (turns : List Turn) (piece : List ℕ) → ((by ≡ None) ⊎ (piece ≡ [])) → carried_up (follows_by by (world_of terms chronicle mirror j) j turns piece).0 ≡ j.carried_up ++ piece
follows_carried None terms chronicle mirror j turns piece is = refl
follows_carried (Some end) terms chronicle mirror j turns piece (inl none) = absurd cc
follows_carried (Some end) terms chronicle mirror j turns piece (inr none) = sym (ap (λ (os : List ℕ). j.carried_up ++ os) none ∙ append-nil j.carried_up)

serves_carried : (by : Option SessionEnd) (terms : Terms) (chronicle : Chronicle) (mirror : Held) (j : Joined) (turns : List Turn) (piece : List ℕ) → carried_up (serves_by by (world_of terms chronicle mirror j) j turns piece).0 ≡ j.carried_up
serves_carried None terms chronicle mirror j turns piece = refl
serves_carried (Some end) terms chronicle mirror j turns piece = refl

unless_is : (by : Option SessionEnd) (octets : List ℕ) → (by ≡ None) ⊎ (unless_over by octets ≡ [])
unless_is None octets = inl refl
unless_is (Some end) octets = inr refl

up_carried : (w : World) → carried_up (all_up w).0 ≡ carried_up w ++ waits_up w
up_carried w = by_joined w.terms w.chronicle w.mirror w.joined
  where
    by_joined : (terms : Terms) (chronicle : Chronicle) (mirror : Held) (joined : Option Joined) → carried_up (all_up (record { terms = terms; chronicle = chronicle; mirror = mirror; joined = joined })).0
        ≡ carried_up (record { terms = terms; chronicle = chronicle; mirror = mirror; joined = joined }) ++ waits_up (record { terms = terms; chronicle = chronicle; mirror = mirror; joined = joined })
    by_joined terms chronicle mirror None = refl
    by_joined terms chronicle mirror (Some j) =
        let w : World = world_of terms chronicle mirror j in
        follows_carried (validator_end j) terms chronicle mirror j (turns_of (used j.up (up_waits w j))) (up_waits w j) (unless_is (validator_end j) (drop (length j.carried_up) (serving w j).0))

down_carried : (w : World) → carried_up (all_down w).0 ≡ carried_up w
down_carried w = by_joined w.terms w.chronicle w.mirror w.joined
  where
    by_joined : (terms : Terms) (chronicle : Chronicle) (mirror : Held) (joined : Option Joined) → carried_up (all_down (record { terms = terms; chronicle = chronicle; mirror = mirror; joined = joined })).0
        ≡ carried_up (record { terms = terms; chronicle = chronicle; mirror = mirror; joined = joined })
    by_joined terms chronicle mirror None = refl
    by_joined terms chronicle mirror (Some j) =
        let w : World = world_of terms chronicle mirror j in
        serves_carried (collector_end w j) terms chronicle mirror j (turns_of (used j.down (down_waits w j))) (down_waits w j)

pub round_carried : (w : World) → carried_up (round w).0 ≡ carried_up w ++ waits_up w
round_carried w = down_carried (all_up w).0 ∙ up_carried w

-- ---- whether a session is open

pub open_is : (view : WorldView) (w : World) → StandsFor view w → is_some view.joined ≡ is_some w.joined
open_is view w stands = by_joined w.terms w.chronicle w.mirror view.joined w.joined stands.joined
  where
    by_joined : (terms : Terms) (chronicle : Chronicle) (mirror : Held) (joined : Option JoinedView) (spec : Option Joined) → JoinedBy terms chronicle mirror joined spec → is_some joined ≡ is_some spec
    by_joined terms chronicle mirror None None by = refl
    by_joined terms chronicle mirror None (Some j) by = absurd by
    by_joined terms chronicle mirror (Some joined) None by = absurd by
    by_joined terms chronicle mirror (Some joined) (Some j) by = refl
