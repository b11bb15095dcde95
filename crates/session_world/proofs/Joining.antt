-- The calls of a session, as lines.
use Rattle.std.proofs.Common.{◌≡◌, ℕ, Bool, true, false, cond, List, [], ◌∷◌, ◌++◌, Option, Some, None, Result, Ok, Err, length, nat_lt, refl, sym, ap, ap₂, subst, subst₂, ◌∙◌, append-nil}
use Rattle.std.specs.Prelude.{take, drop, map, is_some, OnOk, ◌-◌, ◌^◌}
use Rattle.wire_base.specs.Turns.{Turn, Idle, turns_of}
use Rattle.swima_model.specs.declared.report.Report.{Report}
use Rattle.swima_model.specs.Size.{report_count}
use Rattle.validator_core.specs.Held.{Held}
use Rattle.validator_core.specs.Judge.{judge}
use Rattle.collector_core.specs.Chronicle.{Chronicle}
use Rattle.collector_core.specs.Standing.{BookView}
use Rattle.collector_session.specs.Cores.{Begins, Carries, Stood as ServeStood, over, turn_of}
use Rattle.session_hear.specs.Hearing.{octets_in}
use Rattle.session_rules.specs.declared.config.FollowConfig.{FollowConfig}
use Rattle.session_rules.specs.declared.config.ServeConfig.{ServeConfig}
use Rattle.session_rules.specs.declared.end.SessionEnd.{SessionEnd}
use Rattle.session_rules.specs.declared.end.SessionEnd.TheVariants as end
use Rattle.session_rules.specs.declared.end.Turn.{Turn as Turn2}
use Rattle.session_rules.specs.declared.end.Turn.TheVariants as turn
use Rattle.swima_model.specs.Reports.{point_in}
use Rattle.session_rules.specs.Following.{Stand}
use Rattle.session_rules.specs.Transcripts.{nobody}
use Rattle.validator_session.specs.Core.{Stood as FollowStood, received_of, turn_of as follow_turn_of}
use Rattle.validator_session.specs.Standing.{stand_of}
use Rattle.session_world.specs.declared.terms.Terms.{Terms}
use Rattle.session_world.specs.declared.joined.Joined.{Joined as JoinedView}
use Rattle.session_world.specs.declared.telling.Telling.{Telling}
use Rattle.session_world.specs.declared.telling.Telling.TheVariants.{CollectorEnds, Took, ValidatorEnds}
use Rattle.session_world.specs.Lines.{Told, again, carries_down, carries_up, collector_rests, downs, ends, follows, in_session, serves, takes_again, ups, used, validator_rests}
use Rattle.session_world.specs.Standing.{Does, JoinedStands, StandsFor, joined_view}
use Rattle.session_world.specs.Tellings.{TookAgain, TookBy, ended_by, taken_telling}
use Rattle.session_world.specs.World.{World, Joined, MOST, down_waits, follow_config, following, opened, serve_config, unless_over, up_waits}
use Rattle.session_world.proofs.Again.{IsJudged, judged_same, session_judged}
use Rattle.session_world.proofs.Collecting as collecting
use Rattle.session_world.proofs.Collecting.{by_stood, down_is, serves_live, serves_over, stood_by, up_is, world_of}
use Rattle.session_world.proofs.Following as following_turns
use Rattle.session_world.proofs.Following.{following_is, follows_live, follows_over, validator_is}

-- What stands for a world and has a session stands for a world with one.
pub with_session : (m : Terms) (book new : BookView) (mir mir2 : Held) (view next : JoinedView) (told told_after : List Telling) (does : World → Joined → Told)
    → ((terms : Terms) (chronicle : Chronicle) (mirror : Held) (j : Joined) → StandsFor (joined_view m book mir view) (world_of terms chronicle mirror j)
    → StandsFor (joined_view m new mir2 next) (does (world_of terms chronicle mirror j) j).0 × (told_after ≡ told ++ (does (world_of terms chronicle mirror j) j).1))
    → Does (λ w. in_session w (does w)) (joined_view m book mir view) told (joined_view m new mir2 next) told_after
with_session m book new mir mir2 view next told told_after does step w stands = by_joined w.terms w.chronicle w.mirror w.joined stands
  where
    by_joined : (terms : Terms) (chronicle : Chronicle) (mirror : Held) (joined : Option Joined) → StandsFor (joined_view m book mir view) (record { terms = terms; chronicle = chronicle; mirror = mirror; joined = joined })
        → StandsFor (joined_view m new mir2 next) (in_session (record { terms = terms; chronicle = chronicle; mirror = mirror; joined = joined }) (does (record { terms = terms; chronicle = chronicle; mirror = mirror; joined = joined }))).0
        × (told_after ≡ told ++ (in_session (record { terms = terms; chronicle = chronicle; mirror = mirror; joined = joined }) (does (record { terms = terms; chronicle = chronicle; mirror = mirror; joined = joined }))).1)
    by_joined terms chronicle mirror None stands = absurd stands.joined
    by_joined terms chronicle mirror (Some j) stands = step terms chronicle mirror j stands

-- ---- the collector

down_piece : JoinedView → ℕ → List ℕ
down_piece view count = take count view.follow.end.out

pub down_over : (m : Terms) (book : BookView) (mir : Held) (view : JoinedView) (by : SessionEnd) (count : ℕ) (told : List Telling) → view.collector ≡ Some by
    → Does (downs count) (joined_view m book mir view) told (joined_view m book mir view) told
down_over m book mir view by count told over =
    with_session m book book mir mir view view told told (λ w j. carries_down w j (take count (down_waits w j)))
    (λ terms chronicle mirror j stands.
    serves_over m terms chronicle mir mirror view j book by (turns_of (used j.down (take count (down_waits (world_of terms chronicle mirror j) j)))) (take count (down_waits (world_of terms chronicle mirror j) j)) told stands over)

pub down_live : (m : Terms) (old new : BookView) (mir : Held) (view next : JoinedView) (count : ℕ) (told told_after : List Telling) → view.collector ≡ None
    → collecting.Heard view next old new (turns_of (take (view.serve.end.config.octets - view.serve.end.standing.record.received) (take count view.follow.end.out)))
    → ((c : FollowConfig) (mirror : Held) (turns : List Turn) (carried : List ℕ) (now : Held) → FollowStood c mirror turns carried view.follow now → FollowStood c mirror turns (carried ++ take count view.follow.end.out) next.follow now)
    → told_after ≡ told ++ ends CollectorEnds next.collector
    → Does (downs count) (joined_view m old mir view) told (joined_view m new mir next) told_after
down_live m old new mir view next count told told_after live heard carried says =
    with_session m old new mir mir view next told told_after (λ w j. carries_down w j (take count (down_waits w j))) at
  where
    at : (terms : Terms) (chronicle : Chronicle) (mirror : Held) (j : Joined) → StandsFor (joined_view m old mir view) (world_of terms chronicle mirror j)
        → StandsFor (joined_view m new mir next) (carries_down (world_of terms chronicle mirror j) j (take count (down_waits (world_of terms chronicle mirror j) j))).0
        × (told_after ≡ told ++ (carries_down (world_of terms chronicle mirror j) j (take count (down_waits (world_of terms chronicle mirror j) j))).1)
    at terms chronicle mirror j stands =
        let w : World = world_of terms chronicle mirror j in
        let s = stands.joined in
        let wrote = ap (λ (f : List ℕ × Stand). f.0) (following_is terms chronicle mirror view j s) in
        let piece : take count (down_waits w j) ≡ take count view.follow.end.out =
        ap (λ (os : List ℕ). take count os) (down_is terms chronicle mirror view j s wrote ∙ ap (λ (o : Option SessionEnd). unless_over o view.follow.end.out) live) in
        let left : MOST - octets_in j.down ≡ view.serve.end.config.octets - view.serve.end.standing.record.received =
        ap₂ (λ (a b : ℕ). a - b) (sym (ap (λ (c : ServeConfig). c.octets) s.serve_config)) (sym s.serve.received) in
        subst₂ (λ (more : List Turn) (os : List ℕ). StandsFor (joined_view m new mir next) (serves w j more os).0 × (told_after ≡ told ++ (serves w j more os).1))
        (sym (ap₂ (λ (n : ℕ) (os : List ℕ). turns_of (take n os)) left piece)) (sym piece)
        (serves_live m terms chronicle mir mirror view next j old new (turns_of (take (view.serve.end.config.octets - view.serve.end.standing.record.received) (take count view.follow.end.out))) (take count view.follow.end.out) told told_after stands live heard
        (carried view.follow.end.config j.opened j.up j.carried_down mirror (subst (λ (c : FollowConfig). FollowStood c j.opened j.up j.carried_down view.follow mirror) (sym s.follow_config) s.follow)) says)

pub rest_over : (m : Terms) (book : BookView) (mir : Held) (view : JoinedView) (by : SessionEnd) (told : List Telling) → view.collector ≡ Some by
    → Does collector_rests (joined_view m book mir view) told (joined_view m book mir view) told
rest_over m book mir view by told over =
    with_session m book book mir mir view view told told (λ w j. serves w j (Idle ∷ []) [])
    (λ terms chronicle mirror j stands. serves_over m terms chronicle mir mirror view j book by (Idle ∷ []) [] told stands over)

pub rest_live : (m : Terms) (old new : BookView) (mir : Held) (view next : JoinedView) (told told_after : List Telling) → view.collector ≡ None
    → collecting.Heard view next old new (Idle ∷ []) → next.follow ≡ view.follow → told_after ≡ told ++ ends CollectorEnds next.collector
    → Does collector_rests (joined_view m old mir view) told (joined_view m new mir next) told_after
rest_live m old new mir view next told told_after live heard same says =
    with_session m old new mir mir view next told told_after (λ w j. serves w j (Idle ∷ []) [])
    (λ terms chronicle mirror j stands.
    let s = stands.joined in
    serves_live m terms chronicle mir mirror view next j old new (Idle ∷ []) [] told told_after stands live heard
    (subst₂ (λ (f : _) (os : List ℕ). FollowStood view.follow.end.config j.opened j.up os f mirror) (sym same) (sym (append-nil j.carried_down))
    (subst (λ (c : FollowConfig). FollowStood c j.opened j.up j.carried_down view.follow mirror) (sym s.follow_config) s.follow)) says)

-- ---- the validator

pub up_over : (m : Terms) (book : BookView) (mir : Held) (view : JoinedView) (by : SessionEnd) (count : ℕ) (told : List Telling) → view.validator ≡ Some by
    → Does (ups count) (joined_view m book mir view) told (joined_view m book mir view) told
up_over m book mir view by count told over =
    with_session m book book mir mir view view told told (λ w j. carries_up w j (take count (up_waits w j)))
    (λ terms chronicle mirror j stands.
    follows_over m terms chronicle mir mirror view j book by (turns_of (used j.up (take count (up_waits (world_of terms chronicle mirror j) j)))) (take count (up_waits (world_of terms chronicle mirror j) j)) told stands over)

pub up_live : (m : Terms) (book : BookView) (mir mir2 : Held) (view next : JoinedView) (count : ℕ) (told told_after : List Telling) → view.validator ≡ None
    → following_turns.Heard mir mir2 view next (turns_of (take (view.follow.end.config.octets - received_of view.follow) (take count view.serve.end.out)))
    → Carries view.serve count next.serve → over next.serve ≡ over view.serve
    → told_after ≡ (told ++ map taken_telling (drop (length view.follow.end.standing.notes.reports) next.follow.end.standing.notes.reports)) ++ ends ValidatorEnds next.validator
    → Does (ups count) (joined_view m book mir view) told (joined_view m book mir2 next) told_after
up_live m book mir mir2 view next count told told_after live heard carried same says =
    with_session m book book mir mir2 view next told told_after (λ w j. carries_up w j (take count (up_waits w j))) at
  where
    at : (terms : Terms) (chronicle : Chronicle) (mirror : Held) (j : Joined) → StandsFor (joined_view m book mir view) (world_of terms chronicle mirror j)
        → StandsFor (joined_view m book mir2 next) (carries_up (world_of terms chronicle mirror j) j (take count (up_waits (world_of terms chronicle mirror j) j))).0
        × (told_after ≡ told ++ (carries_up (world_of terms chronicle mirror j) j (take count (up_waits (world_of terms chronicle mirror j) j))).1)
    at terms chronicle mirror j stands =
        let w : World = world_of terms chronicle mirror j in
        let s = stands.joined in
        let well : over view.serve ≡ Some end.Memory → ⊥ = λ is. s.collector_well (s.collector ∙ is) in
        let waits : up_waits w j ≡ view.serve.end.out =
        ap₂ (λ (o : Option SessionEnd) (os : List ℕ). unless_over o os) (validator_is terms chronicle mirror view j s ∙ live) (up_is terms chronicle mirror view j s) in
        let piece : take count (up_waits w j) ≡ take count view.serve.end.out = ap (λ (os : List ℕ). take count os) waits in
        let left : MOST - octets_in j.up ≡ view.follow.end.config.octets - received_of view.follow =
        ap₂ (λ (a b : ℕ). a - b) (sym (ap (λ (c : FollowConfig). c.octets) s.follow_config)) (sym s.follow.received) in
        let serve = stood_by (over next.serve) chronicle j.places j.down (j.carried_up ++ take count view.serve.end.out) next.serve (λ is. well (sym same ∙ is))
        (carried chronicle j.places j.down j.carried_up (by_stood (over view.serve) chronicle j.places j.down j.carried_up view.serve well s.serve)) in
        subst₂ (λ (more : List Turn) (os : List ℕ). StandsFor (joined_view m book mir2 next) (follows w j more os).0 × (told_after ≡ told ++ (follows w j more os).1))
        (sym (ap₂ (λ (n : ℕ) (os : List ℕ). turns_of (take n os)) left piece)) (sym piece)
        (follows_live m terms chronicle mir mir2 mirror view next j book (turns_of (take (view.follow.end.config.octets - received_of view.follow) (take count view.serve.end.out))) (take count view.serve.end.out) told told_after stands live heard serve says)

pub idle_over : (m : Terms) (book : BookView) (mir : Held) (view : JoinedView) (by : SessionEnd) (told : List Telling) → view.validator ≡ Some by
    → Does validator_rests (joined_view m book mir view) told (joined_view m book mir view) told
idle_over m book mir view by told over =
    with_session m book book mir mir view view told told (λ w j. follows w j (Idle ∷ []) [])
    (λ terms chronicle mirror j stands. follows_over m terms chronicle mir mirror view j book by (Idle ∷ []) [] told stands over)

pub idle_live : (m : Terms) (book : BookView) (mir mir2 : Held) (view next : JoinedView) (told told_after : List Telling) → view.validator ≡ None
    → following_turns.Heard mir mir2 view next (Idle ∷ []) → next.serve ≡ view.serve
    → told_after ≡ (told ++ map taken_telling (drop (length view.follow.end.standing.notes.reports) next.follow.end.standing.notes.reports)) ++ ends ValidatorEnds next.validator
    → Does validator_rests (joined_view m book mir view) told (joined_view m book mir2 next) told_after
idle_live m book mir mir2 view next told told_after live heard same says =
    with_session m book book mir mir2 view next told told_after (λ w j. follows w j (Idle ∷ []) [])
    (λ terms chronicle mirror j stands.
    let s = stands.joined in
    follows_live m terms chronicle mir mir2 mirror view next j book (Idle ∷ []) [] told told_after stands live heard
    (subst₂ (λ (c : _) (os : List ℕ). ServeStood chronicle j.places j.down os c) (sym same) (sym (append-nil j.carried_up)) s.serve) says)

-- ---- a report once more

again_by : (m terms : Terms) (chronicle : Chronicle) (mir mir2 mirror : Held) (view : JoinedView) (j : Joined) (book : BookView) (report : Report) (test : Bool) (told told_after : List Telling)
    → StandsFor (joined_view m book mir view) (world_of terms chronicle mirror j) → (judge mirror report).1 ≡ mirror
    → TookBy test mir report told mir2 told_after
    → StandsFor (joined_view m book mir2 view) (cond {A = Told} test (record { terms = terms; chronicle = chronicle; mirror = (judge mirror report).1; joined = Some j }, Took (point_in report) (report_count report) (judge mirror report).0 ∷ []) (world_of terms chronicle mirror j, [])).0
    × (told_after ≡ told ++ (cond {A = Told} test (record { terms = terms; chronicle = chronicle; mirror = (judge mirror report).1; joined = Some j }, Took (point_in report) (report_count report) (judge mirror report).0 ∷ []) (world_of terms chronicle mirror j, [])).1)
again_by m terms chronicle mir mir2 mirror view j book report true told told_after stands same took = (
  record {
    terms = stands.terms;
    book = stands.book;
    mirror = took.0 ∙ ap (λ (h : Held). (judge h report).1) stands.mirror;
    joined = subst (λ (h : Held). JoinedStands terms chronicle h view j) (sym same) stands.joined;
  },
  took.1 ∙ ap (λ (h : Held). told ++ Took (point_in report) (report_count report) (judge h report).0 ∷ []) stands.mirror,
)
again_by m terms chronicle mir mir2 mirror view j book report false told told_after stands same took = (
  record { terms = stands.terms; book = stands.book; mirror = took.0 ∙ stands.mirror; joined = stands.joined },
  took.1 ∙ sym (append-nil told),
)

last_is : (terms : Terms) (chronicle : Chronicle) (mirror : Held) (view : JoinedView) (j : Joined) → JoinedStands terms chronicle mirror view j → (following j).1.notes.last ≡ view.follow.end.standing.notes.last
last_is terms chronicle mirror view j stands = ap (λ (f : List ℕ × Stand). f.1.notes.last) (following_is terms chronicle mirror view j stands)

pub again_none : (m : Terms) (book : BookView) (mir : Held) (view : JoinedView) (told : List Telling) → view.follow.end.standing.notes.last ≡ None
    → Does again (joined_view m book mir view) told (joined_view m book mir view) told
again_none m book mir view told none =
    with_session m book book mir mir view view told told (λ w j. takes_again w (following j).1.notes.last)
    (λ terms chronicle mirror j stands.
    subst (λ (o : Option Report). StandsFor (joined_view m book mir view) (takes_again (world_of terms chronicle mirror j) o).0 × (told ≡ told ++ (takes_again (world_of terms chronicle mirror j) o).1))
    (sym (last_is terms chronicle mirror view j stands.joined ∙ none)) (stands, sym (append-nil told)))

pub again_some : (m : Terms) (book : BookView) (mir mir2 : Held) (view : JoinedView) (report : Report) (told told_after : List Telling) → view.follow.end.standing.notes.last ≡ Some report
    → TookAgain mir report told mir2 told_after → Does again (joined_view m book mir view) told (joined_view m book mir2 view) told_after
again_some m book mir mir2 view report told told_after some took =
    with_session m book book mir mir2 view view told told_after (λ w j. takes_again w (following j).1.notes.last)
    (λ terms chronicle mirror j stands.
    let s = stands.joined in
    let judged : IsJudged view.follow.end.standing.notes.last mirror =
    session_judged j.opened (follow_config j.subscribe) j.up (j.carried_down ++ view.follow.end.out) (stand_of view.follow.end.standing mirror) (s.follow.gives nobody) in
    subst (λ (o : Option Report). StandsFor (joined_view m book mir2 view) (takes_again (world_of terms chronicle mirror j) o).0 × (told_after ≡ told ++ (takes_again (world_of terms chronicle mirror j) o).1))
    (sym (last_is terms chronicle mirror view j s ∙ some))
    (again_by m terms chronicle mir mir2 mirror view j book report (nat_lt (report_count report) (2 ^ 32)) told told_after stands
    (judged_same report mirror (subst (λ (o : Option Report). IsJudged o mirror) some judged)) took))

-- ---- the start

pub new_stands : (terms : Terms) (view : JoinedView) → Begins view.serve → view.serve.end.config ≡ serve_config terms → over view.serve ≡ None → view.collector ≡ None
    → ((mirror : Held) → FollowStood (follow_config terms.subscribe) mirror [] [] view.follow mirror) → view.follow.end.config ≡ follow_config terms.subscribe → view.validator ≡ None
    → (chronicle : Chronicle) (mirror : Held) → JoinedStands terms chronicle mirror view (opened terms.subscribe mirror)
new_stands terms view begins config live collector follow follows validator chronicle mirror = record {
  serve = begins chronicle;
  serve_config = config;
  collector = collector ∙ sym live;
  collector_well = λ is. let both : None ≡ Some end.Memory = sym collector ∙ is in absurd cc;
  follow = follow mirror;
  follow_config = follows;
  validator = validator ∙ sym (ap (λ (s : Stand). s.over) ((follow mirror).gives nobody).2);
}

-- ---- calls that may run out of memory

pub on_ok : {T E : Type 0} {A B : Type 0} (result : Result T E) → (A → B) → OnOk result A → OnOk result B
on_ok (Ok value) so ok = so ok
on_ok (Err error) so ok = tt

pub some_of : {A : Type 0} (option : Option A) → is_some option ≡ true → (value : A) × (option ≡ Some value)
some_of (Some value) is = (value, refl)
some_of None is = absurd cc

pub none_of : {A : Type 0} (option : Option A) → is_some option ≡ false → option ≡ None
none_of None is = refl
none_of (Some value) is = absurd cc

-- How an end is over after its turn.
abbrev over_in : Turn2 → Option SessionEnd
over_in turn.Goes = None
over_in (turn.Over by) = Some by

abbrev some_or : Option SessionEnd → SessionEnd
some_or None = end.Closed
some_or (Some by) = by

ended_over : (answer : Turn2) (by last : Option SessionEnd) → over_in answer ≡ last → ended_by answer by → (by ≡ last) × (by ≡ Some end.Memory → ⊥)
ended_over turn.Goes by last is ended = (ended ∙ is, λ both. let none : None ≡ Some end.Memory = sym ended ∙ both in absurd cc)
ended_over (turn.Over one) by last is ended = (ended.0 ∙ is, λ both. ended.1 (ap some_or (sym ended.0 ∙ both)))

over_in_turn : (over : Option SessionEnd) → over_in (turn_of over) ≡ over
over_in_turn None = refl
over_in_turn (Some by) = refl

over_in_follow : (over : Option SessionEnd) → over_in (follow_turn_of over) ≡ over
over_in_follow None = refl
over_in_follow (Some by) = refl

pub ended_is : (answer : Turn2) (by over : Option SessionEnd) → answer ≡ turn_of over → ended_by answer by → (by ≡ over) × (by ≡ Some end.Memory → ⊥)
ended_is answer by over is ended = ended_over answer by over (ap over_in is ∙ over_in_turn over) ended

pub follow_ended_is : (answer : Turn2) (by over : Option SessionEnd) → answer ≡ follow_turn_of over → ended_by answer by → (by ≡ over) × (by ≡ Some end.Memory → ⊥)
follow_ended_is answer by over is ended = ended_over answer by over (ap over_in is ∙ over_in_follow over) ended
