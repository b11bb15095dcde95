-- The collector hears turns: what it stands for then.
use Rattle.std.proofs.Common.{◌≡◌, ℕ, List, [], ◌∷◌, ◌++◌, Option, Some, None, length, refl, sym, ap, subst, ◌∙◌, append-nil}
use Rattle.std.specs.Prelude.{drop, ◌-◌}
use Rattle.wire_base.specs.Turns.{Turn}
use Rattle.validator_core.specs.Held.{Held}
use Rattle.collector_core.specs.declared.chronicle.Mark.{Mark}
use Rattle.collector_core.specs.BookDesk.{BookWent, extended_none}
use Rattle.collector_core.specs.Chronicle.{Chronicle, extended}
use Rattle.collector_core.specs.Desks.{Rise, behind, entries}
use Rattle.collector_core.specs.Standing.{BookView, Stands}
use Rattle.collector_session.specs.Cores.{Core, StandsBy, Stood, Turned, over}
use Rattle.collector_session.specs.Standing.{stand_of}
use Rattle.session_talk.specs.Course.{Gives}
use Rattle.session_rules.specs.declared.config.ServeConfig.{ServeConfig}
use Rattle.session_rules.specs.declared.end.SessionEnd.{SessionEnd}
use Rattle.session_rules.specs.declared.end.SessionEnd.TheVariants as end
use Rattle.session_rules.specs.Questions.{at_places}
use Rattle.session_rules.specs.ServeRules as rules
use Rattle.session_rules.specs.Serving.{Stand}
use Rattle.session_rules.specs.Transcripts.{Serves, served, served_places, serve_end}
use Rattle.session_rules.proofs.Meaning.{served_is_so}
use Rattle.validator_session.specs.Core.{Stood as FollowStood, over_of}
use Rattle.session_world.specs.declared.terms.Terms.{Terms}
use Rattle.session_world.specs.declared.joined.Joined.{Joined as JoinedView}
use Rattle.session_world.specs.declared.telling.Telling.{Telling}
use Rattle.session_world.specs.declared.telling.Telling.TheVariants.{CollectorEnds}
use Rattle.session_world.specs.Lines.{ends, served_on, serves, serves_by}
use Rattle.session_world.specs.Standing.{JoinedStands, StandsFor, joined_view}
use Rattle.session_world.specs.World.{World, Joined, collector_end, down_waits, following, serve_config, serving, unless_over}
use Rattle.session_world.proofs.Nows.{AreNow, none_both, placed_now, steps_now}

-- ---- a core that memory did not run out for

pub stood_by : (by : Option SessionEnd) (chronicle : Chronicle) (places : List ℕ) (turns : List Turn) (carried : List ℕ) (core : Core) → (by ≡ Some end.Memory → ⊥)
    → StandsBy by chronicle places turns carried core → Stood chronicle places turns carried core
stood_by None chronicle places turns carried core well stands = stands
stood_by (Some end.Closed) chronicle places turns carried core well stands = stands
stood_by (Some end.PeerClosed) chronicle places turns carried core well stands = stands
stood_by (Some (end.PeerError vendor code)) chronicle places turns carried core well stands = stands
stood_by (Some (end.Refused code offset)) chronicle places turns carried core well stands = stands
stood_by (Some end.Ended) chronicle places turns carried core well stands = stands
stood_by (Some (end.Torn have)) chronicle places turns carried core well stands = stands
stood_by (Some end.LinkFault) chronicle places turns carried core well stands = stands
stood_by (Some (end.IdleOut quiet)) chronicle places turns carried core well stands = stands
stood_by (Some end.Enough) chronicle places turns carried core well stands = stands
stood_by (Some end.Memory) chronicle places turns carried core well stands = absurd (well refl)

pub by_stood : (by : Option SessionEnd) (chronicle : Chronicle) (places : List ℕ) (turns : List Turn) (carried : List ℕ) (core : Core) → (by ≡ Some end.Memory → ⊥)
    → Stood chronicle places turns carried core → StandsBy by chronicle places turns carried core
by_stood None chronicle places turns carried core well stood = stood
by_stood (Some end.Closed) chronicle places turns carried core well stood = stood
by_stood (Some end.PeerClosed) chronicle places turns carried core well stood = stood
by_stood (Some (end.PeerError vendor code)) chronicle places turns carried core well stood = stood
by_stood (Some (end.Refused code offset)) chronicle places turns carried core well stood = stood
by_stood (Some end.Ended) chronicle places turns carried core well stood = stood
by_stood (Some (end.Torn have)) chronicle places turns carried core well stood = stood
by_stood (Some end.LinkFault) chronicle places turns carried core well stood = stood
by_stood (Some (end.IdleOut quiet)) chronicle places turns carried core well stood = stood
by_stood (Some end.Enough) chronicle places turns carried core well stood = stood
by_stood (Some end.Memory) chronicle places turns carried core well stood = absurd (well refl)

-- ---- turns over a book, to which nothing comes by itself

pub record TurnedNow (chronicle : Chronicle) (places : List ℕ) (turns : List Turn) (carried : List ℕ) (new : BookView) (core : Core) : Type 0 where
  pub later : List ℕ
  pub are : AreNow (length chronicle.entries) later
  pub stood : Stood chronicle (places ++ later) turns carried core
  pub book : Stands new chronicle

pub turned_now : (old new : BookView) (before after : Core) (more : List Turn) (chronicle : Chronicle) (places : List ℕ) (turns : List Turn) (carried : List ℕ)
    → Turned Stands BookWent old new before more after → Stands old chronicle → Stood chronicle places turns carried before → (over after ≡ Some end.Memory → ⊥)
    → TurnedNow chronicle places (turns ++ more) carried new after
turned_now old new before after more chronicle places turns carried turned stands stood well =
    let none : turned.others ≡ [] = none_both turned.others turned.grows.own turned.theirs in
    let same : extended chronicle (entries turned.others) ≡ chronicle = ap (λ (ms : List Mark). extended chronicle (entries ms)) none ∙ extended_none chronicle in
    record {
      later = behind chronicle turned.steps;
      are = steps_now chronicle 0 turned.steps (subst (λ (ms : List Mark). Rise 0 (length ms) turned.steps) none turned.rise);
      stood =
          subst (λ (c : Chronicle). Stood c (places ++ behind chronicle turned.steps) (turns ++ more) carried after) same
          (stood_by (over after) (extended chronicle (entries turned.others)) (places ++ behind chronicle turned.steps) (turns ++ more) carried after well (turned.holds chronicle places turns carried stands stood));
      book = subst (λ (c : Chronicle). Stands new c) same (turned.grows.stood chronicle stands);
    }

-- ---- what the collector has written

-- The session of a core, by the configuration that it has.
pub serves_so : (c : ServeConfig) (chronicle : Chronicle) (places : List ℕ) (turns : List Turn) (carried : List ℕ) (core : Core) → core.end.config ≡ c → Stood chronicle places turns carried core
    → Serves chronicle c turns places (carried ++ core.end.out) (stand_of core.end.standing)
serves_so c chronicle places turns carried core config stood =
    subst (λ (k : ServeConfig). Gives (at_places chronicle) (rules.session k turns) places (carried ++ core.end.out) (stand_of core.end.standing)) config stood.gives

pub drop_front : (xs ys : List ℕ) → drop (length xs) (xs ++ ys) ≡ ys
drop_front [] ys = refl
drop_front (x ∷ xs) ys = drop_front xs ys

-- How the collector of a session stands.
pub serving_is : (terms : Terms) (chronicle : Chronicle) (mirror : Held) (view : JoinedView) (j : Joined) → JoinedStands terms chronicle mirror view j
    → served chronicle (serve_config terms) j.down j.places ≡ (j.carried_up ++ view.serve.end.out, stand_of view.serve.end.standing)
serving_is terms chronicle mirror view j stands =
    served_is_so chronicle (serve_config terms) j.down j.places (j.carried_up ++ view.serve.end.out) (stand_of view.serve.end.standing)
    (serves_so (serve_config terms) chronicle j.places j.down j.carried_up view.serve stands.serve_config stands.serve)

-- ---- turns of the collector

abbrev pub world_of : Terms → Chronicle → Held → Joined → World
world_of terms chronicle mirror j = record { terms = terms; chronicle = chronicle; mirror = mirror; joined = Some j }

pub collector_is : (terms : Terms) (chronicle : Chronicle) (mirror : Held) (view : JoinedView) (j : Joined) → JoinedStands terms chronicle mirror view j
    → collector_end (world_of terms chronicle mirror j) j ≡ view.collector
collector_is terms chronicle mirror view j stands = ap (λ (s : List ℕ × Stand). serve_end s) (serving_is terms chronicle mirror view j stands) ∙ sym stands.collector

-- A collector that is over hears nothing.
pub serves_over : (m terms : Terms) (chronicle : Chronicle) (mir mirror : Held) (view : JoinedView) (j : Joined) (book : BookView) (by : SessionEnd) (more : List Turn) (piece : List ℕ) (told : List Telling)
    → StandsFor (joined_view m book mir view) (world_of terms chronicle mirror j) → view.collector ≡ Some by
    → StandsFor (joined_view m book mir view) (serves (world_of terms chronicle mirror j) j more piece).0 × (told ≡ told ++ (serves (world_of terms chronicle mirror j) j more piece).1)
serves_over m terms chronicle mir mirror view j book by more piece told stands over =
    subst (λ (o : Option SessionEnd). StandsFor (joined_view m book mir view) (serves_by o (world_of terms chronicle mirror j) j more piece).0
    × (told ≡ told ++ (serves_by o (world_of terms chronicle mirror j) j more piece).1))
    (sym (collector_is terms chronicle mirror view j stands.joined ∙ over)) (stands, sym (append-nil told))

-- One that is not hears the turns, which carry a piece of what the validator wrote.
pub record Heard (view next : JoinedView) (old new : BookView) (more : List Turn) : Type 0 where
  pub turned : over view.serve ≡ None → Turned Stands BookWent old new view.serve more next.serve
  pub config : next.serve.end.config ≡ view.serve.end.config
  pub collector : next.collector ≡ over next.serve
  pub well : next.collector ≡ Some end.Memory → ⊥
  pub follow_config : next.follow.end.config ≡ view.follow.end.config
  pub over : over_of next.follow ≡ over_of view.follow
  pub same : next.validator ≡ view.validator

pub serves_live : (m terms : Terms) (chronicle : Chronicle) (mir mirror : Held) (view next : JoinedView) (j : Joined) (old new : BookView) (more : List Turn) (piece : List ℕ) (told told_after : List Telling)
    → StandsFor (joined_view m old mir view) (world_of terms chronicle mirror j) → view.collector ≡ None → Heard view next old new more
    → FollowStood view.follow.end.config j.opened j.up (j.carried_down ++ piece) next.follow mirror → told_after ≡ told ++ ends CollectorEnds next.collector
    → StandsFor (joined_view m new mir next) (serves (world_of terms chronicle mirror j) j more piece).0 × (told_after ≡ told ++ (serves (world_of terms chronicle mirror j) j more piece).1)
serves_live m terms chronicle mir mirror view next j old new more piece told told_after stands live heard follow says =
    let w : World = world_of terms chronicle mirror j in
    let s = stands.joined in
    let now = turned_now old new view.serve next.serve more chronicle j.places j.down j.carried_up (heard.turned (sym s.collector ∙ live)) stands.book s.serve (λ is. heard.well (heard.collector ∙ is)) in
    let config : next.serve.end.config ≡ serve_config terms = heard.config ∙ s.serve_config in
    let session = serves_so (serve_config terms) chronicle (j.places ++ now.later) (j.down ++ more) j.carried_up next.serve config now.stood in
    let places : served_places chronicle (serve_config terms) (j.down ++ more) j.places ≡ j.places ++ now.later =
    placed_now (at_places chronicle) (length chronicle.entries) (rules.session (serve_config terms) (j.down ++ more)) j.places now.later (j.carried_up ++ next.serve.end.out) (stand_of next.serve.end.standing) now.are session in
    let later : Joined = served_on w j more piece in
    let joined : JoinedStands terms chronicle mirror next later = record {
      serve = subst (λ (ps : List ℕ). Stood chronicle ps (j.down ++ more) j.carried_up next.serve) (sym places) now.stood;
      serve_config = config;
      collector = heard.collector;
      collector_well = heard.well;
      follow = subst (λ (c : _). FollowStood c j.opened j.up (j.carried_down ++ piece) next.follow mirror) s.follow_config follow;
      follow_config = heard.follow_config ∙ s.follow_config;
      validator = heard.same ∙ s.validator ∙ sym heard.over;
    } in
    let ended : collector_end w later ≡ next.collector = collector_is terms chronicle mirror next later joined in
    subst (λ (o : Option SessionEnd). StandsFor (joined_view m new mir next) (serves_by o w j more piece).0 × (told_after ≡ told ++ (serves_by o w j more piece).1))
    (sym (collector_is terms chronicle mirror view j s ∙ live)) (
      record { terms = stands.terms; book = now.book; mirror = stands.mirror; joined = joined },
      says ∙ ap (λ (o : Option SessionEnd). told ++ ends CollectorEnds o) (sym ended),
    )

-- ---- pieces

-- What waits for the collector.
pub down_is : (terms : Terms) (chronicle : Chronicle) (mirror : Held) (view : JoinedView) (j : Joined) → JoinedStands terms chronicle mirror view j
    → (following j).0 ≡ j.carried_down ++ view.follow.end.out → down_waits (world_of terms chronicle mirror j) j ≡ unless_over view.collector view.follow.end.out
down_is terms chronicle mirror view j stands wrote =
    ap (λ (o : Option SessionEnd). unless_over o (drop (length j.carried_down) (following j).0)) (collector_is terms chronicle mirror view j stands)
    ∙ ap (λ (os : List ℕ). unless_over view.collector os) (ap (λ (os : List ℕ). drop (length j.carried_down) os) wrote ∙ drop_front j.carried_down view.follow.end.out)

pub up_is : (terms : Terms) (chronicle : Chronicle) (mirror : Held) (view : JoinedView) (j : Joined) → JoinedStands terms chronicle mirror view j
    → drop (length j.carried_up) (serving (world_of terms chronicle mirror j) j).0 ≡ view.serve.end.out
up_is terms chronicle mirror view j stands =
    ap (λ (s : List ℕ × Stand). drop (length j.carried_up) s.0) (serving_is terms chronicle mirror view j stands) ∙ drop_front j.carried_up view.serve.end.out
