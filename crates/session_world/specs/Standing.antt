-- What the code keeps of a world, and for which worlds that stands.
use Rattle.std.specs.Prelude.{◌≡◌, ℕ, List, [], ◌++◌, Option, Some, None, Result, OnOk}
use Rattle.validator_core.specs.Held.{Held}
use Rattle.collector_core.specs.Chronicle.{Chronicle}
use Rattle.collector_core.specs.Standing.{BookView, Stands}
use Rattle.collector_session.specs.Cores.{Stood as ServeStood, over as serve_over}
use Rattle.session_rules.specs.declared.end.SessionEnd.TheVariants as end
use Rattle.validator_session.specs.Core.{Stood as FollowStood, over_of as follow_over}
use Rattle.session_world.specs.declared.joined.Joined.{Joined as JoinedView}
use Rattle.session_world.specs.declared.terms.Terms.{Terms}
use Rattle.session_world.specs.declared.telling.Telling.{Telling}
use Rattle.session_world.specs.World.{World, Joined, serve_config, follow_config, unless_over}
use Rattle.session_world.specs.Lines.{Told}

pub record WorldView : Type 0 where
  pub terms : Terms
  pub book : BookView
  pub mirror : Held
  pub joined : Option JoinedView

-- The octets that wait for the validator, and those that wait for the collector.
abbrev pub joined_up : JoinedView → List ℕ
joined_up view = unless_over view.validator view.serve.end.out

abbrev pub joined_down : JoinedView → List ℕ
joined_down view = unless_over view.collector view.follow.end.out

abbrev pub view_up : WorldView → List ℕ
view_up view = elim view.joined as (λ _. List ℕ) [ None ↦ [] | Some joined ↦ joined_up joined ]

abbrev pub view_down : WorldView → List ℕ
view_down view = elim view.joined as (λ _. List ℕ) [ None ↦ [] | Some joined ↦ joined_down joined ]

-- A world with a session.
abbrev pub joined_view : Terms → BookView → Held → JoinedView → WorldView
joined_view terms book mirror joined = record { terms = terms; book = book; mirror = mirror; joined = Some joined }

-- Both ends stand where those of the session do. Memory did not run out.
pub record JoinedStands (terms : Terms) (chronicle : Chronicle) (mirror : Held) (view : JoinedView) (j : Joined) : Type 0 where
  pub serve : ServeStood chronicle j.places j.down j.carried_up view.serve
  pub serve_config : view.serve.end.config ≡ serve_config terms
  pub collector : view.collector ≡ serve_over view.serve
  pub collector_well : view.collector ≡ Some end.Memory → ⊥
  pub follow : FollowStood (follow_config j.subscribe) j.opened j.up j.carried_down view.follow mirror
  pub follow_config : view.follow.end.config ≡ follow_config j.subscribe
  pub validator : view.validator ≡ follow_over view.follow

abbrev pub JoinedBy : Terms → Chronicle → Held → Option JoinedView → Option Joined → Type 0
JoinedBy terms chronicle mirror None None = Unit {0}
JoinedBy terms chronicle mirror None (Some j) = ⊥
JoinedBy terms chronicle mirror (Some view) None = ⊥
JoinedBy terms chronicle mirror (Some view) (Some j) = JoinedStands terms chronicle mirror view j

-- It stands for the world.
pub record StandsFor (view : WorldView) (w : World) : Type 0 where
  pub terms : view.terms ≡ w.terms
  pub book : Stands view.book w.chronicle
  pub mirror : view.mirror ≡ w.mirror
  pub joined : JoinedBy w.terms w.chronicle w.mirror view.joined w.joined

-- For each world that it stood for, it stands for what a line makes of it, and what is reported of
-- the line comes after what was reported before.
abbrev pub Does : (World → Told) → WorldView → List Telling → WorldView → List Telling → Type 0
Does line before told after told_after = (w : World) → StandsFor before w → StandsFor after (line w).0 × (told_after ≡ told ++ (line w).1)

-- So unless memory ran out.
abbrev pub DoesOk : {T E : Type 0} → (World → Told) → WorldView → List Telling → WorldView → List Telling → Result T E → Type 0
DoesOk line before told after told_after result = OnOk result (Does line before told after told_after)
