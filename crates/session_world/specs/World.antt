-- The world of a script: an inventory, a mirror of it, and at most one session between them, whose
-- octets are carried by hand.
use Rattle.std.specs.Prelude.{ℕ, Bool, is_some, List, [], Option, Some, None, length, drop}
use Rattle.wire_base.specs.Turns.{Turn}
use Rattle.swima_model.specs.declared.report.Kind.{Kind}
use Rattle.validator_core.specs.Held.{Held, empty_mirror}
use Rattle.collector_core.specs.Chronicle.{Chronicle}
use Rattle.session_rules.specs.declared.config.FollowConfig.{FollowConfig}
use Rattle.session_rules.specs.declared.config.ServeConfig.{ServeConfig}
use Rattle.session_rules.specs.declared.end.SessionEnd.{SessionEnd}
use Rattle.session_world.specs.declared.terms.Terms.{Terms}
use Rattle.session_rules.specs.Following.{Stand as FollowStand}
use Rattle.session_rules.specs.Serving.{Stand as ServeStand}
use Rattle.session_rules.specs.Transcripts.{served, serve_end, followed, follow_end}

-- A session.
--   subscribe                 whether the validator subscribes
--   opened                    the mirror at its start
--   up, down                  the turns of the validator, and those of the collector
--   places                    the places of the collector's calls of its desk
--   carried_up, carried_down  the octets that were carried to the validator, and to the collector
pub record Joined : Type 0 where
  pub subscribe : Bool
  pub opened : Held
  pub up : List Turn
  pub down : List Turn
  pub places : List ℕ
  pub carried_up : List ℕ
  pub carried_down : List ℕ

-- A session with this mirror, at its start.
abbrev pub opened : Bool → Held → Joined
opened subscribe mirror = record { subscribe = subscribe; opened = mirror; up = []; down = []; places = []; carried_up = []; carried_down = [] }

-- The world: the terms of its sessions, the chronicle of the inventory, the mirror,
-- and the session, where one is open.
pub record World : Type 0 where
  pub terms : Terms
  pub chronicle : Chronicle
  pub mirror : Held
  pub joined : Option Joined

-- An inventory, an empty mirror of the kind, and no session.
abbrev pub begun : Terms → Chronicle → Kind → World
begun terms chronicle kind = record { terms = terms; chronicle = chronicle; mirror = empty_mirror kind; joined = None }

-- A session is open.
abbrev pub is_open : World → Bool
is_open w = is_some w.joined

-- ---- both ends

-- The most that a script lets both ends wait and take, and the validator follow.
abbrev pub MOST : ℕ
MOST = 4294967295

abbrev pub serve_config : Terms → ServeConfig
serve_config terms = record { max = terms.max; reports = None; idle = MOST; octets = MOST }

abbrev pub follow_config : Bool → FollowConfig
follow_config subscribe = record { subscribe = subscribe; rounds = MOST; idle = MOST; octets = MOST }

-- What the collector has written, and how it stands. Each call of its desk that is not placed yet
-- is made now.
abbrev pub serving : World → Joined → List ℕ × ServeStand
serving w j = served w.chronicle (serve_config w.terms) j.down j.places

-- What the validator has written, and how it stands.
abbrev pub following : Joined → List ℕ × FollowStand
following j = followed j.opened (follow_config j.subscribe) j.up

abbrev pub collector_end : World → Joined → Option SessionEnd
collector_end w j = serve_end (serving w j)

abbrev pub validator_end : Joined → Option SessionEnd
validator_end j = follow_end (following j)

-- ---- octets that wait

-- Octets towards an end that is over are dropped.
abbrev pub unless_over : Option SessionEnd → List ℕ → List ℕ
unless_over None octets = octets
unless_over (Some end) octets = []

abbrev pub up_waits : World → Joined → List ℕ
up_waits w j = unless_over (validator_end j) (drop (length j.carried_up) (serving w j).0)

abbrev pub down_waits : World → Joined → List ℕ
down_waits w j = unless_over (collector_end w j) (drop (length j.carried_down) (following j).0)

-- The octets that wait for the validator, and those that wait for the collector; none without a
-- session.
abbrev pub waits_up : World → List ℕ
waits_up w = elim w.joined as (λ _. List ℕ) [ None ↦ [] | Some j ↦ up_waits w j ]

abbrev pub waits_down : World → List ℕ
waits_down w = elim w.joined as (λ _. List ℕ) [ None ↦ [] | Some j ↦ down_waits w j ]

-- The octets that were carried to the validator in the session.
abbrev pub carried_up : World → List ℕ
carried_up w = elim w.joined as (λ _. List ℕ) [ None ↦ [] | Some j ↦ j.carried_up ]
