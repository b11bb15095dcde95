-- Two ends that keep to the tables, and the batches that are on their way between them.
use Rattle.std.specs.Prelude.{◌≡◌, ◌≢◌, List, [], ◌∷◌, ◌++◌, Some}
use Rattle.pb_batch.specs.declared.kind.BatchKind.{BatchKind}
use Rattle.pb_machine.specs.declared.machine.Role.TheVariants.{Client, Server}
use Rattle.pb_machine.specs.declared.machine.State.{State}
use Rattle.pb_machine.specs.declared.machine.State.TheVariants.{Init}
use Rattle.pb_machine.specs.declared.machine.Heard.TheVariants.{Unexpected}
use Rattle.pb_machine.specs.Table.{sending, receiving}

-- The states of both ends, and the kinds of the batches that are on their way to each, in the order
-- in which they were sent.
pub record World : Type 0 where
  pub client : State
  pub server : State
  pub to_client : List BatchKind
  pub to_server : List BatchKind

-- Before the session.
abbrev pub begin : World
begin = record { client = Init; server = Init; to_client = []; to_server = [] }

-- One step of the world: an end sends a batch that it may send, or hears the first of those that
-- are on their way to it.
pub data Step : World → World → Type 0 where
  ClientSends : (w : World) (kind : BatchKind) (next : State) → sending Client w.client kind ≡ Some next
      → Step w (record w { client = next; to_server = w.to_server ++ kind ∷ [] })
  ServerSends : (w : World) (kind : BatchKind) (next : State) → sending Server w.server kind ≡ Some next
      → Step w (record w { server = next; to_client = w.to_client ++ kind ∷ [] })
  ClientHears : (w : World) (kind : BatchKind) (rest : List BatchKind) → w.to_client ≡ kind ∷ rest
      → Step w (record w { client = (receiving Client w.client kind).1; to_client = rest })
  ServerHears : (w : World) (kind : BatchKind) (rest : List BatchKind) → w.to_server ≡ kind ∷ rest
      → Step w (record w { server = (receiving Server w.server kind).1; to_server = rest })

-- A world to which steps lead from the beginning.
pub data Reached : World → Type 0 where
  Begun : Reached begin
  After : (before after : World) → Reached before → Step before after → Reached after

-- In a world, the batch that is delivered next to an end is one that it expects, and where none is
-- on its way both ends are in one state.
pub record Agrees (w : World) : Type 0 where
  pub client_expects : (kind : BatchKind) (rest : List BatchKind) → w.to_client ≡ kind ∷ rest → (receiving Client w.client kind).0 ≢ Unexpected
  pub server_expects : (kind : BatchKind) (rest : List BatchKind) → w.to_server ≡ kind ∷ rest → (receiving Server w.server kind).0 ≢ Unexpected
  pub one_state : w.to_client ≡ [] → w.to_server ≡ [] → w.client ≡ w.server

-- Every world that is reached is so.
abbrev pub EndsAgree : Type 0
EndsAgree = (w : World) → Reached w → Agrees w
