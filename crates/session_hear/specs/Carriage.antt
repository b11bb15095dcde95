-- What an end hears of batches that the other end writes one after another, however the octets are
-- cut and however long they take.
use Rattle.std.specs.Prelude.{◌≡◌, ◌<◌, ◌≤◌, ℕ, Bool, List, [], ◌∷◌, ◌++◌, length}
use Rattle.std.specs.List.{flat_map}
use Rattle.wire_base.specs.Turns.{Turn, Octet, Idle, Ended}
use Rattle.pb_batch.specs.declared.batch.Batch.{Batch}
use Rattle.pb_batch.specs.Written.{IsBatch, written}
use Rattle.session_hear.specs.Step.{Step, Came, Faulty, Quiet, Spent, Cut}
use Rattle.session_hear.specs.Hearing.{heard}

-- The octets of batches, one after another.
abbrev pub written_all : List Batch → List ℕ
written_all batches = flat_map written batches

-- Each can be written, and is of the server or else of the client.
abbrev pub AreOf : Bool → List Batch → Type 0
AreOf server [] = Unit {0}
AreOf server (batch ∷ batches) = IsBatch batch × (batch.from_server ≡ server) × AreOf server batches

-- The octets among turns.
abbrev pub octets_of_turns : List Turn → List ℕ
octets_of_turns [] = []
octets_of_turns (Octet octet ∷ turns) = octet ∷ octets_of_turns turns
octets_of_turns (Idle ∷ turns) = octets_of_turns turns
octets_of_turns (Ended ∷ turns) = octets_of_turns turns

-- The other end has not closed.
abbrev pub IsOpen : List Turn → Type 0
IsOpen [] = Unit {0}
IsOpen (Octet octet ∷ turns) = IsOpen turns
IsOpen (Idle ∷ turns) = IsOpen turns
IsOpen (Ended ∷ turns) = ⊥

-- The batches that came.
abbrev pub came : List Step → List Batch
came [] = []
came (Came batch ∷ steps) = batch ∷ came steps
came (Faulty fault ∷ steps) = came steps
came (Quiet turns ∷ steps) = came steps
came (Spent ∷ steps) = came steps
came (Cut have ∷ steps) = came steps

-- No fault is among the steps.
abbrev pub AreWell : List Step → Type 0
AreWell [] = Unit {0}
AreWell (Came batch ∷ steps) = AreWell steps
AreWell (Faulty fault ∷ steps) = ⊥
AreWell (Quiet turns ∷ steps) = AreWell steps
AreWell (Spent ∷ steps) = AreWell steps
AreWell (Cut have ∷ steps) = AreWell steps

-- Of the batches the first are whole in the octets, and of the next, if there is one, fewer octets
-- are there than it has.
abbrev pub IsPartOf : List ℕ → List Batch → Type 0
IsPartOf part [] = part ≡ []
IsPartOf part (batch ∷ later) = length part < length (written batch)

pub record WholeIn (octets : List ℕ) (batches whole : List Batch) : Type 0 where
  pub later : List Batch
  pub part : List ℕ
  pub split : batches ≡ whole ++ later
  pub joined : octets ≡ written_all whole ++ part
  pub torn : IsPartOf part later

-- Where the octets that were taken are a prefix of written batches, exactly the batches came that
-- are whole in them, in order, and no fault.
abbrev pub Carries : Type 0
Carries = (server : Bool) (limit : ℕ) (batches : List Batch) (turns : List Turn) (rest : List ℕ) → AreOf server batches → IsOpen turns
    → 0 < limit → length (octets_of_turns turns) ≤ limit → octets_of_turns turns ++ rest ≡ written_all batches
    → WholeIn (octets_of_turns turns) batches (came (heard server limit turns).0) × AreWell (heard server limit turns).0
