-- What an end hears in the turns of its link: the steps that they make, in order.
use Rattle.std.specs.Prelude.{◌==◌, ◌+◌, ℕ, Bool, List, [], ◌∷◌, ◌++◌, length, if◌then◌else◌}
use Rattle.wire_base.specs.Turns.{Turn, Octet, Idle, Ended}
use Rattle.wire_base.specs.Feeding.{More, Bad, Whole}
use Rattle.pb_batch.specs.Front.{Front, front_of}
use Rattle.session_hear.specs.Step.{Step, Came, Faulty, Quiet, Spent, Cut}

-- Where an end stands between two turns.
--   Hears held quiet count   it holds the octets of a batch that is not whole yet; that many turns
--                            were idle since the last octet; that many octets were taken
--   Deaf                     it hears nothing more, after a fault, the last octet of the limit or
--                            the end of the link
pub data Hearing : Type 0 where
  Hears : List ℕ → ℕ → ℕ → Hearing
  Deaf : Hearing

-- What was heard: steps, and where the end stands then.
abbrev pub Heard : Type 0
Heard = List Step × Hearing

-- What was heard, and then what is heard from there on.
abbrev pub heard_then : Heard → (Hearing → Heard) → Heard
heard_then first later = (first.0 ++ (later first.1).0, (later first.1).1)

-- ---- octets (RFC 5793, section 4.1)

-- The octets that are held now begin with this; that many octets were taken.
abbrev pub hear_front : List ℕ → ℕ → Front → Heard
hear_front held count More = ([], Hears held 0 count)
hear_front held count (Bad fault) = (Faulty fault ∷ [], Deaf)
hear_front held count (Whole batch len) = (Came batch ∷ [], Hears [] 0 count)

-- An octet of the server, or else of the client.
abbrev pub hear_octet : Bool → Hearing → ℕ → Heard
hear_octet from_server (Hears held quiet count) octet = hear_front (held ++ octet ∷ []) (count + 1) (front_of from_server (held ++ octet ∷ []))
hear_octet from_server Deaf octet = ([], Deaf)

-- Octets one after another.
abbrev pub heard_octets : Bool → Hearing → List ℕ → Heard
heard_octets from_server hearing [] = ([], hearing)
heard_octets from_server hearing (octet ∷ octets) = heard_then (hear_octet from_server hearing octet) (λ next. heard_octets from_server next octets)

-- ---- turns

-- After the last octet that the limit allows an end hears nothing more.
abbrev pub settle_at : ℕ → List Step → Hearing → Heard
settle_at limit steps Deaf = (steps, Deaf)
settle_at limit steps (Hears held quiet count) = if count == limit then (steps ++ Spent ∷ [], Deaf) else (steps, Hears held quiet count)

abbrev pub settle : ℕ → Heard → Heard
settle limit heard = settle_at limit heard.0 heard.1

-- A turn.
abbrev pub hear_turn : Bool → ℕ → Hearing → Turn → Heard
hear_turn from_server limit hearing (Octet octet) = settle limit (hear_octet from_server hearing octet)
hear_turn from_server limit (Hears held quiet count) Idle = (Quiet (quiet + 1) ∷ [], Hears held (quiet + 1) count)
hear_turn from_server limit (Hears held quiet count) Ended = (Cut (length held) ∷ [], Deaf)
hear_turn from_server limit Deaf turn = ([], Deaf)

-- Turns one after another.
abbrev pub heard_from : Bool → ℕ → Hearing → List Turn → Heard
heard_from from_server limit hearing [] = ([], hearing)
heard_from from_server limit hearing (turn ∷ turns) = heard_then (hear_turn from_server limit hearing turn) (λ next. heard_from from_server limit next turns)

-- The turns of a link, from the first on.
abbrev pub heard : Bool → ℕ → List Turn → Heard
heard from_server limit turns = heard_from from_server limit (Hears [] 0 0) turns

-- How many octets are among turns.
abbrev pub octets_in : List Turn → ℕ
octets_in [] = 0
octets_in (Octet octet ∷ turns) = octets_in turns + 1
octets_in (Idle ∷ turns) = octets_in turns
octets_in (Ended ∷ turns) = octets_in turns
