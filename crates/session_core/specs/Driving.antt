-- What the loop over a link did with a core of either end.
use Rattle.std.specs.Prelude.{ℕ, Bool, true, false, List, Option, Some, None}
use Rattle.wire_base.specs.Outside.{Adds}
use Rattle.wire_base.specs.Turns.{Turn}
use Rattle.session_rules.specs.declared.end.SessionEnd.{SessionEnd}
use Rattle.session_rules.specs.declared.end.SessionEnd.TheVariants as end
use Rattle.session_rules.specs.declared.end.Turn.{Turn as Answer}
use Rattle.session_rules.specs.declared.end.Turn.TheVariants as answer

-- From the one state to the other the link gave these turns and was given these octets, where it
-- exposes them. `ran` says what came of them: of the core, and of what is beside it.
pub record Drives {C O : Type 0} (ran : C → O → List Turn → List ℕ → C → O → Type 0) (core : C) (beside : O) (core-after : C) (beside-after : O)
    (taken taken-after : Option (List Turn)) (given given-after : Option (List ℕ)) : Type 0 where
  pub turns : List Turn
  pub octets : List ℕ
  pub took : Adds taken taken-after turns
  pub gave : Adds given given-after octets
  pub so : ran core beside turns octets core-after beside-after

-- What a turn comes to, by how the session ended, if it has.
abbrev pub answer_of : Option SessionEnd → Answer
answer_of None = answer.Goes
answer_of (Some by) = answer.Over by

-- The session ended since memory ran out.
abbrev pub is_memory : SessionEnd → Bool
is_memory end.Memory = true
is_memory end.Closed = false
is_memory end.PeerClosed = false
is_memory (end.PeerError vendor code) = false
is_memory (end.Refused code offset) = false
is_memory end.Ended = false
is_memory (end.Torn have) = false
is_memory end.LinkFault = false
is_memory (end.IdleOut turns) = false
is_memory end.Enough = false

-- The session ended since a call of the link failed.
abbrev pub is_link_fault : SessionEnd → Bool
is_link_fault end.LinkFault = true
is_link_fault end.Closed = false
is_link_fault end.PeerClosed = false
is_link_fault (end.PeerError vendor code) = false
is_link_fault (end.Refused code offset) = false
is_link_fault end.Ended = false
is_link_fault (end.Torn have) = false
is_link_fault (end.IdleOut turns) = false
is_link_fault end.Enough = false
is_link_fault end.Memory = false
