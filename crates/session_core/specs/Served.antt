-- A whole session of a collector over a link.
use Rattle.std.specs.Prelude.{◌≡◌, ℕ, List, [], ◌++◌, Option, Some, length}
use Rattle.wire_base.specs.Outside.{Adds}
use Rattle.wire_base.specs.Turns.{Turn}
use Rattle.collector_core.specs.declared.chronicle.Mark.{Mark}
use Rattle.collector_core.specs.Chronicle.{Chronicle, extended}
use Rattle.collector_core.specs.Desks.{AreOthers, Rise, behind, entries}
use Rattle.session_hear.specs.Hearing.{octets_in}
use Rattle.session_rules.specs.declared.config.ServeConfig.{ServeConfig}
use Rattle.session_rules.specs.declared.end.SessionEnd.{SessionEnd}
use Rattle.session_rules.specs.declared.end.SessionEnd.TheVariants as end
use Rattle.session_rules.specs.declared.record.SessionRecord.{SessionRecord}
use Rattle.session_rules.specs.Numbers.{counted_on}
use Rattle.session_rules.specs.Serving.{Notes, Stand}
use Rattle.session_rules.specs.Transcripts.{Serves, ServesInPart}

-- The record of a session in which these turns were taken and these octets were given. `sent` stays
-- at the last number of eight octets.
abbrev pub served_record : List Turn → List ℕ → Notes → SessionRecord
served_record turns octets notes = record {
  points = notes.points;
  taken = [];
  errors = notes.errors;
  reports = notes.reports;
  sent = counted_on 0 (length octets);
  received = octets_in turns;
}

-- The session ended so: all of its octets were given.
pub record Ended (chronicle : Chronicle) (c : ServeConfig) (turns : List Turn) (places octets : List ℕ) (kept : SessionRecord) (by : SessionEnd) : Type 0 where
  pub stand : Stand
  pub serves : Serves chronicle c turns places octets stand
  pub over : stand.over ≡ Some by
  pub noted : kept ≡ served_record turns octets stand.notes

-- A call of the link failed: a prefix of its octets was given.
pub record Failed (chronicle : Chronicle) (c : ServeConfig) (turns : List Turn) (places octets : List ℕ) (kept : SessionRecord) : Type 0 where
  pub rest : List ℕ
  pub stand : Stand
  pub serves : Serves chronicle c turns places (octets ++ rest) stand
  pub noted : kept ≡ served_record turns octets stand.notes

-- Memory ran out, and the session broke off there: a prefix of its octets up to there was given.
pub record Broke (chronicle : Chronicle) (c : ServeConfig) (turns : List Turn) (places octets : List ℕ) (kept : SessionRecord) : Type 0 where
  pub rest : List ℕ
  pub notes : Notes
  pub serves : ServesInPart chronicle c turns places (octets ++ rest) notes
  pub noted : kept ≡ served_record turns octets notes

-- By how it ended.
abbrev pub ServedAt : Chronicle → ServeConfig → List Turn → List ℕ → List ℕ → SessionRecord → SessionEnd → Type 0
ServedAt chronicle c turns places octets kept end.Memory = Broke chronicle c turns places octets kept
ServedAt chronicle c turns places octets kept end.LinkFault = Failed chronicle c turns places octets kept
ServedAt chronicle c turns places octets kept by = Ended chronicle c turns places octets kept by

-- A desk: it stands for chronicles, and between two of its states entries came.
module _ {D : Type 0} (stands : D → Chronicle → Type 0) (went : D → List Mark → D → Type 0) where
  -- From the one state of the desk to the other, entries of others came, and questions were asked
  -- at steps among them. The link gave these turns and was given these octets, where it exposes
  -- them. For each chronicle that the desk stood for, the session is that of the longer chronicle
  -- at the places of the steps.
  pub record Served (c : ServeConfig) (old new : D) (taken taken-after : Option (List Turn)) (given given-after : Option (List ℕ)) (kept : SessionRecord) (by : SessionEnd) : Type 0 where
    pub others : List Mark
    pub theirs : AreOthers others
    pub grows : went old others new
    pub steps : List ℕ
    pub rise : Rise 0 (length others) steps
    pub turns : List Turn
    pub octets : List ℕ
    pub took : Adds taken taken-after turns
    pub gave : Adds given given-after octets
    pub serves : (chronicle : Chronicle) → stands old chronicle → ServedAt (extended chronicle (entries others)) c turns (behind chronicle steps) octets kept by
