-- A whole session of a collector, by how the loop over its link ended.
use Rattle.std.proofs.Common.{◌≡◌, ◌≢◌, ◌-◌, ◌^◌, ◌+◌, ℕ, false, List, [], ◌++◌, Option, Some, inl, length, refl, ap, subst, subst₂, ◌∙◌, append-nil, arith}
use Rattle.std.specs.Prelude.{min}
use Rattle.wire_base.specs.Turns.{Turn}
use Rattle.wire_base.proofs.Streams.{adds_none}
use Rattle.collector_core.specs.declared.chronicle.Mark.{Mark}
use Rattle.collector_core.specs.Chronicle.{Chronicle, extended}
use Rattle.collector_core.specs.Desks.{behind, entries}
use Rattle.session_talk.specs.Course.{Breaks, Gives}
use Rattle.session_hear.specs.Hearing.{octets_in}
use Rattle.session_rules.specs.declared.config.ServeConfig.{ServeConfig}
use Rattle.session_rules.specs.declared.end.SessionEnd.{SessionEnd}
use Rattle.session_rules.specs.declared.end.SessionEnd.TheVariants as end
use Rattle.session_rules.specs.declared.record.SessionRecord.{SessionRecord}
use Rattle.session_rules.specs.Numbers.{counted_on}
use Rattle.session_rules.specs.Questions.{at_places}
use Rattle.session_rules.specs.Serving.{nothing_noted}
use Rattle.session_rules.specs.ServeRules.{session}
use Rattle.collector_session.specs.Cores.{Begins, Core, Fell, Stands, StandsBy, Stood, over}
use Rattle.collector_session.specs.Standing.{notes_of, stand_of}
use Rattle.session_core.specs.Driving.{Drives, is_memory}
use Rattle.session_core.specs.Ran.{ServeRan}
use Rattle.session_core.specs.RanLaws.{stood_so}
use Rattle.session_core.specs.Served.{Broke, Ended, Failed, Served, ServedAt, served_record}

-- ---- the record

noted : (r : SessionRecord) (turns : List Turn) (octets : List ℕ) → r.taken ≡ [] → r.sent ≡ counted_on 0 (length octets) → r.received ≡ octets_in turns → r ≡ served_record turns octets (notes_of r)
noted r turns octets taken sent received =
    ap (λ (ts : List _). record r { taken = ts }) taken
    ∙ ap (λ (n : ℕ). record r { taken = []; sent = n }) sent
    ∙ ap (λ (n : ℕ). record r { taken = []; sent = counted_on 0 (length octets); received = n }) received

-- ---- by how it ended

module _ (c : ServeConfig) (chronicle : Chronicle) (places : List ℕ) (turns : List Turn) (octets : List ℕ) (core : Core) (config : core.end.config ≡ c) (taken : core.end.standing.record.taken ≡ []) where
  ended : (by : SessionEnd) → over core ≡ Some by → core.end.out ≡ [] → Stood chronicle places turns octets core → Ended chronicle c turns places octets core.end.standing.record by
  ended by is given s = record {
    stand = stand_of core.end.standing;
    serves =
        subst₂ (λ (k : ServeConfig) (o : List ℕ). Gives (at_places chronicle) (session k turns) places o (stand_of core.end.standing)) config
        (ap (λ (o : List ℕ). octets ++ o) given ∙ append-nil octets) s.gives;
    over = is;
    noted = noted core.end.standing.record turns octets taken s.sent s.received;
  }

  pub failed : Stood chronicle places turns octets core → Failed chronicle c turns places octets core.end.standing.record
  failed s = record {
    rest = core.end.out;
    stand = stand_of core.end.standing;
    serves = subst (λ (k : ServeConfig). Gives (at_places chronicle) (session k turns) places (octets ++ core.end.out) (stand_of core.end.standing)) config s.gives;
    noted = noted core.end.standing.record turns octets taken s.sent s.received;
  }

  broke : Fell chronicle places turns octets core → Broke chronicle c turns places octets core.end.standing.record
  broke f = record {
    rest = core.end.out;
    notes = notes_of core.end.standing.record;
    serves = subst (λ (k : ServeConfig). Breaks (at_places chronicle) nothing_noted (session k turns) places (octets ++ core.end.out) (notes_of core.end.standing.record)) config f.breaks;
    noted = noted core.end.standing.record turns octets taken f.sent f.received;
  }

  pub ended_at : (by : SessionEnd) → over core ≡ Some by → by ≢ end.LinkFault → (is_memory by ≡ false → core.end.out ≡ []) → StandsBy (Some by) chronicle places turns octets core
      → ServedAt chronicle c turns places octets core.end.standing.record by
  ended_at end.Memory is own given s = broke s
  ended_at end.LinkFault is own given s = absurd (own refl)
  ended_at end.Closed is own given s = ended end.Closed is (given refl) s
  ended_at end.PeerClosed is own given s = ended end.PeerClosed is (given refl) s
  ended_at (end.PeerError vendor code) is own given s = ended (end.PeerError vendor code) is (given refl) s
  ended_at (end.Refused code offset) is own given s = ended (end.Refused code offset) is (given refl) s
  ended_at end.Ended is own given s = ended end.Ended is (given refl) s
  ended_at (end.Torn have) is own given s = ended (end.Torn have) is (given refl) s
  ended_at (end.IdleOut idle) is own given s = ended (end.IdleOut idle) is (given refl) s
  ended_at end.Enough is own given s = ended end.Enough is (given refl) s

-- ---- the session

module _ {D : Type 0} (stands : D → Chronicle → Type 0) (went : D → List Mark → D → Type 0) (c : ServeConfig) (old new : D) (taken taken-after : Option (List Turn)) (given given-after : Option (List ℕ)) where
  -- What the loop did with a core that had just begun.
  module _ (begun core : Core) (begins : Begins begun) (config : begun.end.config ≡ c) (none : core.end.standing.record.taken ≡ []) (d : Drives (ServeRan stands went) begun old core new taken taken-after given given-after) where
    stands_so : (chronicle : Chronicle) → stands old chronicle → Stands (extended chronicle (entries d.so.grows.others)) (behind chronicle d.so.grows.steps) d.turns d.octets core
    stands_so chronicle stood = d.so.grows.holds chronicle [] [] [] stood (begins chronicle)

    served : (by : SessionEnd)
        → ((chronicle : Chronicle) → stands old chronicle → ServedAt (extended chronicle (entries d.so.grows.others)) c d.turns (behind chronicle d.so.grows.steps) d.octets core.end.standing.record by)
        → Served stands went c old new taken taken-after given given-after core.end.standing.record by
    served by so = record {
      others = d.so.grows.others;
      theirs = d.so.grows.theirs;
      grows = d.so.grows.grows;
      steps = d.so.grows.steps;
      rise = d.so.grows.rise;
      turns = d.turns;
      octets = d.octets;
      took = d.took;
      gave = d.gave;
      serves = so;
    }

    pub served_end : (by : SessionEnd) → over core ≡ Some by → by ≢ end.LinkFault → (is_memory by ≡ false → core.end.out ≡ []) → Served stands went c old new taken taken-after given given-after core.end.standing.record by
    served_end by is own all =
        served by (λ chronicle stood.
        ended_at c (extended chronicle (entries d.so.grows.others)) (behind chronicle d.so.grows.steps) d.turns d.octets core (d.so.config ∙ config) none by is own all
        (subst (λ (o : Option SessionEnd). StandsBy o (extended chronicle (entries d.so.grows.others)) (behind chronicle d.so.grows.steps) d.turns d.octets core) is (stands_so chronicle stood)))

    pub served_fault : over core ≢ Some end.Memory → Served stands went c old new taken taken-after given given-after core.end.standing.record end.LinkFault
    served_fault other =
        served end.LinkFault (λ chronicle stood.
        failed c (extended chronicle (entries d.so.grows.others)) (behind chronicle d.so.grows.steps) d.turns d.octets core (d.so.config ∙ config) none
        (stood_so (extended chronicle (entries d.so.grows.others)) (behind chronicle d.so.grows.steps) d.turns d.octets core other (stands_so chronicle stood)))

  -- Memory ran out before the session.
  pub served_none : (desk : D) → went desk [] desk → (kept : SessionRecord) → kept ≡ record { points = []; taken = []; errors = []; reports = 0; sent = 0; received = 0 }
      → Served stands went c desk desk taken taken given given kept end.Memory
  served_none desk stays kept is = record {
    others = [];
    theirs = tt;
    grows = stays;
    steps = [];
    rise = tt;
    turns = [];
    octets = [];
    took = adds_none taken;
    gave = adds_none given;
    serves = λ chronicle stood. record {
      rest = [];
      notes = nothing_noted;
      serves = inl (refl, refl, refl);
      noted = let none : 0 ≡ min (0 + 0) (2 ^ 64 - 1) = omega arith in is ∙ ap (λ (n : ℕ). record { points = []; taken = []; errors = []; reports = 0; sent = n; received = 0 }) none;
    };
  }
