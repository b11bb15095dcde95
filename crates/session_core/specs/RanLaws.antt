-- What came of some turns and octets, and then of others.
use Rattle.std.proofs.Common.{◌≡◌, ◌≢◌, ℕ, ◌+◌, List, [], ◌++◌, Option, Some, None, inl, inr, length, refl, sym, ap, subst, subst₂, ◌∙◌, append_assoc, append-nil, length-append, arith}
use Rattle.std.specs.Prelude.{map}
use Rattle.std.proofs.lemmas.List.{map-append}
use Rattle.wire_base.specs.Turns.{Turn}
use Rattle.collector_core.specs.declared.chronicle.Entry.{Entry}
use Rattle.collector_core.specs.declared.chronicle.Mark.{Mark}
use Rattle.collector_core.specs.BookDesk.{entries_append, extended_more}
use Rattle.collector_core.specs.Chronicle.{Chronicle, extended}
use Rattle.collector_core.specs.Desks.{Rise, behind, entries}
use Rattle.collector_core.proofs.Marks.{others_append, rise_join, behind_more}
use Rattle.validator_core.specs.Held.{Held}
use Rattle.session_rules.specs.declared.config.FollowConfig.{FollowConfig}
use Rattle.session_rules.specs.declared.end.SessionEnd.{SessionEnd}
use Rattle.session_rules.specs.declared.end.SessionEnd.TheVariants as end
use Rattle.collector_session.specs.Cores.{Core, Stands, StandsBy, Stood, Turned, over}
use Rattle.collector_session.proofs.Coring.{stands_by}
use Rattle.validator_session.specs.declared.inner.Inner.{Inner}
use Rattle.validator_session.specs.Core.{over_of}
use Rattle.validator_session.specs.Core as follow
use Rattle.session_core.specs.Ran.{ServeRan, FollowRan, StoodOrFell}

-- ---- a collector

-- Where memory did not run out it stood.
stood_unless : (by : Option SessionEnd) (chronicle : Chronicle) (places : List ℕ) (turns : List Turn) (carried : List ℕ) (core : Core) → by ≢ Some end.Memory
    → StandsBy by chronicle places turns carried core → Stood chronicle places turns carried core
stood_unless None chronicle places turns carried core other s = s
stood_unless (Some end.Closed) chronicle places turns carried core other s = s
stood_unless (Some end.PeerClosed) chronicle places turns carried core other s = s
stood_unless (Some (end.PeerError vendor code)) chronicle places turns carried core other s = s
stood_unless (Some (end.Refused code offset)) chronicle places turns carried core other s = s
stood_unless (Some end.Ended) chronicle places turns carried core other s = s
stood_unless (Some (end.Torn have)) chronicle places turns carried core other s = s
stood_unless (Some end.LinkFault) chronicle places turns carried core other s = s
stood_unless (Some (end.IdleOut idle)) chronicle places turns carried core other s = s
stood_unless (Some end.Enough) chronicle places turns carried core other s = s
stood_unless (Some end.Memory) chronicle places turns carried core other s = absurd (other refl)

pub stood_so : (chronicle : Chronicle) (places : List ℕ) (turns : List Turn) (carried : List ℕ) (core : Core) → over core ≢ Some end.Memory → Stands chronicle places turns carried core → Stood chronicle places turns carried core
stood_so chronicle places turns carried core other s = stood_unless (over core) chronicle places turns carried core other s

-- Places after a chronicle, and others after the longer one.
places_append : (chronicle : Chronicle) (xs : List Mark) (steps later : List ℕ) → behind chronicle steps ++ behind (extended chronicle (entries xs)) later ≡ behind chronicle (steps ++ map (λ (q : ℕ). length xs + q) later)
places_append chronicle xs steps later =
    ap (λ (ps : List ℕ). behind chronicle steps ++ ps) (behind_more chronicle xs later)
    ∙ sym (map-append (λ (step : ℕ). length chronicle.entries + step) steps (map (λ (q : ℕ). length xs + q) later))

-- With no more entries and places.
as_they_are : (chronicle : Chronicle) (places : List ℕ) (turns : List Turn) (carried : List ℕ) (core : Core) → Stands chronicle places turns carried core → Stands (extended chronicle []) (places ++ []) turns carried core
as_they_are chronicle places turns carried core s =
    subst (λ (es : List Entry). Stands (record chronicle { entries = es }) (places ++ []) turns carried core) (sym (append-nil chronicle.entries))
    (subst (λ (ps : List ℕ). Stands chronicle ps turns carried core) (sym (append-nil places)) s)

module _ {D : Type 0} (stands : D → Chronicle → Type 0) (went : D → List Mark → D → Type 0) where
  -- A turn of the core.
  pub serve_turned : (old new : D) (before after : Core) (turns : List Turn) → after.end.config ≡ before.end.config → Turned stands went old new before turns after → ServeRan stands went before old turns [] after new
  serve_turned old new before after turns config t = record {
    config = config;
    grows = record {
      others = t.others;
      theirs = t.theirs;
      grows = t.grows;
      steps = t.steps;
      rise = t.rise;
      holds = λ chronicle places begun carried stood s.
          subst (λ (os : List ℕ). Stands (extended chronicle (entries t.others)) (places ++ behind chronicle t.steps) (begun ++ turns) os after) (sym (append-nil carried)) (t.holds chronicle places begun carried stood s);
    };
  }

module _ {D : Type 0} (stands : D → Chronicle → Type 0) (went : D → List Mark → D → Type 0)
    (stays : (desk : D) → went desk [] desk) (follows : (one two three : D) (first second : List Mark) → went one first two → went two second three → went one (first ++ second) three)
    (carries : (old new : D) (marks : List Mark) (chronicle : Chronicle) → went old marks new → stands old chronicle → stands new (extended chronicle (entries marks))) where
  -- The desk was not asked.
  pub serve_still : (before after : Core) (desk : D) (turns : List Turn) (octets : List ℕ) → after.end.config ≡ before.end.config
      → ((chronicle : Chronicle) (places : List ℕ) (begun : List Turn) (carried : List ℕ) → Stood chronicle places begun carried before → Stands chronicle places (begun ++ turns) (carried ++ octets) after)
      → ServeRan stands went before desk turns octets after desk
  serve_still before after desk turns octets config so = record {
    config = config;
    grows = record {
      others = [];
      theirs = tt;
      grows = stays desk;
      steps = [];
      rise = tt;
      holds = λ chronicle places begun carried stood s. as_they_are chronicle places (begun ++ turns) (carried ++ octets) after (so chronicle places begun carried s);
    };
  }

  -- Nothing came of nothing.
  pub serve_none : (core : Core) (desk : D) → ServeRan stands went core desk [] [] core desk
  serve_none core desk =
      serve_still core core desk [] [] refl
      (λ chronicle places begun carried s.
      subst₂ (λ (ts : List Turn) (os : List ℕ). Stands chronicle places ts os core) (sym (append-nil begun)) (sym (append-nil carried)) (stands_by chronicle places begun carried core (over core) s))

  -- What came of both.
  pub serve_then : (one two three : Core) (first second third : D) (turns more : List Turn) (octets rest : List ℕ) → ServeRan stands went one first turns octets two second → over two ≢ Some end.Memory
      → ServeRan stands went two second more rest three third → ServeRan stands went one first (turns ++ more) (octets ++ rest) three third
  serve_then one two three first second third turns more octets rest a other b = record {
    config = b.config ∙ a.config;
    grows = record {
      others = a.grows.others ++ b.grows.others;
      theirs = others_append a.grows.others b.grows.others a.grows.theirs b.grows.theirs;
      grows = follows first second third a.grows.others b.grows.others a.grows.grows b.grows.grows;
      steps = a.grows.steps ++ map (λ (q : ℕ). length a.grows.others + q) b.grows.steps;
      rise =
          subst (λ (n : ℕ). Rise 0 n (a.grows.steps ++ map (λ (q : ℕ). length a.grows.others + q) b.grows.steps)) (sym (length-append a.grows.others b.grows.others))
          (rise_join 0 (length a.grows.others) (length b.grows.others) a.grows.steps b.grows.steps (omega arith) a.grows.rise b.grows.rise);
      holds = λ chronicle places begun carried stood s. all chronicle places begun carried stood s;
    };
  }
    where
      all : (chronicle : Chronicle) (places : List ℕ) (begun : List Turn) (carried : List ℕ) → stands first chronicle → Stood chronicle places begun carried one
          → Stands (extended chronicle (entries (a.grows.others ++ b.grows.others))) (places ++ behind chronicle (a.grows.steps ++ map (λ (q : ℕ). length a.grows.others + q) b.grows.steps))
          (begun ++ (turns ++ more)) (carried ++ (octets ++ rest)) three
      all chronicle places begun carried stood s =
          let longer : Chronicle = extended chronicle (entries a.grows.others) in
          let here = stood_so longer (places ++ behind chronicle a.grows.steps) (begun ++ turns) (carried ++ octets) two other (a.grows.holds chronicle places begun carried stood s) in
          let there = b.grows.holds longer (places ++ behind chronicle a.grows.steps) (begun ++ turns) (carried ++ octets) (carries first second a.grows.others chronicle a.grows.grows stood) here in
          subst (λ (ts : List Turn).
          Stands (extended chronicle (entries (a.grows.others ++ b.grows.others))) (places ++ behind chronicle (a.grows.steps ++ map (λ (q : ℕ). length a.grows.others + q) b.grows.steps)) ts (carried ++ (octets ++ rest)) three)
          (append_assoc begun turns more)
          (subst₂ (λ (ps os : List ℕ). Stands (extended chronicle (entries (a.grows.others ++ b.grows.others))) ps ((begun ++ turns) ++ more) os three)
          (append_assoc places (behind chronicle a.grows.steps) (behind longer b.grows.steps) ∙ ap (λ (ps : List ℕ). places ++ ps) (places_append chronicle a.grows.others a.grows.steps b.grows.steps))
          (append_assoc carried octets rest)
          (subst (λ (k : Chronicle). Stands k ((places ++ behind chronicle a.grows.steps) ++ behind longer b.grows.steps) ((begun ++ turns) ++ more) ((carried ++ octets) ++ rest) three)
          (extended_more chronicle (entries a.grows.others) (entries b.grows.others) ∙ ap (λ (es : List Entry). extended chronicle es) (sym (entries_append a.grows.others b.grows.others)))
          there))

-- ---- a validator

-- A turn of the core.
pub follow_turned : (old new : Held) (before after : Inner) (turns : List Turn) → after.end.config ≡ before.end.config → follow.Turned before old turns after new → FollowRan before old turns [] after new
follow_turned old new before after turns config t = record {
  config = config;
  stands = λ mirror begun carried s. subst (λ (os : List ℕ). StoodOrFell before.end.config mirror (begun ++ turns) os after new) (sym (append-nil carried)) (t mirror begun carried s);
}

pub follow_none : (core : Inner) (mirror : Held) → FollowRan core mirror [] [] core mirror
follow_none core mirror = record {
  config = refl;
  stands = λ begun-with begun carried s. inl (
      subst (λ (ts : List Turn). follow.Stood core.end.config begun-with ts (carried ++ []) core mirror) (sym (append-nil begun))
      (subst (λ (os : List ℕ). follow.Stood core.end.config begun-with begun os core mirror) (sym (append-nil carried)) s)
      );
}

pub follow_then : (one two three : Inner) (first second third : Held) (turns more : List Turn) (octets rest : List ℕ) → FollowRan one first turns octets two second → over_of two ≢ Some end.Memory
    → FollowRan two second more rest three third → FollowRan one first (turns ++ more) (octets ++ rest) three third
follow_then one two three first second third turns more octets rest a other b = record {
  config = b.config ∙ a.config;
  stands = λ mirror begun carried s.
      subst (λ (ts : List Turn). StoodOrFell one.end.config mirror ts (carried ++ (octets ++ rest)) three third) (append_assoc begun turns more)
      (subst (λ (os : List ℕ). StoodOrFell one.end.config mirror ((begun ++ turns) ++ more) os three third) (append_assoc carried octets rest)
      (elim (a.stands mirror begun carried s) [
        | inl here ↦
            subst (λ (c : FollowConfig). StoodOrFell c mirror ((begun ++ turns) ++ more) ((carried ++ octets) ++ rest) three third) a.config
            (b.stands mirror (begun ++ turns) (carried ++ octets) (subst (λ (c : FollowConfig). follow.Stood c mirror (begun ++ turns) (carried ++ octets) two second) (sym a.config) here))
        | inr fell ↦ absurd (other fell.over)
      ]));
}
