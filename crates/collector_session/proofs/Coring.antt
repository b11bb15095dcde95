-- A turn of a core after others.
use Rattle.std.proofs.Common.{◌≡◌, ℕ, ◌+◌, true, List, [], ◌∷◌, ◌++◌, Option, Some, None, inr, length, refl, sym, ap, subst, subst₂, ◌∙◌, append_assoc, append-nil, arith, length-append}
use Rattle.wire_base.specs.Turns.{Turn, Octet, Idle, Ended, turns_of}
use Rattle.pb_batch.specs.Written.{written}
use Rattle.pb_batch.specs.declared.kind.BatchKind.TheVariants as kinds
use Rattle.collector_core.specs.declared.chronicle.Mark.{Mark}
use Rattle.collector_core.specs.Chronicle.{Chronicle, extended}
use Rattle.collector_core.specs.Desks.{Rise, Within, behind, entries}
use Rattle.collector_core.proofs.Marks.{behind_within, within_append, within_more}
use Rattle.session_talk.specs.Course.{Answers, Gives, Breaks}
use Rattle.session_hear.specs.Step.{Step}
use Rattle.session_hear.specs.Hearing.{Hearing, Hears, Heard, heard, heard_from, octets_in}
use Rattle.session_hear.specs.Serving.{serve}
use Rattle.session_hear.proofs.Hearing.{heard_append}
use Rattle.session_hear.proofs.Serving.{serve_breaks, serve_gives}
use Rattle.session_hear.proofs.Turning.{hearing_more}
use Rattle.session_rules.specs.declared.config.ServeConfig.{ServeConfig}
use Rattle.session_rules.specs.declared.end.SessionEnd.{SessionEnd}
use Rattle.session_rules.specs.declared.end.SessionEnd.TheVariants as end
use Rattle.session_rules.specs.Clauses.{Talks}
use Rattle.session_rules.specs.Messages.{client_batch}
use Rattle.session_rules.specs.Questions.{Question, Reply, at_places}
use Rattle.session_rules.specs.ServeRules.{note, react, session}
use Rattle.session_rules.specs.Serving.{Notes, Stand, begin, nothing_noted}
use Rattle.session_rules.proofs.Desking.{gives_longer}
use Rattle.collector_session.specs.Cores.{Core, Fell, StandsBy, Stood, Turned, hearing, over}
use Rattle.collector_session.specs.Doing.{standing}

-- ---- octets among turns

pub octets_more : (turns more : List Turn) → octets_in (turns ++ more) ≡ octets_in turns + octets_in more
octets_more [] more = let same : octets_in more ≡ 0 + octets_in more = omega arith in same
octets_more (Octet octet ∷ turns) more = let same : octets_in (turns ++ more) + 1 ≡ octets_in turns + 1 + octets_in more = omega (arith, octets_more turns more) in same
octets_more (Idle ∷ turns) more = octets_more turns more
octets_more (Ended ∷ turns) more = octets_more turns more

pub octets_of_piece : (piece : List ℕ) → octets_in (turns_of piece) ≡ length piece
octets_of_piece [] = refl
octets_of_piece (octet ∷ octets) = let same : octets_in (turns_of octets) + 1 ≡ length (octet ∷ octets) = omega (arith, octets_of_piece octets) in same

-- ---- the session up to some turns, and then in others

steps_more : (limit : ℕ) (turns more : List Turn) (hearing : Hearing) → (heard true limit turns).1 ≡ hearing → (heard true limit (turns ++ more)).0 ≡ (heard true limit turns).0 ++ (heard_from true limit hearing more).0
steps_more limit turns more hearing is =
    ap (λ (h : Heard). h.0) (heard_append true limit (Hears [] 0 0) turns more) ∙ ap (λ (g : Hearing). (heard true limit turns).0 ++ (heard_from true limit g more).0) is

pub session_gives : (c : ServeConfig) (answers : Answers Question Reply) (turns more : List Turn) (now next : Stand) (hearing : Hearing) (places later out rest : List ℕ) → (heard true c.octets turns).1 ≡ hearing
    → Gives answers (session c turns) places out now → Gives answers (serve (react c) note now (heard_from true c.octets hearing more).0) later rest next
    → Gives answers (session c (turns ++ more)) (places ++ later) (out ++ rest) next
session_gives c answers turns more now next hearing places later out rest is first second = (
  first.0 ++ rest,
  ap (λ (o : List ℕ). o ++ rest) first.1 ∙ append_assoc (written (client_batch kinds.Cdata [])) first.0 rest,
  subst (λ (steps : List Step). Gives answers (serve (react c) note begin steps) (places ++ later) (first.0 ++ rest) next) (sym (steps_more c.octets turns more hearing is))
      (serve_gives (react c) note answers begin now next (heard true c.octets turns).0 (heard_from true c.octets hearing more).0 places later first.0 rest first.2 second),
)

session_breaks : (c : ServeConfig) (answers : Answers Question Reply) (turns more : List Turn) (now : Stand) (noted : Notes) (hearing : Hearing) (places later out rest : List ℕ) → (heard true c.octets turns).1 ≡ hearing
    → Gives answers (session c turns) places out now → Breaks answers (note now) (serve (react c) note now (heard_from true c.octets hearing more).0) later rest noted
    → Breaks answers nothing_noted (session c (turns ++ more)) (places ++ later) (out ++ rest) noted
session_breaks c answers turns more now noted hearing places later out rest is first second = inr (
  first.0 ++ rest,
  ap (λ (o : List ℕ). o ++ rest) first.1 ∙ append_assoc (written (client_batch kinds.Cdata [])) first.0 rest,
  subst (λ (steps : List Step). Breaks answers nothing_noted (serve (react c) note begin steps) (places ++ later) (first.0 ++ rest) noted) (sym (steps_more c.octets turns more hearing is))
      (serve_breaks (react c) note answers begin now (heard true c.octets turns).0 (heard_from true c.octets hearing more).0 places later first.0 rest noted first.2 second),
)

-- ---- memory may run out after the last step

pub falls : (chronicle : Chronicle) (places : List ℕ) (turns : List Turn) (carried : List ℕ) (core : Core) → Stood chronicle places turns carried core → Fell chronicle places turns carried core
falls chronicle places turns carried core s = record {
  within = s.within;
  breaks =
      subst₂ (λ (ps os : List ℕ). Breaks (at_places chronicle) nothing_noted (session core.end.config turns) ps os (note (standing core.end))) (append-nil places) (append-nil (carried ++ core.end.out))
      (subst (λ (ts : List Turn). Breaks (at_places chronicle) nothing_noted (session core.end.config ts) (places ++ []) ((carried ++ core.end.out) ++ []) (note (standing core.end))) (append-nil turns)
      (session_breaks core.end.config (at_places chronicle) turns [] (standing core.end) (note (standing core.end)) (heard true core.end.config.octets turns).1 places [] (carried ++ core.end.out) [] refl s.gives (refl, refl, refl)));
  sent = s.sent;
  received = s.received;
}

-- By how it ended.
pub stands_by : (chronicle : Chronicle) (places : List ℕ) (turns : List Turn) (carried : List ℕ) (core : Core) (by : Option SessionEnd) → Stood chronicle places turns carried core → StandsBy by chronicle places turns carried core
stands_by chronicle places turns carried core None s = s
stands_by chronicle places turns carried core (Some end.Closed) s = s
stands_by chronicle places turns carried core (Some end.PeerClosed) s = s
stands_by chronicle places turns carried core (Some (end.PeerError vendor code)) s = s
stands_by chronicle places turns carried core (Some (end.Refused code offset)) s = s
stands_by chronicle places turns carried core (Some end.Ended) s = s
stands_by chronicle places turns carried core (Some (end.Torn have)) s = s
stands_by chronicle places turns carried core (Some end.LinkFault) s = s
stands_by chronicle places turns carried core (Some (end.IdleOut turns_idle)) s = s
stands_by chronicle places turns carried core (Some end.Enough) s = s
stands_by chronicle places turns carried core (Some end.Memory) s = falls chronicle places turns carried core s

-- ---- turns

module _ {D : Type 0} (stands : D → Chronicle → Type 0) (went : D → List Mark → D → Type 0) where
  longer_within : (chronicle : Chronicle) (others : List Mark) (places steps : List ℕ) → Rise 0 (length others) steps → Within (length chronicle.entries) places
      → Within (length (extended chronicle (entries others)).entries) (places ++ behind chronicle steps)
  longer_within chronicle others places steps rise within =
      let longer : Chronicle = extended chronicle (entries others) in
      within_append (length longer.entries) places (behind chronicle steps)
      (within_more (length chronicle.entries) (length longer.entries) places (omega (arith, length-append chronicle.entries (entries others))) within)
      (behind_within chronicle others 0 steps rise)

  -- What the rules say to further turns was done, to the end.
  pub turned : (old new : D) (before after : Core) (more : List Turn) → over before ≡ None
      → Talks stands went old new before.end.out after.end.out (λ chronicle places out.
      Gives (at_places chronicle) (serve (react before.end.config) note (standing before.end) (heard_from true before.end.config.octets (hearing before) more).0) places out (standing after.end))
      → after.end.config ≡ before.end.config → after.end.standing.record.sent ≡ before.end.standing.record.sent
      → after.end.standing.record.received ≡ before.end.standing.record.received + octets_in more
      → (over after ≡ None → (heard_from true before.end.config.octets (hearing before) more).1 ≡ hearing after) → Turned stands went old new before more after
  turned old new before after more live t config sent received hears = record {
    others = t.others;
    theirs = t.theirs;
    grows = t.grows;
    steps = t.steps;
    rise = t.rise;
    holds = λ chronicle places turns carried stood s.
        let longer : Chronicle = extended chronicle (entries t.others) in
        let later : List ℕ = behind chronicle t.steps in
        stands_by longer (places ++ later) (turns ++ more) carried after (over after) (record {
          within = longer_within chronicle t.others places t.steps t.rise s.within;
          gives =
              subst₂ (λ (c : ServeConfig) (o : List ℕ). Gives (at_places longer) (session c (turns ++ more)) (places ++ later) o (standing after.end)) (sym config)
              (append_assoc carried before.end.out t.out ∙ ap (λ (o : List ℕ). carried ++ o) (sym t.is))
              (session_gives before.end.config (at_places longer) turns more (standing before.end) (standing after.end) (hearing before) places later (carried ++ before.end.out) t.out (s.hears live)
              (gives_longer chronicle (entries t.others) (session before.end.config turns) places (carried ++ before.end.out) (standing before.end) s.within s.gives) (t.gives chronicle stood));
          hears = λ none.
              subst (λ (c : ServeConfig). (heard true c.octets (turns ++ more)).1 ≡ hearing after) (sym config)
              (hearing_more true before.end.config.octets turns more (hearing before) (s.hears live) ∙ hears none);
          sent = sent ∙ s.sent;
          received = received ∙ ap (λ (n : ℕ). n + octets_in more) s.received ∙ sym (octets_more turns more);
        });
  }

  -- It was done until memory ran out.
  pub turned_lost : (old new : D) (before after : Core) (more : List Turn) → over before ≡ None
      → Talks stands went old new before.end.out after.end.out (λ chronicle places out.
      Breaks (at_places chronicle) (note (standing before.end)) (serve (react before.end.config) note (standing before.end) (heard_from true before.end.config.octets (hearing before) more).0) places out (note (standing after.end)))
      → after.end.config ≡ before.end.config → after.end.standing.record.sent ≡ before.end.standing.record.sent
      → after.end.standing.record.received ≡ before.end.standing.record.received + octets_in more
      → over after ≡ Some end.Memory → Turned stands went old new before more after
  turned_lost old new before after more live t config sent received ended = record {
    others = t.others;
    theirs = t.theirs;
    grows = t.grows;
    steps = t.steps;
    rise = t.rise;
    holds = λ chronicle places turns carried stood s.
        let longer : Chronicle = extended chronicle (entries t.others) in
        let later : List ℕ = behind chronicle t.steps in
        subst (λ (by : Option SessionEnd). StandsBy by longer (places ++ later) (turns ++ more) carried after) (sym ended) (record {
          within = longer_within chronicle t.others places t.steps t.rise s.within;
          breaks =
              subst₂ (λ (c : ServeConfig) (o : List ℕ). Breaks (at_places longer) nothing_noted (session c (turns ++ more)) (places ++ later) o (note (standing after.end))) (sym config)
              (append_assoc carried before.end.out t.out ∙ ap (λ (o : List ℕ). carried ++ o) (sym t.is))
              (session_breaks before.end.config (at_places longer) turns more (standing before.end) (note (standing after.end)) (hearing before) places later (carried ++ before.end.out) t.out (s.hears live)
              (gives_longer chronicle (entries t.others) (session before.end.config turns) places (carried ++ before.end.out) (standing before.end) s.within s.gives) (t.gives chronicle stood));
          sent = sent ∙ s.sent;
          received = received ∙ ap (λ (n : ℕ). n + octets_in more) s.received ∙ sym (octets_more turns more);
        });
  }
