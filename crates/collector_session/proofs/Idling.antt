-- What a core does at an idle turn, at the end of its link, and as octets are carried.
use Rattle.std.proofs.Common.{◌≡◌, ℕ, ◌+◌, ◌≤◌, true, false, List, [], ◌∷◌, ◌++◌, Option, Some, None, length, take, drop, refl, sym, ap, subst, subst₂, ◌∙◌, append_assoc, append-nil, arith, length-append, length-take, take-append-drop}
use Rattle.wire_base.specs.Turns.{Turn, Idle, Ended}
use Rattle.collector_core.specs.declared.chronicle.Mark.{Mark}
use Rattle.collector_core.specs.Chronicle.{Chronicle}
use Rattle.session_talk.specs.Talk.{Done}
use Rattle.session_talk.specs.Course.{Breaks, Gives}
use Rattle.session_hear.specs.Hearing.{Hears}
use Rattle.session_hear.specs.Step.{Cut, Quiet}
use Rattle.session_hear.proofs.Serving.{one_gives}
use Rattle.session_rules.specs.declared.end.SessionEnd.{SessionEnd}
use Rattle.session_rules.specs.declared.end.SessionEnd.TheVariants as final
use Rattle.session_rules.specs.Numbers.{counted_on}
use Rattle.session_rules.specs.Questions.{at_places}
use Rattle.session_rules.specs.ServeRules.{Serves, note, react, session, steps_unless}
use Rattle.session_rules.specs.Serving.{ends, nothing_noted}
use Rattle.collector_session.specs.declared.end.ServeEnd.{ServeEnd}
use Rattle.collector_session.specs.Cores.{Core, Fell, Stands, StandsBy, Stood, Turned, cut_end, hearing, over}
use Rattle.collector_session.specs.Doing.{Did, standing}
use Rattle.collector_session.proofs.Coring.{octets_more, session_gives, turned, turned_lost}
use Rattle.collector_session.proofs.Pieces.{ended, rests_as}

-- ---- an idle turn

module _ {D : Type 0} (stands : D → Chronicle → Type 0) (went : D → List Mark → D → Type 0) where
  -- What the rules say to it was done.
  pub idle_turned : (old new : D) (before : Core) (last : ServeEnd) → over before ≡ None → Did stands went before.end old (Quiet (before.quiet + 1) ∷ []) last new true
      → Turned stands went old new before (Idle ∷ []) (record { end = last; feed = before.feed; quiet = before.quiet + 1 })
  idle_turned old new before last live did =
      turned stands went old new before (record { end = last; feed = before.feed; quiet = before.quiet + 1 }) (Idle ∷ []) live did.talks did.config did.sent (omega (arith, did.received))
      (λ none. ap (λ (n : ℕ). Hears before.feed.feeding.octets (before.quiet + 1) n) (sym did.received))

  -- It was done until memory ran out.
  pub idle_lost : (old new : D) (before : Core) (last : ServeEnd) → over before ≡ None → Did stands went before.end old (Quiet (before.quiet + 1) ∷ []) last new false
      → Turned stands went old new before (Idle ∷ []) (record { end = ended last final.Memory; feed = before.feed; quiet = before.quiet + 1 })
  idle_lost old new before last live did =
      turned_lost stands went old new before (record { end = ended last final.Memory; feed = before.feed; quiet = before.quiet + 1 }) (Idle ∷ []) live did.talks did.config did.sent (omega (arith, did.received)) refl

-- ---- the end of a link

cut_so : (end : ServeEnd) (have : ℕ) (by : SessionEnd) → end.standing.over ≡ None → by ≡ cut_end have → react end.config (standing end) (Cut have) ≡ Done (standing (ended end by))
cut_so end have by live is =
    ap (λ (o : Option SessionEnd). steps_unless end.config (standing end) (Cut have) o) live
    ∙ ap (λ (b : SessionEnd). (rests_as (ends (standing end) b))) (sym is)

pub cut_stood : (chronicle : Chronicle) (places : List ℕ) (turns : List Turn) (carried : List ℕ) (before : Core) (by : SessionEnd) → over before ≡ None
    → by ≡ cut_end (length before.feed.feeding.octets) → Stood chronicle places turns carried before
    → Stood chronicle places (turns ++ Ended ∷ []) carried (record before { end = ended before.end by })
cut_stood chronicle places turns carried before by live is s = record {
  within = s.within;
  gives =
      subst₂ (λ (ps os : List ℕ). Gives (at_places chronicle) (session before.end.config (turns ++ Ended ∷ [])) ps os (standing (ended before.end by))) (append-nil places) (append-nil (carried ++ before.end.out))
      (session_gives before.end.config (at_places chronicle) turns (Ended ∷ []) (standing before.end) (standing (ended before.end by)) (hearing before) places [] (carried ++ before.end.out) [] (s.hears live) s.gives
      (one_gives (react before.end.config) note (at_places chronicle) (standing before.end) (standing (ended before.end by)) (Cut (length before.feed.feeding.octets)) [] []
      (subst (λ (talk : Serves). Gives (at_places chronicle) talk [] [] (standing (ended before.end by))) (sym (cut_so before.end (length before.feed.feeding.octets) by live is)) (refl, refl, refl))));
  hears = λ none. absurd cc;
  sent = s.sent;
  received = omega (arith, s.received, octets_more turns (Ended ∷ []));
}

-- ---- octets that are carried

-- The core without the first of the octets that waited.
abbrev pub gave : Core → ℕ → ℕ → Core
gave core count sent = record core { end = record core.end { standing = record core.end.standing { «record» = record core.end.standing.record { sent = sent } }; out = drop count core.end.out } }

carried_more : (out carried : List ℕ) (count : ℕ) → carried ++ out ≡ (carried ++ take count out) ++ drop count out
carried_more out carried count = ap (λ (o : List ℕ). carried ++ o) (sym (take-append-drop count out)) ∙ sym (append_assoc carried (take count out) (drop count out))

sent_more : (out carried : List ℕ) (count before sent : ℕ) → count ≤ length out → sent ≡ counted_on before count → before ≡ counted_on 0 (length carried) → sent ≡ counted_on 0 (length (carried ++ take count out))
sent_more out carried count before sent within is so = omega (arith, within, is, so, length-append carried (take count out), length-take count out)

module _ (chronicle : Chronicle) (places : List ℕ) (turns : List Turn) (carried : List ℕ) (before : Core) (count sent : ℕ) (within : count ≤ length before.end.out) (is : sent ≡ counted_on before.end.standing.record.sent count) where
  stood_carried : Stood chronicle places turns carried before → Stood chronicle places turns (carried ++ take count before.end.out) (gave before count sent)
  stood_carried s = record {
    within = s.within;
    gives = subst (λ (o : List ℕ). Gives (at_places chronicle) (session before.end.config turns) places o (standing before.end)) (carried_more before.end.out carried count) s.gives;
    hears = s.hears;
    sent = sent_more before.end.out carried count before.end.standing.record.sent sent within is s.sent;
    received = s.received;
  }

  fell_carried : Fell chronicle places turns carried before → Fell chronicle places turns (carried ++ take count before.end.out) (gave before count sent)
  fell_carried s = record {
    within = s.within;
    breaks = subst (λ (o : List ℕ). Breaks (at_places chronicle) nothing_noted (session before.end.config turns) places o (note (standing before.end))) (carried_more before.end.out carried count) s.breaks;
    sent = sent_more before.end.out carried count before.end.standing.record.sent sent within is s.sent;
    received = s.received;
  }

  by_end : (by : Option SessionEnd) → StandsBy by chronicle places turns carried before → StandsBy by chronicle places turns (carried ++ take count before.end.out) (gave before count sent)
  by_end None s = stood_carried s
  by_end (Some final.Closed) s = stood_carried s
  by_end (Some final.PeerClosed) s = stood_carried s
  by_end (Some (final.PeerError vendor code)) s = stood_carried s
  by_end (Some (final.Refused code offset)) s = stood_carried s
  by_end (Some final.Ended) s = stood_carried s
  by_end (Some (final.Torn have)) s = stood_carried s
  by_end (Some final.LinkFault) s = stood_carried s
  by_end (Some (final.IdleOut idle)) s = stood_carried s
  by_end (Some final.Enough) s = stood_carried s
  by_end (Some final.Memory) s = fell_carried s

  pub stands_carried : Stands chronicle places turns carried before → Stands chronicle places turns (carried ++ take count before.end.out) (gave before count sent)
  stands_carried s = by_end (over before) s
