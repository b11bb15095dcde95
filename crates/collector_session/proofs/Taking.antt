-- What the calls of a core do, in the words of the calls.
use Rattle.std.proofs.Common.{◌≡◌, ◌≢◌, ℕ, ◌+◌, ◌-◌, ◌≤◌, ◌<◌, Bool, true, false, List, [], ◌∷◌, ◌++◌, Option, Some, None, length, take, refl, sym, ap, subst, subst₂, ◌∙◌, arith}
use Rattle.std.specs.Prelude.{is_some, min}
use Rattle.std.proofs.lemmas.List.{take_all, take_min}
use Rattle.wire_base.specs.Turns.{Idle, turns_of}
use Rattle.wire_base.specs.Feeding.{More}
use Rattle.pb_batch.specs.Feeding.{Feed}
use Rattle.pb_batch.specs.Front.{front_of}
use Rattle.collector_core.specs.declared.chronicle.Mark.{Mark}
use Rattle.collector_core.specs.Chronicle.{Chronicle, extended}
use Rattle.collector_core.specs.Desks.{entries}
use Rattle.session_talk.specs.Course.{Gives}
use Rattle.session_hear.specs.Step.{Quiet}
use Rattle.session_hear.specs.Hearing.{Hears, heard_from, heard_octets}
use Rattle.session_hear.specs.Serving.{serve}
use Rattle.session_rules.specs.declared.config.ServeConfig.{ServeConfig}
use Rattle.session_rules.specs.declared.end.SessionEnd.{SessionEnd}
use Rattle.session_rules.specs.declared.end.SessionEnd.TheVariants as final
use Rattle.session_rules.specs.Questions.{at_places}
use Rattle.session_rules.specs.ServeRules.{note, react}
use Rattle.session_rules.proofs.Desking.{talks_none}
use Rattle.collector_session.specs.declared.end.ServeEnd.{ServeEnd}
use Rattle.collector_session.specs.Cores.{Core, IsCore, Turned, hearing, over, used}
use Rattle.collector_session.specs.Doing.{Did, IsReady, standing}
use Rattle.collector_session.proofs.Coring.{turned}
use Rattle.collector_session.proofs.Idling.{idle_lost, idle_turned}
use Rattle.collector_session.proofs.Pieces.{Spends, ended, piece_core, piece_lost, piece_turned, took}

-- What is there is one.
some_one : (one other : SessionEnd) → Some one ≡ Some other → one ≡ other
some_one one other is = ap (λ (by : Option SessionEnd). or_else by) is
  where
    or_else : Option SessionEnd → SessionEnd
    or_else (Some by) = by
    or_else None = one

-- A core whose session is over is sound where its feed is.
pub over_core : (end : ServeEnd) (by : SessionEnd) (feed : Feed) (quiet : ℕ) → feed.from_server ≡ true → front_of feed.from_server feed.feeding.octets ≡ More
    → end.standing.record.taken ≡ [] → by ≢ final.LinkFault → IsCore (record { end = ended end by; feed = feed; quiet = quiet })
over_core end by feed quiet server torn no-answers own = record {
  server = server;
  torn = torn;
  ready = λ none. absurd cc;
  feeding = λ none. absurd cc;
  room = λ none. absurd cc;
  patient = λ none. absurd cc;
  taken = no-answers;
  own = λ is. own (some_one by final.LinkFault is);
}

-- The end once that many octets were taken.
abbrev pub with_taken : ServeEnd → ℕ → ServeEnd
with_taken end taken = record end { standing = record end.standing { «record» = record end.standing.record { received = taken } } }

-- ---- an idle turn

-- The core after it.
abbrev pub rested : Core → ServeEnd → ℕ → Core
rested before last turns = record { end = last; feed = before.feed; quiet = turns }

pub rested_core : (before : Core) (last : ServeEnd) (turns : ℕ) → IsCore before → over before ≡ None → last.config ≡ before.end.config → last.standing.record.received ≡ before.end.standing.record.received
    → last.standing.record.taken ≡ before.end.standing.record.taken → (over before ≢ Some final.LinkFault → last.standing.over ≢ Some final.LinkFault)
    → (last.standing.over ≡ None → IsReady last) → (last.standing.over ≡ None → turns < before.end.config.idle) → IsCore (rested before last turns)
rested_core before last turns core live config received taken own ready patient = record {
  server = core.server;
  torn = core.torn;
  ready = ready;
  feeding = λ none. core.feeding live;
  room = λ none. omega (arith, core.room live, received, ap (λ (c : ServeConfig). c.octets) config);
  patient = λ none. omega (arith, patient none, ap (λ (c : ServeConfig). c.idle) config);
  taken = taken ∙ core.taken;
  own = own core.own;
}

-- ---- what is used of a piece

pub used_so : (core : Core) (piece : List ℕ) (count : ℕ) → count ≡ min (core.end.config.octets - core.end.standing.record.received) (length piece) → take count piece ≡ used core piece
used_so core piece count is = ap (λ (n : ℕ). take n piece) is ∙ take_min (core.end.config.octets - core.end.standing.record.received) piece

module _ {D : Type 0} (stands : D → Chronicle → Type 0) (went : D → List Mark → D → Type 0)
    (stays : (desk : D) → went desk [] desk) (follows : (one two three : D) (first second : List Mark) → went one first two → went two second three → went one (first ++ second) three)
    (carries : (old new : D) (marks : List Mark) (chronicle : Chronicle) → went old marks new → stands old chronicle → stands new (extended chronicle (entries marks))) where
  -- Without a turn nothing is done.
  pub none_turned : (desk : D) (core : Core) → over core ≡ None → Turned stands went desk desk core [] core
  none_turned desk core live =
      turned stands went desk desk core core [] live
      (talks_none stands went stays follows carries desk core.end.out
      (λ chronicle places out. Gives (at_places chronicle) (serve (react core.end.config) note (standing core.end) (heard_from true core.end.config.octets (hearing core) []).0) places out (standing core.end))
      (λ chronicle. (refl, refl, refl))) refl refl (omega arith) (λ none. refl)

  pub empty_turned : (desk : D) (core : Core) (piece : List ℕ) → length piece ≡ 0 → over core ≡ None → Turned stands went desk desk core (turns_of (used core piece)) core
  empty_turned desk core [] none live =
      subst (λ (xs : List ℕ). Turned stands went desk desk core (turns_of xs) core) (sym (take_all (core.end.config.octets - core.end.standing.record.received) [] (omega arith))) (none_turned desk core live)
  empty_turned desk core (octet ∷ octets) none live = absurd (omega (arith, none))

  pub rested_turned : (old new : D) (before : Core) (last : ServeEnd) (turns : ℕ) → turns ≡ before.quiet + 1 → over before ≡ None → Did stands went before.end old (Quiet turns ∷ []) last new true
      → Turned stands went old new before (Idle ∷ []) (rested before last turns)
  rested_turned old new before last turns is live did =
      subst (λ (n : ℕ). Did stands went before.end old (Quiet n ∷ []) last new true → Turned stands went old new before (Idle ∷ []) (rested before last n)) (sym is) (λ so. idle_turned stands went old new before last live so) did

  pub rested_lost : (old new : D) (before : Core) (last : ServeEnd) (turns : ℕ) → turns ≡ before.quiet + 1 → over before ≡ None → Did stands went before.end old (Quiet turns ∷ []) last new false
      → Turned stands went old new before (Idle ∷ []) (rested before (ended last final.Memory) turns)
  rested_lost old new before last turns is live did =
      subst (λ (n : ℕ). Did stands went before.end old (Quiet n ∷ []) last new false → Turned stands went old new before (Idle ∷ []) (rested before (ended last final.Memory) n)) (sym is)
      (λ so. idle_lost stands went old new before last live so) did

  -- ---- a piece

  module _ (old new : D) (before : Core) (held : ServeEnd) (feed : Feed) (piece : List ℕ) (core : IsCore before) (live : over before ≡ None)
      (within : before.end.standing.record.received + length piece ≤ before.end.config.octets) (taken : ℕ) (is : taken ≡ before.end.standing.record.received + length piece) where
    -- The octets of the piece were heard, to the end or until memory ran out.
    abbrev pub Heard : Bool → Type 0
    Heard well = (quiet count : ℕ) → Did stands went (with_taken before.end taken) old (heard_octets before.feed.from_server (Hears before.feed.feeding.octets quiet count) piece).0 held new well

    heard_so : (well : Bool) → Heard well → (quiet count : ℕ) → Did stands went (took before.end (length piece)) old (heard_octets true (Hears before.feed.feeding.octets quiet count) piece).0 held new well
    heard_so well did quiet count =
        subst₂ (λ (server : Bool) (n : ℕ). Did stands went (with_taken before.end n) old (heard_octets server (Hears before.feed.feeding.octets quiet count) piece).0 held new well) core.server is (did quiet count)

    pub took_lost : Heard false → Turned stands went old new before (turns_of piece) (record { end = ended held final.Memory; feed = feed; quiet = 0 })
    took_lost did = piece_lost stands went stays follows carries old new before held feed piece core live within (heard_so false did)

    module _ (did : Heard true) (hears : is_some held.standing.over ≡ false → (quiet count : ℕ)
        → (heard_octets before.feed.from_server (Hears before.feed.feeding.octets quiet count) piece).1 ≡ Hears feed.feeding.octets 0 (count + length piece)) where
      hears_so : is_some held.standing.over ≡ false → (quiet count : ℕ) → (heard_octets true (Hears before.feed.feeding.octets quiet count) piece).1 ≡ Hears feed.feeding.octets 0 (count + length piece)
      hears_so on quiet count =
          subst (λ (server : Bool). (heard_octets server (Hears before.feed.feeding.octets quiet count) piece).1 ≡ Hears feed.feeding.octets 0 (count + length piece)) core.server (hears on quiet count)

      pub took_turned : (last : ServeEnd) → Spends held last → Turned stands went old new before (turns_of piece) (record { end = last; feed = feed; quiet = 0 })
      took_turned last spends = piece_turned stands went stays follows carries old new before held feed piece core live within (heard_so true did) hears_so last spends

      pub took_core : (last : ServeEnd) → Spends held last → feed.from_server ≡ before.feed.from_server → front_of feed.from_server feed.feeding.octets ≡ More → (is_some held.standing.over ≡ false → IsReady held)
          → (is_some held.standing.over ≡ false → feed.feeding.stopped ≡ None) → IsCore (record { end = last; feed = feed; quiet = 0 })
      took_core last spends direction torn ready feeding =
          let so = heard_so true did 0 0 in
          piece_core stands went stays follows carries old new before held feed piece core live within last spends (direction ∙ core.server) torn ready feeding so.config so.received (so.taken ∙ core.taken) (so.own core.own)
