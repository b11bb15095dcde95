-- What a core does to a piece of octets.
use Rattle.std.proofs.Common.{◌≡◌, ◌≢◌, ℕ, ◌+◌, ◌≤◌, ◌<◌, true, false, List, [], ◌∷◌, ◌++◌, Option, Some, None, inl, inr, length, refl, sym, ap, subst, ◌∙◌, arith}
use Rattle.std.specs.Prelude.{is_some}
use Rattle.std.proofs.lemmas.Bool.{cases_lt}
use Rattle.wire_base.specs.Turns.{turns_of}
use Rattle.wire_base.specs.Feeding.{More}
use Rattle.pb_batch.specs.Feeding.{Feed}
use Rattle.pb_batch.specs.Front.{front_of}
use Rattle.collector_core.specs.declared.chronicle.Mark.{Mark}
use Rattle.collector_core.specs.Chronicle.{Chronicle, extended}
use Rattle.collector_core.specs.Desks.{entries}
use Rattle.session_talk.specs.Talk.{Done}
use Rattle.session_talk.specs.Course.{Gives}
use Rattle.session_hear.specs.Step.{Step, Spent}
use Rattle.session_hear.specs.Hearing.{Hears, heard_octets, octets_in}
use Rattle.session_hear.specs.Serving.{serve}
use Rattle.session_hear.proofs.Serving.{one_gives}
use Rattle.session_hear.proofs.Turning.{piece_breaks, piece_hears, piece_over, piece_spent, piece_within}
use Rattle.session_rules.specs.declared.config.ServeConfig.{ServeConfig}
use Rattle.session_rules.specs.declared.end.SessionEnd.{SessionEnd}
use Rattle.session_rules.specs.declared.end.SessionEnd.TheVariants as final
use Rattle.session_rules.specs.Clauses.{Talks}
use Rattle.session_rules.specs.Questions.{at_places}
use Rattle.session_rules.specs.ServeRules.{Serves, enough_unless, note, react}
use Rattle.session_rules.specs.Serving.{Stand}
use Rattle.session_rules.proofs.Desking.{talks_none}
use Rattle.session_rules.proofs.Ends.{serve_spent}
use Rattle.collector_session.specs.declared.end.ServeEnd.{ServeEnd}
use Rattle.collector_session.specs.Cores.{Core, IsCore, Turned, over}
use Rattle.collector_session.specs.Doing.{Did, IsReady, standing}
use Rattle.collector_session.specs.DoingLaws.{did_broke, did_rests, did_then}
use Rattle.collector_session.proofs.Coring.{octets_of_piece, turned, turned_lost}

-- The end once that many octets more were taken, and once the session ended.
abbrev pub took : ServeEnd → ℕ → ServeEnd
took end count = record end { standing = record end.standing { «record» = record end.standing.record { received = end.standing.record.received + count } } }

abbrev pub ended : ServeEnd → SessionEnd → ServeEnd
ended end by = record end { standing = record end.standing { over = Some by } }

-- A talk in which nothing more is done.
abbrev pub rests_as : Stand → Serves
rests_as s = Done s

-- The last octet that the limit allows ends a session that is not over.
pub record Spends (held last : ServeEnd) : Type 0 where
  pub over : held.standing.over ≢ None → last ≡ held
  pub last-one : held.standing.over ≡ None → held.standing.record.received ≡ held.config.octets → last ≡ ended held final.Enough
  pub left : held.standing.over ≡ None → held.standing.record.received ≢ held.config.octets → last ≡ held

module _ {D : Type 0} (stands : D → Chronicle → Type 0) (went : D → List Mark → D → Type 0)
    (stays : (desk : D) → went desk [] desk) (follows : (one two three : D) (first second : List Mark) → went one first two → went two second three → went one (first ++ second) three)
    (carries : (old new : D) (marks : List Mark) (chronicle : Chronicle) → went old marks new → stands old chronicle → stands new (extended chronicle (entries marks))) where
  -- A step at which nothing is asked or written.
  pub did_one : (end next : ServeEnd) (desk : D) (step : Step) → next.config ≡ end.config → next.standing.record.sent ≡ end.standing.record.sent → next.standing.record.received ≡ end.standing.record.received
      → next.standing.record.taken ≡ end.standing.record.taken → (end.standing.over ≢ Some final.LinkFault → next.standing.over ≢ Some final.LinkFault) → end.out ≡ next.out → react end.config (standing end) step ≡ Done (standing next) → Did stands went end desk (step ∷ []) next desk true
  did_one end next desk step config sent received taken own out is = record {
    config = config;
    sent = sent;
    received = received;
    taken = taken;
    own = own;
    talks =
        subst (λ (o : List ℕ). Talks stands went desk desk end.out o
        (λ chronicle places out. Gives (at_places chronicle) (serve (react end.config) note (standing end) (step ∷ [])) places out (standing next))) out
        (talks_none stands went stays follows carries desk end.out
        (λ chronicle places out. Gives (at_places chronicle) (serve (react end.config) note (standing end) (step ∷ [])) places out (standing next))
        (λ chronicle.
        one_gives (react end.config) note (at_places chronicle) (standing end) (standing next) step [] []
        (subst (λ (talk : Serves). Gives (at_places chronicle) talk [] [] (standing next)) (sym is) (refl, refl, refl))));
  }

  spent : (end : ServeEnd) (desk : D) → end.standing.over ≡ None → Did stands went end desk (Spent ∷ []) (ended end final.Enough) desk true
  spent end desk live =
      did_one end (ended end final.Enough) desk Spent refl refl refl refl (λ own is. absurd cc) refl
      (serve_spent end.config (standing end) ∙ ap (λ (by : Option SessionEnd). (rests_as (enough_unless (standing end) by))) live)

  module _ (old new : D) (before : Core) (held : ServeEnd) (feed : Feed) (piece : List ℕ) (core : IsCore before) (live : over before ≡ None)
      (within : before.end.standing.record.received + length piece ≤ before.end.config.octets) where
    -- Memory ran out.
    pub piece_lost : ((quiet count : ℕ) → Did stands went (took before.end (length piece)) old (heard_octets true (Hears before.feed.feeding.octets quiet count) piece).0 held new false)
        → Turned stands went old new before (turns_of piece) (record { end = ended held final.Memory; feed = feed; quiet = 0 })
    piece_lost did =
        let count : ℕ = before.end.standing.record.received in
        let so = did before.quiet count in
        let all = piece_breaks true before.end.config.octets (Did stands went) (did_then stands went stays follows carries) (did_broke stands went) (took before.end (length piece)) held old new before.feed.feeding.octets
        before.quiet count piece (core.room live) within so in
        turned_lost stands went old new before (record { end = ended held final.Memory; feed = feed; quiet = 0 }) (turns_of piece) live all.talks so.config so.sent
        (so.received ∙ ap (λ (n : ℕ). count + n) (sym (octets_of_piece piece))) refl

    module _ (did : (quiet count : ℕ) → Did stands went (took before.end (length piece)) old (heard_octets true (Hears before.feed.feeding.octets quiet count) piece).0 held new true)
        (hears : is_some held.standing.over ≡ false → (quiet count : ℕ) → (heard_octets true (Hears before.feed.feeding.octets quiet count) piece).1 ≡ Hears feed.feeding.octets 0 (count + length piece)) where
      taken : held.standing.record.received ≡ before.end.standing.record.received + length piece
      taken = (did 0 0).received

      in_turns : held.standing.record.received ≡ before.end.standing.record.received + octets_in (turns_of piece)
      in_turns = taken ∙ ap (λ (n : ℕ). before.end.standing.record.received + n) (sym (octets_of_piece piece))

      -- The session ended within the piece.
      is_over : (by : SessionEnd) → held.standing.over ≡ Some by → Turned stands went old new before (turns_of piece) (record { end = held; feed = feed; quiet = 0 })
      is_over by is =
          let count : ℕ = before.end.standing.record.received in
          let so = did before.quiet count in
          let all = piece_over true before.end.config.octets (Did stands went) (did_then stands went stays follows carries) (did_broke stands went) (took before.end (length piece)) held old new before.feed.feeding.octets
          before.quiet count piece (λ steps. did_rests stands went stays follows carries held new steps (ap (λ (b : Option SessionEnd). is_some b) is)) (core.room live) within so in
          turned stands went old new before (record { end = held; feed = feed; quiet = 0 }) (turns_of piece) live all.talks so.config so.sent in_turns
          (λ none. let both : Some by ≡ None = sym is ∙ none in absurd cc)

      -- Something is left of the limit.
      is_left : held.standing.over ≡ None → before.end.standing.record.received + length piece < before.end.config.octets → Turned stands went old new before (turns_of piece) (record { end = held; feed = feed; quiet = 0 })
      is_left is less =
          let count : ℕ = before.end.standing.record.received in
          let so = did before.quiet count in
          let here = hears (ap (λ (b : Option SessionEnd). is_some b) is) before.quiet count in
          let all = piece_within true before.end.config.octets (Did stands went) (did_then stands went stays follows carries) (did_broke stands went) (took before.end (length piece)) held old new before.feed.feeding.octets
          feed.feeding.octets before.quiet count piece (core.room live) less so here in
          turned stands went old new before (record { end = held; feed = feed; quiet = 0 }) (turns_of piece) live all.talks so.config so.sent in_turns
          (λ none.
          piece_hears true before.end.config.octets before.feed.feeding.octets feed.feeding.octets before.quiet count piece (core.room live) less here
          ∙ ap (λ (n : ℕ). Hears feed.feeding.octets 0 n) (sym taken))

      -- The last octet was taken.
      is_spent : held.standing.over ≡ None → before.end.standing.record.received + length piece ≡ before.end.config.octets → Turned stands went old new before (turns_of piece) (record { end = ended held final.Enough; feed = feed; quiet = 0 })
      is_spent is all =
          let count : ℕ = before.end.standing.record.received in
          let so = did before.quiet count in
          let whole = piece_spent true before.end.config.octets (Did stands went) (did_then stands went stays follows carries) (did_broke stands went) (took before.end (length piece)) held (ended held final.Enough) old new
          before.feed.feeding.octets feed.feeding.octets before.quiet count piece (core.room live) all so (hears (ap (λ (b : Option SessionEnd). is_some b) is) before.quiet count) (spent held new is) in
          turned stands went old new before (record { end = ended held final.Enough; feed = feed; quiet = 0 }) (turns_of piece) live whole.talks so.config so.sent in_turns (λ none. absurd cc)

      same_octets : held.config.octets ≡ before.end.config.octets
      same_octets = ap (λ (c : ServeConfig). c.octets) (did 0 0).config

      -- All of it was heard.
      pub piece_turned : (last : ServeEnd) → Spends held last → Turned stands went old new before (turns_of piece) (record { end = last; feed = feed; quiet = 0 })
      piece_turned last spends = by_over held.standing.over refl
        where
          at_end : (e : ServeEnd) → last ≡ e → Turned stands went old new before (turns_of piece) (record { end = e; feed = feed; quiet = 0 }) → Turned stands went old new before (turns_of piece) (record { end = last; feed = feed; quiet = 0 })
          at_end e is turned-so = subst (λ (x : ServeEnd). Turned stands went old new before (turns_of piece) (record { end = x; feed = feed; quiet = 0 })) (sym is) turned-so

          by_over : (by : Option SessionEnd) → held.standing.over ≡ by → Turned stands went old new before (turns_of piece) (record { end = last; feed = feed; quiet = 0 })
          by_over (Some by) is = at_end held (spends.over (λ none. let both : Some by ≡ None = sym is ∙ none in absurd cc)) (is_over by is)
          by_over None is =
              elim (cases_lt (before.end.standing.record.received + length piece) before.end.config.octets) [
                | inl less ↦ at_end held (spends.left is (λ all. absurd (omega (arith, less, all, taken, same_octets)))) (is_left is less)
                | inr most ↦ at_end (ended held final.Enough) (spends.last-one is (omega (arith, most, within, taken, same_octets))) (is_spent is (omega (arith, most, within)))
              ]

    -- The core is sound afterwards.
    pub piece_core : (last : ServeEnd) → Spends held last → feed.from_server ≡ true → front_of feed.from_server feed.feeding.octets ≡ More → (is_some held.standing.over ≡ false → IsReady held)
        → (is_some held.standing.over ≡ false → feed.feeding.stopped ≡ None) → held.config ≡ before.end.config → held.standing.record.received ≡ before.end.standing.record.received + length piece
        → held.standing.record.taken ≡ [] → held.standing.over ≢ Some final.LinkFault → IsCore (record { end = last; feed = feed; quiet = 0 })
    piece_core last spends server torn ready feeding config taken no-answers own = by_over held.standing.over refl
      where
        over_core : (e : ServeEnd) (by : SessionEnd) → e.standing.over ≡ Some by → e.standing.record.taken ≡ [] → e.standing.over ≢ Some final.LinkFault → IsCore (record { end = e; feed = feed; quiet = 0 })
        over_core e by is no-answers-yet not-the-link = record {
          server = server;
          torn = torn;
          ready = λ none. let both : Some by ≡ None = sym is ∙ none in absurd cc;
          feeding = λ none. let both : Some by ≡ None = sym is ∙ none in absurd cc;
          room = λ none. let both : Some by ≡ None = sym is ∙ none in absurd cc;
          patient = λ none. let both : Some by ≡ None = sym is ∙ none in absurd cc;
          taken = no-answers-yet;
          own = not-the-link;
        }

        at_end : (e : ServeEnd) → last ≡ e → IsCore (record { end = e; feed = feed; quiet = 0 }) → IsCore (record { end = last; feed = feed; quiet = 0 })
        at_end e is so = subst (λ (x : ServeEnd). IsCore (record { end = x; feed = feed; quiet = 0 })) (sym is) so

        octets : held.config.octets ≡ before.end.config.octets
        octets = ap (λ (c : ServeConfig). c.octets) config

        idle : held.config.idle ≡ before.end.config.idle
        idle = ap (λ (c : ServeConfig). c.idle) config

        by_over : (by : Option SessionEnd) → held.standing.over ≡ by → IsCore (record { end = last; feed = feed; quiet = 0 })
        by_over (Some by) is = at_end held (spends.over (λ none. let both : Some by ≡ None = sym is ∙ none in absurd cc)) (over_core held by is no-answers own)
        by_over None is =
            let none : is_some held.standing.over ≡ false = ap (λ (b : Option SessionEnd). is_some b) is in
            elim (cases_lt (before.end.standing.record.received + length piece) before.end.config.octets) [
              | inl less ↦ at_end held (spends.left is (λ all. absurd (omega (arith, less, all, taken, octets)))) (record {
                server = server;
                torn = torn;
                ready = λ live. ready none;
                feeding = λ live. feeding none;
                room = λ live. omega (arith, less, taken, octets);
                patient = λ here. omega (arith, core.patient live, idle);
                taken = no-answers;
                own = own;
              })
              | inr most ↦ at_end (ended held final.Enough) (spends.last-one is (omega (arith, most, within, taken, octets))) (over_core (ended held final.Enough) final.Enough refl no-answers (λ is. absurd cc))
            ]
