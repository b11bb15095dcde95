-- A core after a piece of octets.
use Rattle.std.proofs.Common.{◌≡◌, ℕ, ◌+◌, ◌≤◌, ◌<◌, Bool, true, false, eqb, List, [], ◌∷◌, ◌++◌, Option, Some, None, length, inl, inr, refl, sym, ap, subst, ◌∙◌, arith}
use Rattle.std.specs.Prelude.{is_some}
use Rattle.std.proofs.lemmas.Bool.{eqb-true, eqb-false}
use Rattle.wire_base.specs.Turns.{turns_of}
use Rattle.validator_core.specs.Held.{Held}
use Rattle.session_hear.specs.Step.{Spent}
use Rattle.session_hear.specs.Hearing.{Hears, heard_octets, heard_from}
use Rattle.session_hear.proofs.Turning.{piece_breaks, piece_hears, piece_over, piece_spent, piece_within}
use Rattle.session_rules.specs.declared.config.FollowConfig.{FollowConfig}
use Rattle.session_rules.specs.declared.end.SessionEnd.{SessionEnd}
use Rattle.session_rules.specs.declared.end.SessionEnd.TheVariants as end
use Rattle.session_rules.specs.Following.{Stand}
use Rattle.session_rules.specs.FollowRules.{enough_unless}
use Rattle.validator_session.specs.declared.end.FollowEnd.{FollowEnd}
use Rattle.validator_session.specs.declared.standing.Standing.{Standing}
use Rattle.validator_session.specs.declared.inner.Inner.{Inner as Core}
use Rattle.validator_session.specs.Core.{IsCore, IsLive, Turned, over_of, received_of, spends, spends_by}
use Rattle.wire_base.specs.Feeding.{More}
use Rattle.pb_batch.specs.Front.{front_of}
use Rattle.validator_session.specs.Doing.{Did, IsReady}
use Rattle.validator_session.specs.Noting.{IsNoted}
use Rattle.validator_session.specs.Ready.{CanGoOn}
use Rattle.validator_session.specs.Standing.{stand_of}
use Rattle.validator_session.proofs.Coring.{Says, falls, moved, octets_more, says_broke, says_rests, says_spent, says_then, stands}

-- An end that has taken a piece, before it looks at it.
abbrev pub taking_to : Core → ℕ → FollowEnd
taking_to core count = record core.end { standing = record core.end.standing { notes = record core.end.standing.notes { «record» = record core.end.standing.notes.record { received = count } } } }

abbrev pub taking : Core → List ℕ → FollowEnd
taking core piece = taking_to core (received_of core + length piece)

-- The count is that of the piece.
pub counted_did : (core : Core) (here there : Held) (piece : List ℕ) (count : ℕ) (last : FollowEnd) (well : Bool) → count ≡ received_of core + length piece
    → ((quiet taken : ℕ) → Did (taking_to core count) here (heard_octets core.feed.from_server (Hears core.feed.feeding.octets quiet taken) piece).0 last there well)
    → (quiet taken : ℕ) → Did (taking core piece) here (heard_octets core.feed.from_server (Hears core.feed.feeding.octets quiet taken) piece).0 last there well
counted_did core here there piece count last well is did quiet taken =
    subst (λ (n : ℕ). Did (taking_to core n) here (heard_octets core.feed.from_server (Hears core.feed.feeding.octets quiet taken) piece).0 last there well) is (did quiet taken)

-- The last octet that the limit allows changes no count.
spends_by_received : (s : Standing) (over : Option SessionEnd) → (spends_by s over).notes.record.received ≡ s.notes.record.received
spends_by_received s None = refl
spends_by_received s (Some by) = refl

pub spends_received : (s : Standing) (is_last : Bool) → (spends s is_last).notes.record.received ≡ s.notes.record.received
spends_received s true = spends_by_received s s.over
spends_received s false = refl

module _ (core : Core) (here there : Held) (piece : List ℕ) (is : IsCore core) (live : is_some (over_of core) ≡ false)
    (some : 0 < length piece) (room : received_of core + length piece ≤ core.end.config.octets) where
  abbrev limit : ℕ
  limit = core.end.config.octets

  below : received_of core < limit
  below = (is.live live).room

  -- What was done to the octets, as it is said of all octets.
  says : (well : Bool) (last : FollowEnd) (carried : List ℕ)
      → Did (taking core piece) here (heard_octets core.feed.from_server (Hears core.feed.feeding.octets core.quiet (received_of core)) piece).0 last there well
      → Says core.end.config (carried ++ core.end.out, stand_of core.end.standing here) tt (heard_octets false (Hears core.feed.feeding.octets core.quiet (received_of core)) piece).0 (carried ++ last.out, stand_of last.standing there) tt well
  says well last carried did =
      subst (λ (server : Bool). Says core.end.config (carried ++ core.end.out, stand_of core.end.standing here) tt (heard_octets server (Hears core.feed.feeding.octets core.quiet (received_of core)) piece).0 (carried ++ last.out, stand_of last.standing there) tt well)
      is.client (moved carried core.end.out last.out _ did.talks)

  -- Memory ran out.
  pub piece_fell : (last : FollowEnd) (next : Core) → ((quiet count : ℕ) → Did (taking core piece) here (heard_octets core.feed.from_server (Hears core.feed.feeding.octets quiet count) piece).0 last there false)
      → next.end ≡ record last { standing = record last.standing { over = Some end.Memory } } → Turned core here (turns_of piece) next there
  piece_fell last next did same =
      let d = did core.quiet (received_of core) in
      λ mirror turns carried stood. inr (
      falls core.end.config mirror turns (turns_of piece) carried core here stood live next there
      (subst (λ (e : FollowEnd). Says core.end.config (carried ++ core.end.out, stand_of core.end.standing here) tt (heard_from false limit (Hears core.feed.feeding.octets core.quiet (received_of core)) (turns_of piece)).0 (carried ++ e.out, stand_of e.standing there) tt false) (sym same)
      (piece_breaks false limit (Says core.end.config) (says_then core.end.config) (says_broke core.end.config) (carried ++ core.end.out, stand_of core.end.standing here) (carried ++ last.out, stand_of last.standing there) tt tt
      core.feed.feeding.octets core.quiet (received_of core) piece below room (says false last carried d)))
      (ap (λ (e : FollowEnd). e.standing.over) same)
      (ap (λ (e : FollowEnd). e.standing.notes.record.sent) same ∙ d.sent)
      (ap (λ (e : FollowEnd). e.standing.notes.record.received) same ∙ d.received ∙ ap (λ (n : ℕ). n + length piece) stood.received ∙ sym (octets_more turns piece))
      )

  noted_taking : IsNoted (taking core piece).standing.notes
  noted_taking = record { points = is.noted.points; answers = is.noted.answers }

  pub core_fell : (last : FollowEnd) (next : Core) → ((quiet count : ℕ) → Did (taking core piece) here (heard_octets core.feed.from_server (Hears core.feed.feeding.octets quiet count) piece).0 last there false)
      → next.end ≡ record last { standing = record last.standing { over = Some end.Memory } } → next.feed.from_server ≡ core.feed.from_server → front_of next.feed.from_server next.feed.feeding.octets ≡ More → IsCore next
  core_fell last next did same direction torn = record {
    client = direction ∙ is.client;
    torn = torn;
    noted = subst (λ (e : FollowEnd). IsNoted e.standing.notes) (sym same) ((did core.quiet (received_of core)).noted noted_taking);
    live = λ on. let lost : true ≡ false = sym (ap (λ (e : FollowEnd). is_some e.standing.over) same) ∙ on in absurd cc;
  }

  -- It was looked at, and then the limit.
  module _ (last : FollowEnd) (next : Core) (did : (quiet count : ℕ) → Did (taking core piece) here (heard_octets core.feed.from_server (Hears core.feed.feeding.octets quiet count) piece).0 last there true)
      (hears : is_some last.standing.over ≡ false → (quiet count : ℕ) → (heard_octets core.feed.from_server (Hears core.feed.feeding.octets quiet count) piece).1 ≡ Hears next.feed.feeding.octets 0 (count + length piece)) (quiet : next.quiet ≡ 0) where
    given : Did (taking core piece) here (heard_octets core.feed.from_server (Hears core.feed.feeding.octets core.quiet (received_of core)) piece).0 last there true
    given = did core.quiet (received_of core)

    total : last.standing.notes.record.received ≡ received_of core + length piece
    total = given.received

    after : is_some last.standing.over ≡ false → (heard_octets false (Hears core.feed.feeding.octets core.quiet (received_of core)) piece).1 ≡ Hears next.feed.feeding.octets 0 (received_of core + length piece)
    after on = subst (λ (server : Bool). (heard_octets server (Hears core.feed.feeding.octets core.quiet (received_of core)) piece).1 ≡ Hears next.feed.feeding.octets 0 (received_of core + length piece)) is.client (hears on core.quiet (received_of core))

    -- From what was said to the turns of the piece.
    settled : next.end.standing.notes.record.sent ≡ last.standing.notes.record.sent → received_of next ≡ last.standing.notes.record.received
        → ((carried : List ℕ) → Says core.end.config (carried ++ core.end.out, stand_of core.end.standing here) tt (heard_from false limit (Hears core.feed.feeding.octets core.quiet (received_of core)) (turns_of piece)).0 (carried ++ next.end.out, stand_of next.end.standing there) tt true)
        → (is_some (over_of next) ≡ false → (heard_from false limit (Hears core.feed.feeding.octets core.quiet (received_of core)) (turns_of piece)).1 ≡ Hears next.feed.feeding.octets next.quiet (received_of next))
        → Turned core here (turns_of piece) next there
    settled sent received so heard mirror turns carried stood = inl (
        stands core.end.config mirror turns (turns_of piece) carried core here stood live next there (so carried) heard (sent ∙ given.sent)
        (received ∙ total ∙ ap (λ (n : ℕ). n + length piece) stood.received ∙ sym (octets_more turns piece))
        )

    -- The session ended within the piece.
    over_within : (by : SessionEnd) → last.standing.over ≡ Some by → next.end ≡ last → Turned core here (turns_of piece) next there
    over_within by over same = settled (ap (λ (e : FollowEnd). e.standing.notes.record.sent) same) (ap (λ (e : FollowEnd). e.standing.notes.record.received) same)
        (λ carried. subst (λ (e : FollowEnd). Says core.end.config (carried ++ core.end.out, stand_of core.end.standing here) tt (heard_from false limit (Hears core.feed.feeding.octets core.quiet (received_of core)) (turns_of piece)).0 (carried ++ e.out, stand_of e.standing there) tt true) (sym same)
        (piece_over false limit (Says core.end.config) (says_then core.end.config) (says_broke core.end.config) (carried ++ core.end.out, stand_of core.end.standing here) (carried ++ last.out, stand_of last.standing there) tt tt
        core.feed.feeding.octets core.quiet (received_of core) piece (says_rests core.end.config (carried ++ last.out) (stand_of last.standing there) by over) below room (says true last carried given)))
        (λ on. let lost : true ≡ false = sym (ap (λ (e : FollowEnd). is_some e.standing.over) same ∙ ap is_some over) ∙ on in absurd cc)

    -- The limit leaves something.
    goes_on : last.standing.over ≡ None → next.end ≡ last → received_of core + length piece < limit → Turned core here (turns_of piece) next there
    goes_on none same less =
        let on : is_some last.standing.over ≡ false = ap is_some none in
        settled (ap (λ (e : FollowEnd). e.standing.notes.record.sent) same) (ap (λ (e : FollowEnd). e.standing.notes.record.received) same)
        (λ carried. subst (λ (e : FollowEnd). Says core.end.config (carried ++ core.end.out, stand_of core.end.standing here) tt (heard_from false limit (Hears core.feed.feeding.octets core.quiet (received_of core)) (turns_of piece)).0 (carried ++ e.out, stand_of e.standing there) tt true) (sym same)
        (piece_within false limit (Says core.end.config) (says_then core.end.config) (says_broke core.end.config) (carried ++ core.end.out, stand_of core.end.standing here) (carried ++ last.out, stand_of last.standing there) tt tt
        core.feed.feeding.octets next.feed.feeding.octets core.quiet (received_of core) piece below less (says true last carried given) (after on)))
        (λ still. piece_hears false limit core.feed.feeding.octets next.feed.feeding.octets core.quiet (received_of core) piece below less (after on)
        ∙ ap (λ (n : ℕ). Hears next.feed.feeding.octets n (received_of core + length piece)) (sym quiet)
        ∙ ap (λ (n : ℕ). Hears next.feed.feeding.octets next.quiet n) (sym (ap (λ (e : FollowEnd). e.standing.notes.record.received) same ∙ total)))

    -- It was the last octet that the limit allows.
    spent : last.standing.over ≡ None → next.end ≡ record last { standing = record last.standing { over = Some end.Enough } } → received_of core + length piece ≡ limit → Turned core here (turns_of piece) next there
    spent none same all =
        let on : is_some last.standing.over ≡ false = ap is_some none in
        settled (ap (λ (e : FollowEnd). e.standing.notes.record.sent) same) (ap (λ (e : FollowEnd). e.standing.notes.record.received) same)
        (λ carried. subst (λ (e : FollowEnd). Says core.end.config (carried ++ core.end.out, stand_of core.end.standing here) tt (heard_from false limit (Hears core.feed.feeding.octets core.quiet (received_of core)) (turns_of piece)).0 (carried ++ e.out, stand_of e.standing there) tt true) (sym same)
        (piece_spent false limit (Says core.end.config) (says_then core.end.config) (says_broke core.end.config) (carried ++ core.end.out, stand_of core.end.standing here) (carried ++ last.out, stand_of last.standing there) (carried ++ last.out, record (stand_of last.standing there) { over = Some end.Enough }) tt tt
        core.feed.feeding.octets next.feed.feeding.octets core.quiet (received_of core) piece below all (says true last carried given) (after on) (last_octet (carried ++ last.out) (stand_of last.standing there) none)))
        (λ still. let lost : true ≡ false = sym (ap (λ (e : FollowEnd). is_some e.standing.over) same) ∙ still in absurd cc)
      where
        last_octet : (out : List ℕ) (s : Stand) → s.over ≡ None → Says core.end.config (out, s) tt (Spent ∷ []) (out, record s { over = Some end.Enough }) tt true
        last_octet out s none = subst (λ (t : Stand). Says core.end.config (out, s) tt (Spent ∷ []) (out, t) tt true) (ap (enough_unless s) none) (says_spent core.end.config out s)

    by_over : (over : Option SessionEnd) (is_last : Bool) → last.standing.over ≡ over → eqb (received_of core + length piece) limit ≡ is_last
        → next.end ≡ record last { standing = spends last.standing is_last } → Turned core here (turns_of piece) next there
    by_over (Some by) true over test same = over_within by over (same ∙ ap (λ (o : Option SessionEnd). record last { standing = spends_by last.standing o }) over)
    by_over (Some by) false over test same = over_within by over same
    by_over None true over test same = spent over (same ∙ ap (λ (o : Option SessionEnd). record last { standing = spends_by last.standing o }) over) (eqb-true (received_of core + length piece) limit test)
    by_over None false over test same = goes_on over same (omega (arith, room, eqb-false (received_of core + length piece) limit test))

    pub piece_stood : (is_last : Bool) → eqb (received_of core + length piece) limit ≡ is_last → next.end ≡ record last { standing = spends last.standing is_last } → Turned core here (turns_of piece) next there
    piece_stood is_last test same = by_over last.standing.over is_last refl test same

    -- It can take the next turn.
    module _ (ready : is_some last.standing.over ≡ false → IsReady last) (feeding : is_some last.standing.over ≡ false → next.feed.feeding.stopped ≡ None) where
      still_live : last.standing.over ≡ None → next.end ≡ last → received_of core + length piece < limit → IsLive next
      still_live none same less =
          let on : is_some last.standing.over ≡ false = ap is_some none in
          let config : next.end.config ≡ core.end.config = ap (λ (e : FollowEnd). e.config) same ∙ given.config in
          record {
            feeding = feeding on;
            room = omega (arith, less, ap (λ (e : FollowEnd). e.standing.notes.record.received) same, total, ap (λ (k : FollowConfig). k.octets) config);
            calm = omega (arith, quiet, (is.live live).calm, ap (λ (k : FollowConfig). k.idle) config);
            ready = subst (λ (e : FollowEnd). CanGoOn e.standing e.config.rounds) (sym same) (ready on).goes_on;
          }

      live_by : (over : Option SessionEnd) (is_last : Bool) → last.standing.over ≡ over → eqb (received_of core + length piece) limit ≡ is_last
          → next.end ≡ record last { standing = spends last.standing is_last } → is_some (over_of next) ≡ false → IsLive next
      live_by (Some by) true over test same on =
          let same_end : next.end ≡ last = same ∙ ap (λ (o : Option SessionEnd). record last { standing = spends_by last.standing o }) over in
          let lost : true ≡ false = sym (ap (λ (e : FollowEnd). is_some e.standing.over) same_end ∙ ap is_some over) ∙ on in absurd cc
      live_by (Some by) false over test same on = let lost : true ≡ false = sym (ap (λ (e : FollowEnd). is_some e.standing.over) same ∙ ap is_some over) ∙ on in absurd cc
      live_by None true over test same on =
          let same_end : next.end ≡ record last { standing = record last.standing { over = Some end.Enough } } = same ∙ ap (λ (o : Option SessionEnd). record last { standing = spends_by last.standing o }) over in
          let lost : true ≡ false = sym (ap (λ (e : FollowEnd). is_some e.standing.over) same_end) ∙ on in absurd cc
      live_by None false over test same on = still_live over same (omega (arith, room, eqb-false (received_of core + length piece) limit test))

      same_noted : (is_last : Bool) (over : Option SessionEnd) → last.standing.over ≡ over → IsNoted last.standing.notes → IsNoted (spends last.standing is_last).notes
      same_noted true (Some by) over noted = subst (λ (o : Option SessionEnd). IsNoted (spends_by last.standing o).notes) (sym over) noted
      same_noted true None over noted = subst (λ (o : Option SessionEnd). IsNoted (spends_by last.standing o).notes) (sym over) noted
      same_noted false over_is over noted = noted

      pub core_stood : (is_last : Bool) → eqb (received_of core + length piece) limit ≡ is_last → next.end ≡ record last { standing = spends last.standing is_last }
          → next.feed.from_server ≡ core.feed.from_server → front_of next.feed.from_server next.feed.feeding.octets ≡ More → IsCore next
      core_stood is_last test same direction torn = record {
        client = direction ∙ is.client;
        torn = torn;
        noted = subst (λ (e : FollowEnd). IsNoted e.standing.notes) (sym same) (same_noted is_last last.standing.over refl (given.noted noted_taking));
        live = live_by last.standing.over is_last refl test same;
      }
