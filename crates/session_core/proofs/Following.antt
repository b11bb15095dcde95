-- A whole session of a validator, by how the loop over its link ended.
use Rattle.std.proofs.Common.{◌≡◌, ◌≢◌, ◌-◌, ◌^◌, ℕ, false, List, [], ◌∷◌, ◌++◌, Option, Some, None, inl, inr, length, refl, sym, ap, subst, ◌∙◌, append-nil, zero-add}
use Rattle.std.specs.Prelude.{map, min}
use Rattle.wire_base.specs.Turns.{Turn}
use Rattle.swima_model.specs.History.{History, IsHonest}
use Rattle.validator_core.specs.declared.mirror.Taken.{Taken}
use Rattle.validator_core.specs.Held.{Held}
use Rattle.validator_core.specs.Right.{IsRight}
use Rattle.session_talk.specs.Course.{Gives}
use Rattle.session_talk.specs.Keeping.{NotesAre}
use Rattle.session_hear.specs.Hearing.{octets_in}
use Rattle.session_rules.specs.declared.config.FollowConfig.{FollowConfig}
use Rattle.session_rules.specs.declared.end.SessionEnd.{SessionEnd}
use Rattle.session_rules.specs.declared.end.SessionEnd.TheVariants as end
use Rattle.session_rules.specs.AnySession.{NotesAnswer}
use Rattle.session_rules.specs.Following.{Stand, TakenReport as TakenValue}
use Rattle.session_rules.specs.FollowRules.{session}
use Rattle.session_rules.specs.Numbers.{counted_on}
use Rattle.session_rules.specs.Transcripts.{nobody}
use Rattle.session_rules.proofs.AnySession.{stays_right_in_parts, stays_right_in_sessions}
use Rattle.validator_session.specs.declared.inner.Inner.{Inner}
use Rattle.validator_session.specs.declared.notes.Notes.{Notes}
use Rattle.validator_session.specs.declared.notes.TakenReport.{TakenReport}
use Rattle.validator_session.specs.Core.{Fell, Stood, counted_octets, over_of}
use Rattle.validator_session.specs.Noting.{IsNoted, answer_of}
use Rattle.validator_session.specs.Standing.{notes_of, report_of, stand_of}
use Rattle.session_core.specs.Driving.{Drives, is_memory}
use Rattle.session_core.specs.Ran.{FollowRan, StoodOrFell}
use Rattle.session_core.specs.Followed.{Broke, Ended, Failed, Followed, FollowedAs, followed_record}
use Rattle.session_core.proofs.OwnEnds.{ByRule, ends_by_rule}

-- ---- the record

answers_so : (reports : List TakenReport) → map answer_of reports ≡ map (λ (one : TakenValue). one.answer) (map report_of reports)
answers_so [] = refl
answers_so (one ∷ reports) = ap (λ (as-before : List Taken). one.answer ∷ as-before) (answers_so reports)

counted_so : (octets : List ℕ) → counted_octets octets ≡ counted_on 0 (length octets)
counted_so octets = ap (λ (k : ℕ). min k (2 ^ 64 - 1)) (sym (zero-add (length octets)))

noted : (n : Notes) (turns : List Turn) (octets : List ℕ) (mirror : Held) → IsNoted n → n.record.sent ≡ counted_octets octets → n.record.received ≡ octets_in turns → n.record ≡ followed_record turns octets (notes_of n mirror)
noted n turns octets mirror is sent received =
    ap (λ (ps : List _). record n.record { points = ps }) is.points
    ∙ ap (λ (ts : List Taken). record n.record { points = []; taken = ts }) (is.answers ∙ answers_so n.reports)
    ∙ ap (λ (k : ℕ). record n.record { points = []; taken = map (λ (one : TakenValue). one.answer) (map report_of n.reports); sent = k }) (sent ∙ counted_so octets)
    ∙ ap (λ (k : ℕ). record n.record { points = []; taken = map (λ (one : TakenValue). one.answer) (map report_of n.reports); sent = counted_on 0 (length octets); received = k }) received

-- ---- by how it ended

module _ (c : FollowConfig) (mirror : Held) (turns : List Turn) (octets : List ℕ) (core : Inner) (now : Held) (is-noted : IsNoted core.end.standing.notes) where
  ended : (by : SessionEnd) → over_of core ≡ Some by → core.end.out ≡ [] → Stood c mirror turns octets core now → Ended mirror c turns octets now core.end.standing.notes.record by
  ended by is given s = record {
    stand = stand_of core.end.standing now;
    follows = subst (λ (o : List ℕ). Gives nobody (session c mirror turns) [] o (stand_of core.end.standing now)) (ap (λ (o : List ℕ). octets ++ o) given ∙ append-nil octets) (s.gives nobody);
    over = is;
    judged = refl;
    noted = noted core.end.standing.notes turns octets now is-noted s.sent s.received;
  }

  failed : Stood c mirror turns octets core now → Failed mirror c turns octets now core.end.standing.notes.record
  failed s = record {
    rest = core.end.out;
    stand = stand_of core.end.standing now;
    follows = s.gives nobody;
    judged = refl;
    noted = noted core.end.standing.notes turns octets now is-noted s.sent s.received;
  }

  broke : Fell c mirror turns octets core now → Broke mirror c turns octets now core.end.standing.notes.record
  broke f = record {
    rest = core.end.out;
    notes = notes_of core.end.standing.notes now;
    follows = f.breaks nobody;
    judged = refl;
    noted = noted core.end.standing.notes turns octets now is-noted f.sent f.received;
  }

  -- Its end is one that a rule gives.
  pub by_rule : (by : SessionEnd) → over_of core ≡ Some by → Stood c mirror turns octets core now → ByRule (Some by)
  by_rule by is s = subst ByRule is (ends_by_rule mirror c turns (octets ++ core.end.out) (stand_of core.end.standing now) (s.gives nobody))

  stood_at : (by : SessionEnd) → over_of core ≡ Some by → ByRule (Some by) → (is_memory by ≡ false → core.end.out ≡ []) → Stood c mirror turns octets core now → FollowedAs mirror c turns octets now core.end.standing.notes.record by
  stood_at end.Memory is rule given s = absurd rule
  stood_at end.LinkFault is rule given s = absurd rule
  stood_at end.Closed is rule given s = ended end.Closed is (given refl) s
  stood_at end.PeerClosed is rule given s = ended end.PeerClosed is (given refl) s
  stood_at (end.PeerError vendor code) is rule given s = ended (end.PeerError vendor code) is (given refl) s
  stood_at (end.Refused code offset) is rule given s = ended (end.Refused code offset) is (given refl) s
  stood_at end.Ended is rule given s = ended end.Ended is (given refl) s
  stood_at (end.Torn have) is rule given s = ended (end.Torn have) is (given refl) s
  stood_at (end.IdleOut idle) is rule given s = ended (end.IdleOut idle) is (given refl) s
  stood_at end.Enough is rule given s = ended end.Enough is (given refl) s

  some_one : (one other : SessionEnd) → Some one ≡ Some other → one ≡ other
  some_one one other is = ap (λ (by : Option SessionEnd). or_else by) is
    where
      or_else : Option SessionEnd → SessionEnd
      or_else (Some by) = by
      or_else None = one

  ended_at : (by : SessionEnd) → over_of core ≡ Some by → (is_memory by ≡ false → core.end.out ≡ []) → StoodOrFell c mirror turns octets core now → FollowedAs mirror c turns octets now core.end.standing.notes.record by
  ended_at by is given so =
      elim so [
        | inl s ↦ stood_at by is (by_rule by is s) given s
        | inr f ↦ subst (λ (e : SessionEnd). FollowedAs mirror c turns octets now core.end.standing.notes.record e) (some_one end.Memory by (sym f.over ∙ is)) (broke f)
      ]

  own_end : (by : SessionEnd) → over_of core ≡ Some by → StoodOrFell c mirror turns octets core now → by ≢ end.LinkFault
  own_end by is so link =
      elim so [
        | inl s ↦ subst (λ (e : SessionEnd). ByRule (Some e)) link (by_rule by is s)
        | inr f ↦ let both : Some end.Memory ≡ Some end.LinkFault = sym f.over ∙ is ∙ ap (λ (e : SessionEnd). Some e) link in absurd cc
      ]

  -- A mirror that was right is right.
  right : StoodOrFell c mirror turns octets core now → (history : History) → IsHonest history → IsRight history mirror → NotesAre nobody (NotesAnswer history mirror.kind) (session c mirror turns) [] → IsRight history now
  right so history honest was answers =
      elim so [
        | inl s ↦ stays_right_in_sessions history mirror c turns (octets ++ core.end.out) (stand_of core.end.standing now) honest was answers (s.gives nobody)
        | inr f ↦ stays_right_in_parts.whole history mirror c turns (octets ++ core.end.out) (notes_of core.end.standing.notes now) honest was answers (f.breaks nobody)
      ]

-- ---- the session

-- Before the first turn it is not over.
pub begun_live : (c : FollowConfig) (mirror : Held) (begun : Inner) → Stood c mirror [] [] begun mirror → over_of begun ≡ None
begun_live c mirror begun s = ap (λ (stand : Stand). stand.over) (s.gives nobody).2

module _ (c : FollowConfig) (mirror now : Held) (taken taken-after : Option (List Turn)) (given given-after : Option (List ℕ)) (begun core : Inner) (begins : Stood c mirror [] [] begun mirror) (config : begun.end.config ≡ c)
    (is-noted : IsNoted core.end.standing.notes) (d : Drives FollowRan begun mirror core now taken taken-after given given-after) where
  stands_so : StoodOrFell c mirror d.turns d.octets core now
  stands_so =
      subst (λ (k : FollowConfig). StoodOrFell k mirror d.turns d.octets core now) config
      (d.so.stands mirror [] [] (subst (λ (k : FollowConfig). Stood k mirror [] [] begun mirror) (sym config) begins))

  followed : (by : SessionEnd) → FollowedAs mirror c d.turns d.octets now core.end.standing.notes.record by → Followed c mirror now taken taken-after given given-after core.end.standing.notes.record by
  followed by so = record {
    turns = d.turns;
    octets = d.octets;
    took = d.took;
    gave = d.gave;
    follows = so;
    right = λ history honest was answers. right c mirror d.turns d.octets core now is-noted stands_so history honest was answers;
  }

  pub followed_end : (by : SessionEnd) → over_of core ≡ Some by → (is_memory by ≡ false → core.end.out ≡ []) → Followed c mirror now taken taken-after given given-after core.end.standing.notes.record by
  followed_end by is all = followed by (ended_at c mirror d.turns d.octets core now is-noted by is all stands_so)

  pub followed_own : (by : SessionEnd) → over_of core ≡ Some by → by ≢ end.LinkFault
  followed_own by is = own_end c mirror d.turns d.octets core now is-noted by is stands_so

  pub followed_fault : over_of core ≢ Some end.Memory → Followed c mirror now taken taken-after given given-after core.end.standing.notes.record end.LinkFault
  followed_fault other =
      followed end.LinkFault (elim stands_so [
        | inl s ↦ failed c mirror d.turns d.octets core now is-noted s
        | inr f ↦ absurd (other f.over)
      ])
