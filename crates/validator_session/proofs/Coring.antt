-- A core after further turns.
use Rattle.std.proofs.Common.{◌≡◌, ℕ, ◌+◌, Bool, true, false, List, [], ◌∷◌, ◌++◌, Some, length, refl, sym, ap, subst, ◌∙◌, append_assoc, append-nil, arith}
use Rattle.std.specs.Prelude.{is_some}
use Rattle.wire_base.specs.Turns.{Turn, Octet, Idle, Ended, turns_of}
use Rattle.validator_core.specs.Held.{Held}
use Rattle.session_talk.specs.Course.{Answers, Gives, Breaks}
use Rattle.session_hear.specs.Step.{Step, Spent}
use Rattle.session_hear.specs.Hearing.{Hearing, Hears, heard, heard_from, octets_in}
use Rattle.session_hear.specs.Serving.{serve}
use Rattle.session_hear.proofs.Serving.{one_breaks, one_gives, over_gives, serve_breaks, serve_breaks_first, serve_gives}
use Rattle.session_hear.proofs.Turning.{hearing_more, turns_join}
use Rattle.session_rules.specs.declared.config.FollowConfig.{FollowConfig}
use Rattle.session_rules.specs.declared.end.SessionEnd.{SessionEnd}
use Rattle.session_rules.specs.declared.end.SessionEnd.TheVariants as end
use Rattle.session_rules.specs.Clauses.{Spoke}
use Rattle.session_rules.specs.Following.{Stand, begin, nothing_noted}
use Rattle.session_rules.specs.FollowRules.{enough, note, react, session}
use Rattle.session_rules.specs.Taking.{NoQuestion, NoReply}
use Rattle.session_rules.proofs.Ends.{follow_over, follow_spent}
use Rattle.validator_session.specs.declared.inner.Inner.{Inner as Core}
use Rattle.validator_session.specs.Core.{Fell, Stood, over_of, received_of}
use Rattle.validator_session.specs.Doing.{Course}
use Rattle.validator_session.specs.Standing.{notes_of, stand_of}

-- ---- what was said to steps, by all octets so far and the standing

abbrev pub State : Type 0
State = List ℕ × Stand

module _ (c : FollowConfig) where
  abbrev pub Says : State → Unit {0} → List Step → State → Unit {0} → Bool → Type 0
  Says one u steps two v well = Spoke {Q = NoQuestion} {R = NoReply} one.0 two.0 (λ replies out. Course well replies (note one.1) (serve (react c) note one.1 steps) out two.1)

  joined : (well : Bool) (one two three : State) (steps later : List Step) (out rest : List ℕ) (replies : Answers NoQuestion NoReply) → Gives replies (serve (react c) note one.1 steps) [] out two.1
      → Course well replies (note two.1) (serve (react c) note two.1 later) rest three.1 → Course well replies (note one.1) (serve (react c) note one.1 (steps ++ later)) (out ++ rest) three.1
  joined true one two three steps later out rest replies gives course = serve_gives (react c) note replies one.1 two.1 three.1 steps later [] [] out rest gives course
  joined false one two three steps later out rest replies gives course = serve_breaks (react c) note replies one.1 two.1 steps later [] [] out rest (note three.1) gives course

  pub says_then : (one two three : State) (u v w : Unit {0}) (steps later : List Step) (well : Bool) → Says one u steps two v true → Says two v later three w well → Says one u (steps ++ later) three w well
  says_then one two three u v w steps later well first second = record {
    out = first.out ++ second.out;
    is = second.is ∙ ap (λ (o : List ℕ). o ++ second.out) first.is ∙ append_assoc one.0 first.out second.out;
    gives = λ replies. joined well one two three steps later first.out second.out replies (first.gives replies) (second.gives replies);
  }

  pub says_broke : (one two : State) (u v : Unit {0}) (steps later : List Step) → Says one u steps two v false → Says one u (steps ++ later) two v false
  says_broke one two u v steps later so = record {
    out = so.out;
    is = so.is;
    gives = λ replies. serve_breaks_first (react c) note replies (note one.1) one.1 steps later [] so.out (note two.1) (so.gives replies);
  }

  pub says_rests : (out : List ℕ) (s : Stand) (by : SessionEnd) → s.over ≡ Some by → (steps : List Step) → Says (out, s) tt steps (out, s) tt true
  says_rests out s by over steps = record { out = []; is = sym (append-nil out); gives = λ replies. over_gives (react c) note replies s steps (follow_over c s by over) }

  -- One step, to which an end says this at once.
  pub says_one : (before after : List ℕ) (s next : Stand) (step : Step) → Spoke {Q = NoQuestion} {R = NoReply} before after (λ replies out. Gives replies (react c s step) [] out next) → Says (before, s) tt (step ∷ []) (after, next) tt true
  says_one before after s next step so = record { out = so.out; is = so.is; gives = λ replies. one_gives (react c) note replies s next step [] so.out (so.gives replies) }

  pub lost_one : (before after : List ℕ) (s next : Stand) (step : Step) → Spoke {Q = NoQuestion} {R = NoReply} before after (λ replies out. Breaks replies (note s) (react c s step) [] out (note next)) → Says (before, s) tt (step ∷ []) (after, next) tt false
  lost_one before after s next step so = record { out = so.out; is = so.is; gives = λ replies. one_breaks (react c) note replies (note s) s step [] [] so.out (note next) (so.gives replies) }

  -- The last octet that the limit allows.
  pub says_spent : (out : List ℕ) (s : Stand) → Says (out, s) tt (Spent ∷ []) (out, enough s) tt true
  says_spent out s = says_one out out s (enough s) Spent (record {
    out = [];
    is = sym (append-nil out);
    gives = λ replies. subst (λ (talk : _). Gives replies talk [] [] (enough s)) (sym (follow_spent c s)) (refl, refl, refl);
  })

-- Octets that were carried away before.
pub moved : (carried before after : List ℕ) (holds : Answers NoQuestion NoReply → List ℕ → Type 0) → Spoke before after holds → Spoke (carried ++ before) (carried ++ after) holds
moved carried before after holds so = record { out = so.out; is = ap (λ (o : List ℕ). carried ++ o) so.is ∙ sym (append_assoc carried before so.out); gives = so.gives }

-- ---- octets among turns

no_more : (n : ℕ) → n ≡ 0 + n
no_more n = omega arith

one_more : (all first later : ℕ) → all ≡ first + later → all + 1 ≡ (first + 1) + later
one_more all first later is = omega (arith, is)

octets_append : (turns more : List Turn) → octets_in (turns ++ more) ≡ octets_in turns + octets_in more
octets_append [] more = no_more (octets_in more)
octets_append (Octet octet ∷ turns) more = one_more (octets_in (turns ++ more)) (octets_in turns) (octets_in more) (octets_append turns more)
octets_append (Idle ∷ turns) more = octets_append turns more
octets_append (Ended ∷ turns) more = octets_append turns more

octets_of_piece : (piece : List ℕ) → octets_in (turns_of piece) ≡ length piece
octets_of_piece [] = refl
octets_of_piece (octet ∷ piece) = omega (arith, octets_of_piece piece)

pub octets_more : (turns : List Turn) (piece : List ℕ) → octets_in (turns ++ turns_of piece) ≡ octets_in turns + length piece
octets_more turns piece = octets_append turns (turns_of piece) ∙ ap (λ (n : ℕ). octets_in turns + n) (octets_of_piece piece)

pub no_octets : (turns more : List Turn) → octets_in more ≡ 0 → octets_in (turns ++ more) ≡ octets_in turns
no_octets turns more none = octets_append turns more ∙ omega (arith, none)

-- ---- a core and a later one

module _ (c : FollowConfig) (mirror : Held) (turns more : List Turn) (carried : List ℕ) (core : Core) (here : Held) (stood : Stood c mirror turns carried core here) (live : is_some (over_of core) ≡ false) where
  abbrev state : State
  state = (carried ++ core.end.out, stand_of core.end.standing here)

  abbrev now_hears : Hearing
  now_hears = Hears core.feed.feeding.octets core.quiet (received_of core)

  -- All that was said.
  says_all : (next : State) (well : Bool) → Says c state tt (heard_from false c.octets now_hears more).0 next tt well → Says c ([], begin mirror) tt (heard false c.octets (turns ++ more)).0 next tt well
  says_all next well so =
      turns_join false c.octets (Says c) (says_then c) (says_broke c) ([], begin mirror) state next tt tt tt turns more now_hears well (stood.hears live)
      (record { out = carried ++ core.end.out; is = refl; gives = stood.gives }) so

  pub stands : (next : Core) (there : Held) → Says c state tt (heard_from false c.octets now_hears more).0 (carried ++ next.end.out, stand_of next.end.standing there) tt true
      → (is_some (over_of next) ≡ false → (heard_from false c.octets now_hears more).1 ≡ Hears next.feed.feeding.octets next.quiet (received_of next))
      → next.end.standing.notes.record.sent ≡ core.end.standing.notes.record.sent → received_of next ≡ octets_in (turns ++ more)
      → Stood c mirror (turns ++ more) carried next there
  stands next there so hears sent received =
      let all = says_all (carried ++ next.end.out, stand_of next.end.standing there) true so in
      record {
        gives = λ replies. subst (λ (o : List ℕ). Gives replies (session c mirror (turns ++ more)) [] o (stand_of next.end.standing there)) (sym all.is) (all.gives replies);
        hears = λ on. hearing_more false c.octets turns more now_hears (stood.hears live) ∙ hears on;
        sent = sent ∙ stood.sent;
        received = received;
      }

  pub falls : (next : Core) (there : Held) → Says c state tt (heard_from false c.octets now_hears more).0 (carried ++ next.end.out, stand_of next.end.standing there) tt false
      → over_of next ≡ Some end.Memory → next.end.standing.notes.record.sent ≡ core.end.standing.notes.record.sent → received_of next ≡ octets_in (turns ++ more)
      → Fell c mirror (turns ++ more) carried next there
  falls next there so over sent received =
      let all = says_all (carried ++ next.end.out, stand_of next.end.standing there) false so in
      record {
        over = over;
        breaks = λ replies. subst (λ (o : List ℕ). Breaks replies (nothing_noted mirror) (session c mirror (turns ++ more)) [] o (notes_of next.end.standing.notes there)) (sym all.is) (all.gives replies);
        sent = sent ∙ stood.sent;
        received = received;
      }
