-- A session that has taken as many octets as its limit allows is over.
use Rattle.std.proofs.Common.{◌≡◌, ◌⊎◌, inl, inr, ℕ, ◌+◌, ◌<◌, ◌≤◌, Bool, true, false, cond, List, [], ◌∷◌, ◌++◌, Option, Some, None, refl, sym, subst, ◌∙◌, arith, length}
use Rattle.std.specs.Prelude.{◌==◌}
use Rattle.std.proofs.lemmas.Bool.{cases_lt, eqb-false}
use Rattle.wire_base.specs.Turns.{Turn, Octet, Idle, Ended}
use Rattle.wire_base.specs.Feeding.{More, Bad, Whole}
use Rattle.pb_batch.specs.Front.{Front, front_of}
use Rattle.collector_core.specs.Chronicle.{Chronicle}
use Rattle.validator_core.specs.Held.{Held}
use Rattle.session_talk.specs.Talk.{Talk, Done, Ask, Write, Note}
use Rattle.session_talk.specs.Course.{Answers}
use Rattle.session_talk.specs.Given.{given}
use Rattle.session_talk.specs.Keeping.{Keeps}
use Rattle.session_talk.proofs.Keeping.{keeps_then}
use Rattle.session_hear.specs.Step.{Step, Came, Faulty, Quiet, Spent, Cut}
use Rattle.session_hear.specs.Hearing.{Hearing, Hears, Deaf, heard, heard_from, heard_then, hear_front, octets_in, settle, settle_at}
use Rattle.session_hear.specs.Serving.{serve}
use Rattle.session_rules.specs.declared.config.FollowConfig.{FollowConfig}
use Rattle.session_rules.specs.declared.config.ServeConfig.{ServeConfig}
use Rattle.session_rules.specs.declared.end.SessionEnd.{SessionEnd}
use Rattle.session_rules.specs.declared.end.SessionEnd.TheVariants as end
use Rattle.session_rules.specs.Following.{Stand as FollowStand, begin as follow_begin}
use Rattle.session_rules.specs.FollowRules as following
use Rattle.session_rules.specs.Meaning.{SessionsTakeAtMost}
use Rattle.session_rules.specs.Questions.{at_places}
use Rattle.session_rules.specs.Serving.{Stand, begin}
use Rattle.session_rules.specs.ServeRules as serving
use Rattle.session_rules.specs.Transcripts.{follow_end, followed, nobody, serve_end, served}
use Rattle.session_rules.proofs.Ends.{follow_over, serve_over}

-- ---- the last step

-- A step after which an end hears nothing more.
abbrev IsLast : Step → Type 0
IsLast (Came batch) = ⊥
IsLast (Faulty fault) = Unit {0}
IsLast (Quiet turns) = ⊥
IsLast Spent = Unit {0}
IsLast (Cut have) = Unit {0}

abbrev HasLast : List Step → Type 0
HasLast [] = ⊥
HasLast (step ∷ steps) = IsLast step ⊎ HasLast steps

last_after : (first later : List Step) → HasLast later → HasLast (first ++ later)
last_after [] later last = last
last_after (step ∷ first) later last = inr (last_after first later last)

last_before : (first later : List Step) → HasLast first → HasLast (first ++ later)
last_before [] later last = absurd last
last_before (step ∷ first) later last = elim last [
  | inl now ↦ inl now
  | inr on ↦ inr (last_before first later on)
]

module _ (from_server : Bool) (limit : ℕ) where
  -- The limit is reached with an octet, or more may come.
  settled : (first : List Step) (held : List ℕ) (count : ℕ) (turns : List Turn) → count < limit → (count + 1 < limit → HasLast (heard_from from_server limit (Hears held 0 (count + 1)) turns).0)
      → HasLast (heard_then (settle_at limit first (Hears held 0 (count + 1))) (λ hearing. heard_from from_server limit hearing turns)).0
  settled first held count turns less next = by_count ((count + 1) == limit) refl
    where
      not_yet : ((count + 1) == limit) ≡ false → count + 1 < limit
      not_yet is = elim (cases_lt (count + 1) limit) [
        | inl below ↦ below
        | inr most ↦ absurd (eqb-false (count + 1) limit is (omega (arith, less, most)))
      ]

      by_count : (b : Bool) → ((count + 1) == limit) ≡ b
          → HasLast (heard_then (cond {A = List Step × Hearing} b (first ++ Spent ∷ [], Deaf) (first, Hears held 0 (count + 1))) (λ hearing. heard_from from_server limit hearing turns)).0
      by_count true is = last_before (first ++ Spent ∷ []) (heard_from from_server limit Deaf turns).0 (last_after first (Spent ∷ []) (inl tt))
      by_count false is = last_after first (heard_from from_server limit (Hears held 0 (count + 1)) turns).0 (next (not_yet is))

  front_reaches : (held : List ℕ) (count : ℕ) (turns : List Turn) (front : Front) → count < limit
      → ((more : List ℕ) → count + 1 < limit → HasLast (heard_from from_server limit (Hears more 0 (count + 1)) turns).0)
      → HasLast (heard_then (settle limit (hear_front held (count + 1) front)) (λ hearing. heard_from from_server limit hearing turns)).0
  front_reaches held count turns More less next = settled [] held count turns less (next held)
  front_reaches held count turns (Bad fault) less next = inl tt
  front_reaches held count turns (Whole batch len) less next = settled (Came batch ∷ []) [] count turns less (next [])

  reaches : (held : List ℕ) (quiet count : ℕ) (turns : List Turn) → count < limit → limit ≤ count + octets_in turns → HasLast (heard_from from_server limit (Hears held quiet count) turns).0
  reaches held quiet count [] less most = absurd (omega (arith, less, most))
  reaches held quiet count (Octet octet ∷ turns) less most =
      front_reaches (held ++ octet ∷ []) count turns (front_of from_server (held ++ octet ∷ [])) less (λ more below. reaches more 0 (count + 1) turns below (omega (arith, most)))
  reaches held quiet count (Idle ∷ turns) less most = inr (reaches held (quiet + 1) count turns less most)
  reaches held quiet count (Ended ∷ turns) less most = inl tt

-- ---- what a talk comes to

-- Nothing is asked of a note.
abbrev Any : {N : Type 0} → N → Type 0
Any note = Unit {0}

module _ {Q : Type 0} {R : Q → Type 0} {N : Type 0} where
  keeps_any : {A : Type 0} (talk : Talk Q R N A) → Keeps Any Any (λ (value : A). Unit {0}) talk
  keeps_any (Done value) = tt
  keeps_any (Ask question talk) = λ reply. keeps_any (talk reply)
  keeps_any (Write octets talk) = keeps_any talk
  keeps_any (Note note talk) = λ so. (tt, keeps_any talk)

  given_keeps : {A : Type 0} (then_so : A → Type 0) (answers : Answers Q R) (now : ℕ) (talk : Talk Q R N A) (places : List ℕ) → Keeps Any Any then_so talk → then_so (given answers now talk places).1
  given_keeps then_so answers now (Done value) places keeps = keeps
  given_keeps then_so answers now (Ask question talk) [] keeps = given_keeps then_so answers now (talk (answers now question)) [] (keeps (answers now question))
  given_keeps then_so answers now (Ask question talk) (place ∷ places) keeps = given_keeps then_so answers now (talk (answers place question)) places (keeps (answers place question))
  given_keeps then_so answers now (Write octets talk) places keeps = given_keeps then_so answers now talk places keeps
  given_keeps then_so answers now (Note note talk) places keeps = given_keeps then_so answers now talk places (keeps tt).1

  -- After the last step a session is over, and it stays so.
  module _ {S : Type 0} (over : S → Type 0) (react : S → Step → Talk Q R N S) (note : S → N) (stays : (s : S) (step : Step) → over s → Keeps Any Any over (react s step))
      (last : (s : S) (step : Step) → IsLast step → Keeps Any Any over (react s step)) where
    over_stays : (s : S) (steps : List Step) → over s → Keeps Any Any over (serve react note s steps)
    over_stays s [] is = is
    over_stays s (step ∷ steps) is = keeps_then Any Any over over (react s step) (λ next. Note (note next) (serve react note next steps)) (stays s step is) (λ next there so. (tt, over_stays next steps there))

    last_ends : (s : S) (steps : List Step) → HasLast steps → Keeps Any Any over (serve react note s steps)
    last_ends s [] has = absurd has
    last_ends s (step ∷ steps) has = elim has [
      | inl now ↦ keeps_then Any Any over over (react s step) (λ next. Note (note next) (serve react note next steps)) (last s step now) (λ next there so. (tt, over_stays next steps there))
      | inr on ↦ keeps_then Any Any (λ (next : S). Unit {0}) over (react s step) (λ next. Note (note next) (serve react note next steps)) (keeps_any (react s step)) (λ next there so. (tt, last_ends next steps on))
    ]

-- ---- both ends

abbrev IsOver : Option SessionEnd → Type 0
IsOver over = (by : SessionEnd) × (over ≡ Some by)

not_over : (over : Option SessionEnd) → IsOver over → over ≡ None → ⊥
not_over over is none = differ (sym is.1 ∙ none)
  where
    differ : Some is.0 ≡ None → ⊥
    differ same = absurd cc

serve_last : (c : ServeConfig) (s : Stand) (step : Step) (over : Option SessionEnd) → s.over ≡ over → IsLast step → Keeps Any Any (λ (t : Stand). IsOver t.over) (serving.steps_unless c s step over)
serve_last c s step (Some by) is last = (by, is)
serve_last c s (Faulty fault) None is last = (end.Refused fault.code fault.offset, refl)
serve_last c s Spent None is last = (end.Enough, refl)
serve_last c s (Cut have) None is last = (cond (have == 0) end.Ended (end.Torn have), refl)
serve_last c s (Came batch) None is last = absurd last
serve_last c s (Quiet turns) None is last = absurd last

follow_last : (c : FollowConfig) (s : FollowStand) (step : Step) (over : Option SessionEnd) → s.over ≡ over → IsLast step → Keeps Any Any (λ (t : FollowStand). IsOver t.over) (following.steps_unless c s step over)
follow_last c s step (Some by) is last = (by, is)
follow_last c s (Faulty fault) None is last = (end.Refused fault.code fault.offset, refl)
follow_last c s Spent None is last = (end.Enough, refl)
follow_last c s (Cut have) None is last = (cond (have == 0) end.Ended (end.Torn have), refl)
follow_last c s (Came batch) None is last = absurd last
follow_last c s (Quiet turns) None is last = absurd last

serve_ends : (c : ServeConfig) (turns : List Turn) → 0 < c.octets → c.octets ≤ octets_in turns → Keeps Any Any (λ (s : Stand). IsOver s.over) (serving.session c turns)
serve_ends c turns some most =
    last_ends (λ (s : Stand). IsOver s.over) (serving.react c) serving.note
    (λ s step is. subst (λ t. Keeps Any Any (λ (u : Stand). IsOver u.over) t) (sym (serve_over c s is.0 is.1 step)) is)
    (λ s step last. serve_last c s step s.over refl last) begin (heard true c.octets turns).0 (reaches true c.octets [] 0 0 turns some (omega (arith, most)))

follow_ends : (c : FollowConfig) (mirror : Held) (turns : List Turn) → 0 < c.octets → c.octets ≤ octets_in turns → Keeps Any Any (λ (s : FollowStand). IsOver s.over) (following.session c mirror turns)
follow_ends c mirror turns some most =
    last_ends (λ (s : FollowStand). IsOver s.over) (following.react c) following.note
    (λ s step is. subst (λ t. Keeps Any Any (λ (u : FollowStand). IsOver u.over) t) (sym (follow_over c s is.0 is.1 step)) is)
    (λ s step last. follow_last c s step s.over refl last) (follow_begin mirror) (heard false c.octets turns).0 (reaches false c.octets [] 0 0 turns some (omega (arith, most)))

pub serves_below : (chronicle : Chronicle) (c : ServeConfig) (turns : List Turn) (places : List ℕ) → 0 < c.octets → serve_end (served chronicle c turns places) ≡ None → octets_in turns < c.octets
serves_below chronicle c turns places some none = elim (cases_lt (octets_in turns) c.octets) [
  | inl less ↦ less
  | inr most ↦ absurd (not_over (serve_end (served chronicle c turns places)) (given_keeps (λ (s : Stand). IsOver s.over) (at_places chronicle) (length chronicle.entries) (serving.session c turns) places (serve_ends c turns some most)) none)
]

pub follows_below : (mirror : Held) (c : FollowConfig) (turns : List Turn) → 0 < c.octets → follow_end (followed mirror c turns) ≡ None → octets_in turns < c.octets
follows_below mirror c turns some none = elim (cases_lt (octets_in turns) c.octets) [
  | inl less ↦ less
  | inr most ↦ absurd (not_over (follow_end (followed mirror c turns)) (given_keeps (λ (s : FollowStand). IsOver s.over) nobody 0 (following.session c mirror turns) [] (follow_ends c mirror turns some most)) none)
]

pub sessions_take_at_most : SessionsTakeAtMost
sessions_take_at_most = record { serves = serves_below; follows = follows_below }
