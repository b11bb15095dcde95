-- What a call says that goes on with a session: which talk it held, or where the talk broke off
-- since memory ran out.
use Rattle.std.specs.Prelude.{◌≡◌, ℕ, List, [], ◌++◌, Result, length, MatchResult}
use Rattle.collector_core.specs.declared.chronicle.Mark.{Mark}
use Rattle.collector_core.specs.Chronicle.{Chronicle, extended}
use Rattle.collector_core.specs.Desks.{AreOthers, Rise, behind, entries}
use Rattle.session_talk.specs.Talk.{Talk}
use Rattle.session_talk.specs.Course.{Answers, Gives, Breaks}
use Rattle.session_rules.specs.Questions.{Question, Reply, at_places}

-- ---- calls that ask a desk

-- A desk: it stands for chronicles, and between two of its states entries came.
module _ {D : Type 0} (stands : D → Chronicle → Type 0) (went : D → List Mark → D → Type 0) where
  -- From the one state to the other others' entries came, questions were asked at steps among them,
  -- and octets were written after those before. Of each chronicle that the desk stood for, with
  -- these entries after it, this holds at the places of the steps.
  pub record Talks (old new : D) (before after : List ℕ) (holds : Chronicle → List ℕ → List ℕ → Type 0) : Type 0 where
    pub others : List Mark
    pub theirs : AreOthers others
    pub grows : went old others new
    pub steps : List ℕ
    pub rise : Rise 0 (length others) steps
    pub out : List ℕ
    pub is : after ≡ before ++ out
    pub gives : (chronicle : Chronicle) → stands old chronicle → holds (extended chronicle (entries others)) (behind chronicle steps) out

  -- The talk was held to its end, and came to the value; or it broke off, and this is what is
  -- noted. Before it `last` was noted.
  abbrev pub Talked : {N A T E : Type 0} → D → D → List ℕ → List ℕ → N → Talk Question Reply N A → A → N → Result T E → Type 0
  Talked old new before after last talk value noted result =
      MatchResult result (λ _. Talks old new before after (λ chronicle places out. Gives (at_places chronicle) talk places out value))
      (λ _. Talks old new before after (λ chronicle places out. Breaks (at_places chronicle) last talk places out noted))

  -- So of a talk that writes and notes nothing.
  abbrev pub Drafted : {A T E : Type 0} → D → D → Talk Question Reply (Unit {0}) A → A → Result T E → Type 0
  Drafted old new talk value result = Talked old new [] [] tt talk value tt result

-- ---- calls that ask nobody

-- Octets were written after those before, and whatever is replied this holds.
pub record Spoke {Q : Type 0} {R : Q → Type 0} (before after : List ℕ) (holds : Answers Q R → List ℕ → Type 0) : Type 0 where
  pub out : List ℕ
  pub is : after ≡ before ++ out
  pub gives : (replies : Answers Q R) → holds replies out

-- The talk was held to its end, or broke off.
abbrev pub Spoken : {Q : Type 0} {R : Q → Type 0} {N A T E : Type 0} → List ℕ → List ℕ → N → Talk Q R N A → A → N → Result T E → Type 0
Spoken before after last talk value noted result =
    MatchResult result (λ _. Spoke before after (λ replies out. Gives replies talk [] out value))
    (λ _. Spoke before after (λ replies out. Breaks replies last talk [] out noted))
