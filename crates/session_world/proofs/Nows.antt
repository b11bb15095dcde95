-- A talk of which the last questions were asked now.
use Rattle.std.proofs.Common.{◌≡◌, ◌+◌, ℕ, List, [], ◌∷◌, ◌++◌, true, false, length, refl, sym, ap, ap₂, subst, ◌∙◌, arith}
use Rattle.collector_core.specs.declared.chronicle.Mark.{Mark}
use Rattle.collector_core.specs.Chronicle.{Chronicle}
use Rattle.collector_core.specs.Desks.{AreOthers, AreOwn, Rise, behind}
use Rattle.session_talk.specs.Talk.{Talk, Done, Ask, Write, Note}
use Rattle.session_talk.specs.Course.{Answers, Gives}
use Rattle.session_talk.specs.Given.{given, placed, after_octets}

-- All of the places are this one.
abbrev pub AreNow : ℕ → List ℕ → Type 0
AreNow now [] = Unit {0}
AreNow now (place ∷ places) = (place ≡ now) × AreNow now places

module _ {Q : Type 0} {R : Q → Type 0} {N A : Type 0} where
  pub given_now : (answers : Answers Q R) (now : ℕ) (talk : Talk Q R N A) (places later out : List ℕ) (value : A)
      → AreNow now later → Gives answers talk (places ++ later) out value → given answers now talk places ≡ (out, value)
  given_now answers now (Done x) places later out value are gives = rw (gives.1, gives.2) refl
  given_now answers now (Ask question talk) [] [] out value are gives = absurd gives
  given_now answers now (Ask question talk) [] (place ∷ later) out value are gives =
      given_now answers now (talk (answers now question)) [] later out value are.1 (subst (λ (n : ℕ). Gives answers (talk (answers n question)) later out value) are.0 gives)
  given_now answers now (Ask question talk) (place ∷ places) later out value are gives = given_now answers now (talk (answers place question)) places later out value are gives
  given_now answers now (Write octets talk) places later out value are gives =
      ap (after_octets octets) (given_now answers now talk places later gives.0 value are gives.2) ∙ ap (λ (o : List ℕ). (o, value)) (sym gives.1)
  given_now answers now (Note note talk) places later out value are gives = given_now answers now talk places later out value are gives

  pub placed_now : (answers : Answers Q R) (now : ℕ) (talk : Talk Q R N A) (places later out : List ℕ) (value : A)
      → AreNow now later → Gives answers talk (places ++ later) out value → placed answers now talk places ≡ places ++ later
  placed_now answers now (Done x) places later out value are gives = sym gives.0
  placed_now answers now (Ask question talk) [] [] out value are gives = absurd gives
  placed_now answers now (Ask question talk) [] (place ∷ later) out value are gives =
      ap₂ (λ (n : ℕ) (ns : List ℕ). n ∷ ns) (sym are.0)
      (placed_now answers now (talk (answers now question)) [] later out value are.1 (subst (λ (n : ℕ). Gives answers (talk (answers n question)) later out value) are.0 gives))
  placed_now answers now (Ask question talk) (place ∷ places) later out value are gives =
      ap (λ (ns : List ℕ). place ∷ ns) (placed_now answers now (talk (answers place question)) places later out value are gives)
  placed_now answers now (Write octets talk) places later out value are gives = placed_now answers now talk places later gives.0 value are gives.2
  placed_now answers now (Note note talk) places later out value are gives = placed_now answers now talk places later out value are gives

-- No entry is one's own and another's.
pub none_both : (marks : List Mark) → AreOwn marks → AreOthers marks → marks ≡ []
none_both [] own others = refl
none_both (mark ∷ marks) own others = absurd (differ (sym own.0 ∙ others.0))
  where
    differ : true ≡ false → ⊥
    differ same = absurd cc

-- Steps among no entries are at the end of the chronicle.
pub steps_now : (chronicle : Chronicle) (low : ℕ) (steps : List ℕ) → Rise low 0 steps → AreNow (length chronicle.entries) (behind chronicle steps)
steps_now chronicle low [] rise = tt
steps_now chronicle low (step ∷ steps) rise = (omega (arith, rise.1), steps_now chronicle step steps rise.2)
