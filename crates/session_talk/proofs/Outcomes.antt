-- A talk has one outcome, which depends on the replies at its own places alone.
use Rattle.std.proofs.Common.{◌≡◌, ◌≤◌, ℕ, List, [], ◌∷◌, ◌++◌, inl, inr, sym, ap, subst, ◌∙◌}
use Rattle.std.specs.List.{AllByRecursion}
use Rattle.session_talk.specs.Talk.{Talk, Done, Ask, Write, Note}
use Rattle.session_talk.specs.Course.{Answers, Gives, Breaks, Agree}

module _ {Q : Type 0} {R : Q → Type 0} {N A : Type 0} where
  -- At the same places a talk writes the same octets and comes to the same value.
  pub gives_one : (answers : Answers Q R) (talk : Talk Q R N A) (places out others : List ℕ) (one other : A)
      → Gives answers talk places out one → Gives answers talk places others other → (out ≡ others) × (one ≡ other)
  gives_one answers (Done value) places out others one other first second = (first.1 ∙ sym second.1, first.2 ∙ sym second.2)
  gives_one answers (Ask question talk) [] out others one other first second = absurd first
  gives_one answers (Ask question talk) (place ∷ places) out others one other first second =
      gives_one answers (talk (answers place question)) places out others one other first second
  gives_one answers (Write octets talk) places out others one other first second =
      let same = gives_one answers talk places first.0 second.0 one other first.2 second.2 in
      (first.1 ∙ ap (λ (rest : List ℕ). octets ++ rest) same.0 ∙ sym second.1, same.1)
  gives_one answers (Note note talk) places out others one other first second = gives_one answers talk places out others one other first second

  -- Replies that agree at the places of a talk give the same course.
  pub gives_agree : (most : ℕ) (one other : Answers Q R) (talk : Talk Q R N A) (places out : List ℕ) (value : A)
      → Agree most one other → AllByRecursion (λ (place : ℕ). place ≤ most) places → Gives one talk places out value
      → Gives other talk places out value
  gives_agree most one other (Done given) places out value agree within gives = gives
  gives_agree most one other (Ask question talk) [] out value agree within gives = absurd gives
  gives_agree most one other (Ask question talk) (place ∷ places) out value agree within gives =
      gives_agree most one other (talk (other place question)) places out value agree within.1
      (subst (λ (reply : R question). Gives one (talk reply) places out value) (agree place within.0 question) gives)
  gives_agree most one other (Write octets talk) places out value agree within gives =
      (gives.0, gives.1, gives_agree most one other talk places gives.0 value agree within gives.2)
  gives_agree most one other (Note note talk) places out value agree within gives = gives_agree most one other talk places out value agree within gives

  -- So for a talk that breaks off.
  pub breaks_agree : (most : ℕ) (one other : Answers Q R) (last : N) (talk : Talk Q R N A) (places out : List ℕ) (noted : N)
      → Agree most one other → AllByRecursion (λ (place : ℕ). place ≤ most) places → Breaks one last talk places out noted
      → Breaks other last talk places out noted
  breaks_agree most one other last (Done given) places out noted agree within breaks = breaks
  breaks_agree most one other last (Ask question talk) [] out noted agree within breaks = breaks
  breaks_agree most one other last (Ask question talk) (place ∷ places) out noted agree within breaks =
      breaks_agree most one other last (talk (other place question)) places out noted agree within.1
      (subst (λ (reply : R question). Breaks one last (talk reply) places out noted) (agree place within.0 question) breaks)
  breaks_agree most one other last (Write octets talk) places out noted agree within breaks =
      elim breaks [
        | inl stops ↦ inl stops
        | inr goes ↦ inr (goes.0, goes.1, breaks_agree most one other last talk places goes.0 noted agree within goes.2)
      ]
  breaks_agree most one other last (Note note talk) places out noted agree within breaks =
      elim breaks [
        | inl stops ↦ inl stops
        | inr goes ↦ inr (breaks_agree most one other note talk places out noted agree within goes)
      ]
