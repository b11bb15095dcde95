-- The rules applied to some steps and then to others.
use Rattle.std.proofs.Common.{◌≡◌, ℕ, List, [], ◌∷◌, ◌++◌, refl, sym, ap, subst, subst₂, ◌∙◌, append_assoc, append-nil}
use Rattle.std.proofs.Math.Path.{fun_ext}
use Rattle.session_talk.specs.Talk.{Talk, Done, Note, and_then}
use Rattle.session_talk.specs.Course.{Answers, Gives, Breaks}
use Rattle.session_talk.proofs.Joining.{then_then}
use Rattle.session_talk.proofs.Courses.{gives_then, parts, breaks_first, breaks_then}
use Rattle.session_hear.specs.Step.{Step}
use Rattle.session_hear.specs.Serving.{serve}

module _ {Q : Type 0} {R : Q → Type 0} {N S : Type 0} (react : S → Step → Talk Q R N S) (note : S → N) where
  -- Some steps and then others.
  pub serve_append : (standing : S) (steps later : List Step)
      → serve react note standing (steps ++ later) ≡ and_then (serve react note standing steps) (λ next. serve react note next later)
  serve_append standing [] later = refl
  serve_append standing (step ∷ steps) later =
      ap (and_then (react standing step)) (fun_ext (λ next. ap (Note (note next)) (serve_append next steps later)))
      ∙ sym (then_then (react standing step) (λ next. Note (note next) (serve react note next steps)) (λ next. serve react note next later))

  -- Both go to their ends.
  pub serve_gives : (answers : Answers Q R) (start middle end : S) (steps later : List Step) (places more out rest : List ℕ)
      → Gives answers (serve react note start steps) places out middle → Gives answers (serve react note middle later) more rest end
      → Gives answers (serve react note start (steps ++ later)) (places ++ more) (out ++ rest) end
  serve_gives answers start middle end steps later places more out rest first second =
      subst (λ (talk : Talk Q R N S). Gives answers talk (places ++ more) (out ++ rest) end) (sym (serve_append start steps later))
      (gives_then answers (serve react note start steps) (λ next. serve react note next later) places more out rest middle end first second)

  -- The first go to their end, and the others break off.
  pub serve_breaks : (answers : Answers Q R) (start middle : S) (steps later : List Step) (places more out rest : List ℕ) (noted : N)
      → Gives answers (serve react note start steps) places out middle → Breaks answers (note middle) (serve react note middle later) more rest noted
      → Breaks answers (note start) (serve react note start (steps ++ later)) (places ++ more) (out ++ rest) noted
  serve_breaks answers start middle [] later places more out rest noted first second = rw (first.0, first.1, sym first.2) second
  serve_breaks answers start middle (step ∷ steps) later places more out rest noted first second =
      let p = parts answers (react start step) (λ next. Note (note next) (serve react note next steps)) places out middle first in
      let broke = breaks_then answers (note start) note (react start step) (λ next. serve react note next (steps ++ later)) p.first (p.later ++ more) p.begun (p.rest ++ rest) p.value noted
      p.gives (serve_breaks answers p.value middle steps later p.later more p.rest rest noted p.gives_later second) in
      subst₂ (λ (ps os : List ℕ). Breaks answers (note start) (serve react note start (step ∷ steps ++ later)) ps os noted)
      (sym (ap (λ (o : List ℕ). o ++ more) p.places_join ∙ append_assoc p.first p.later more))
      (sym (ap (λ (o : List ℕ). o ++ rest) p.octets_join ∙ append_assoc p.begun p.rest rest))
      broke

  -- The first break off, and so do all.
  pub serve_breaks_first : (answers : Answers Q R) (last : N) (start : S) (steps later : List Step) (places out : List ℕ) (noted : N)
      → Breaks answers last (serve react note start steps) places out noted → Breaks answers last (serve react note start (steps ++ later)) places out noted
  serve_breaks_first answers last start steps later places out noted breaks =
      subst (λ (talk : Talk Q R N S). Breaks answers last talk places out noted) (sym (serve_append start steps later))
      (breaks_first answers last (serve react note start steps) (λ next. serve react note next later) places out noted breaks)

  -- One step.
  pub one_gives : (answers : Answers Q R) (standing next : S) (step : Step) (places out : List ℕ)
      → Gives answers (react standing step) places out next → Gives answers (serve react note standing (step ∷ [])) places out next
  one_gives answers standing next step places out gives =
      subst₂ (λ (ps os : List ℕ). Gives answers (serve react note standing (step ∷ [])) ps os next) (append-nil places) (append-nil out)
      (gives_then answers (react standing step) (λ x. Note (note x) (Done x)) places [] out [] next next gives (refl, refl, refl))

  pub one_breaks : (answers : Answers Q R) (last : N) (standing : S) (step : Step) (later : List Step) (places out : List ℕ) (noted : N)
      → Breaks answers last (react standing step) places out noted → Breaks answers last (serve react note standing (step ∷ later)) places out noted
  one_breaks answers last standing step later places out noted breaks =
      breaks_first answers last (react standing step) (λ next. Note (note next) (serve react note next later)) places out noted breaks

  -- An end that does nothing more.
  pub over_gives : (answers : Answers Q R) (standing : S) (steps : List Step) → ((step : Step) → react standing step ≡ Done standing)
      → Gives answers (serve react note standing steps) [] [] standing
  over_gives answers standing [] over = (refl, refl, refl)
  over_gives answers standing (step ∷ steps) over =
      subst (λ (talk : Talk Q R N S). Gives answers (and_then talk (λ next. Note (note next) (serve react note next steps))) [] [] standing)
      (sym (over step)) (over_gives answers standing steps over)
