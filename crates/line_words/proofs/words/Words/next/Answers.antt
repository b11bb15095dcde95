use Rattle.std.proofs.Common.{◌≡◌, ℕ, List, ◌∷◌, Option, Some, Bor, sym, ap, ap₂, ◌∙◌}
use Rattle.std.specs.Option.{option_map}
use Rattle.line_words.specs.Words.{words, words_left}
use Rattle.line_words.proofs.Wording.{words_found, words_missed}
use Rattle.line_words.proofs.words.Words.next.Goals as goal

-- What is left of a line is its words.
left_is : (left : List (List ℕ)) (rest : Option (Bor (List ℕ))) (line : Bor (List ℕ)) → words_left (option_map (λ (r : Bor (List ℕ)). r.now) rest) ≡ left → rest ≡ Some line → left ≡ words line.now
left_is left rest line view is = sym view ∙ ap (λ (o : Option (Bor (List ℕ))). words_left (option_map (λ (r : Bor (List ℕ)). r.now) o)) is

pub returns-in-None : goal.returns-in-None
returns-in-None c = record { word = left_is c.args.self.now c.self.inside.rest c.in_ok-rest.rest c.self.view_is c.in_ok-rest.was ∙ words_missed c.in_ok-rest.rest.now c.in-None.ensures }

pub returns-in-Some : goal.returns-in-Some
returns-in-Some c = record {
  word =
      left_is c.args.self.now c.self.inside.rest c.in_ok-rest.rest c.self.view_is c.in_ok-rest.was ∙ words_found c.in_ok-rest.rest.now c.in-Some.place c.in-Some.ensures
      ∙ ap₂ (λ (word others : List ℕ). word ∷ words others) (sym c.split_at.ensures.front) (sym c.split_at-in-Some.ensures.back);
}
