-- What is printed at once of the octets of an input.
use Rattle.std.specs.Prelude.{ℕ, List, [], ◌∷◌, codes}
use Rattle.command_text.specs.declared.answer.Answer.{Answer}
use Rattle.command_text.specs.declared.ending.Ending.{Ending}
use Rattle.command_text.specs.declared.ending.Ending.TheVariants as ending
use Rattle.command_text.specs.Text.{refusal}

-- The text of an input that is refused.
abbrev pub refusal_answer : List ℕ → Answer
refusal_answer text = record { text = text; ending = ending.Refused }

-- The input has more than it may have, octets or parts.
abbrev pub limit_answer : ℕ → Answer
limit_answer most = refusal_answer (refusal (codes "limit") most)

-- How the text of an input ends in which all this is wrong.
abbrev pub ending_of : {A : Type 0} → List A → Ending
ending_of [] = ending.Whole
ending_of (first ∷ others) = ending.Findings
