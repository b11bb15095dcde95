-- What is printed of octets of which not all may be looked at, and of those that may.
use Rattle.std.proofs.Common.{◌≡◌, ℕ, zero, suc, ◌+◌, min, Bool, true, List, [], ◌∷◌, Option, Some, None, length, take, Result, Ok, Err, refl, ap, subst₂, ◌∙◌}
use Rattle.std.specs.Prelude.{IfOk, nat_lt}
use Rattle.std.proofs.lemmas.List.{take_min}
use Rattle.wire_base.specs.declared.values.memory.Memory.{Memory}
use Rattle.command_text.specs.declared.answer.Answer.{Answer}
use Rattle.command_text.specs.declared.ending.Ending.TheVariants as ending
use Rattle.session_script.specs.declared.header.Header.{Header}
use Rattle.session_script.specs.declared.line.Line.{Line}
use Rattle.session_script.specs.Replay.{Begins, Playing, Plays, PlaysFirst, PlaysLine, PlaysScript, ReplayTells, SCRIPT_OCTETS, after_text, at_end, bad, opened_by, past_lines, unended}
use Rattle.session_script.specs.Script.{split_once}

-- ---- more octets than may be looked at

-- An answer that refuses.
abbrev pub Refuses : Answer → Type 0
Refuses answer = answer.ending ≡ ending.Refused

refuses : (answer other : Answer) → answer ≡ other → Refuses other → Refuses answer
refuses answer other is refused = ap (λ (a : Answer). a.ending) is ∙ refused

end_refuses : (number : ℕ) (octets : List ℕ) → Refuses (at_end number true octets)
end_refuses number [] = refl
end_refuses number (octet ∷ octets) = refl

past_refuses : (number : ℕ) (octets : List ℕ) → Refuses (past_lines number true octets)
past_refuses number [] = refl
past_refuses number (octet ∷ octets) = refl

-- All that `Next` prints refuses.
abbrev AllRefuse : (Playing → List ℕ → Answer → Type 0) → Type 0
AllRefuse Next = (p : Playing) (octets : List ℕ) (answer : Answer) → Next p octets answer → Refuses answer

line_refuses : (Next : Playing → List ℕ → Answer → Type 0) → AllRefuse Next → (number : ℕ) (p : Playing) (after : List ℕ) (said : Option Line) (answer : Answer) → PlaysLine Next number p after said answer → Refuses answer
line_refuses Next all number p after None answer plays = refuses answer (bad number) plays refl
line_refuses Next all number p after (Some said) answer plays = refuses answer (after_text plays.0.1 plays.2.0) plays.2.2 (all plays.0.0 after plays.2.0 plays.2.1)

first_refuses : (Next : Playing → List ℕ → Answer → Type 0) → AllRefuse Next → (number : ℕ) (p : Playing) (octets : List ℕ) (parts : Option (List ℕ × List ℕ)) (answer : Answer)
    → PlaysFirst Next number true p octets parts answer → Refuses answer
first_refuses Next all number p octets None answer plays = refuses answer (at_end number true octets) plays (end_refuses number octets)
first_refuses Next all number p octets (Some parts) answer plays = line_refuses Next all number p parts.1 plays.0 answer plays.2

plays_refuses : (left number : ℕ) → AllRefuse (Plays left number true)
unfolding Plays
plays_refuses zero number p octets answer plays = refuses answer (past_lines number true octets) plays (past_refuses number octets)
plays_refuses (suc left) number p octets answer plays = first_refuses (Plays left (number + 1) true) (plays_refuses left (number + 1)) number p octets (split_once 10 octets) answer plays

begins_refuses : (after : List ℕ) (header : Option Header) (answer : Answer) → Begins true after header answer → Refuses answer
begins_refuses after None answer begins = refuses answer (bad 1) begins refl
begins_refuses after (Some header) answer begins = plays_refuses 99999 2 (opened_by header) after answer begins

-- A script of which not all may be looked at is refused.
pub script_refuses : (parts : Option (List ℕ × List ℕ)) (answer : Answer) → PlaysScript true parts answer → Refuses answer
script_refuses None answer plays = refuses answer (unended 1 true) plays refl
script_refuses (Some parts) answer plays = begins_refuses parts.1 plays.0 answer plays.2

-- ---- all that may be looked at

pub script_tells : (octets within : List ℕ) (goes_on : Bool) (result : Result Answer Memory) → within ≡ take (min SCRIPT_OCTETS (length octets)) octets → goes_on ≡ nat_lt SCRIPT_OCTETS (length octets)
    → IfOk result (λ (made : Answer). PlaysScript goes_on (split_once 10 within) made) → IfOk result (λ (made : Answer). ReplayTells octets made.text made.ending)
script_tells octets within goes_on (Ok made) front same plays =
    subst₂ (λ (b : Bool) (o : List ℕ). PlaysScript b (split_once 10 o) (record { text = made.text; ending = made.ending })) same (front ∙ take_min SCRIPT_OCTETS octets) plays
script_tells octets within goes_on (Err memory) front same plays = tt
