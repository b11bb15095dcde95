-- A script, line by line.
use Rattle.std.proofs.Common.{◌≡◌, ◌∙◌, ℕ, suc, ◌+◌, ◌++◌, Bool, true, List, [], Option, Some, None, Result, Ok, Err, refl, sym, ap, subst, append_assoc}
use Rattle.std.specs.Prelude.{IfOk}
use Rattle.wire_base.specs.declared.values.memory.Memory.{Memory}
use Rattle.command_text.specs.declared.answer.Answer.{Answer}
use Rattle.session_script.specs.declared.line.Line.{Line}
use Rattle.session_script.specs.declared.playing.Playing.{Playing as PlayingView}
use Rattle.session_script.specs.Played.{PlaysAll, PlaysOne, StandsFor}
use Rattle.session_script.specs.Replay.{IsPlayed, Played, Playing, Plays, PlaysFirst, after_text, at_end, bad, past_lines}
use Rattle.session_script.specs.Script.{LineIs, split_once, words_of}

-- ---- texts before an answer

nothing_before : (answer : Answer) → after_text [] answer ≡ answer
nothing_before answer = refl

two_before : (one two : List ℕ) (answer : Answer) → after_text one (after_text two answer) ≡ after_text (one ++ two) answer
two_before one two answer = ap (λ (text : List ℕ). after_by text answer) (sym (append_assoc one two answer.text))
  where
    after_by : List ℕ → Answer → Answer
    after_by text answer = record { text = text; ending = answer.ending }

-- ---- lines

-- What is printed of octets that begin with a line.
plays_line : (n number : ℕ) (goes_on : Bool) (p : Playing) (octets line after : List ℕ) (said : Line) (made : Played) (answer : Answer) → Some (line, after) ≡ split_once 10 octets → LineIs (words_of line) (Some said)
    → IsPlayed p said made → Plays n (number + 1) goes_on made.0 after answer → Plays (suc n) number goes_on p octets (after_text made.1 answer)
unfolding Plays
plays_line n number goes_on p octets line after said made answer split is played plays =
    subst (λ (parts : Option (List ℕ × List ℕ)). PlaysFirst (Plays n (number + 1) goes_on) number goes_on p octets parts (after_text made.1 answer)) split
    (Some said, is, (made, played, (answer, plays, refl)))

plays_bad : (n number : ℕ) (goes_on : Bool) (p : Playing) (octets line after : List ℕ) → Some (line, after) ≡ split_once 10 octets → LineIs (words_of line) None → Plays (suc n) number goes_on p octets (bad number)
unfolding Plays
plays_bad n number goes_on p octets line after split is =
    subst (λ (parts : Option (List ℕ × List ℕ)). PlaysFirst (Plays n (number + 1) goes_on) number goes_on p octets parts (bad number)) split (None, is, refl)

plays_end : (n number : ℕ) (goes_on : Bool) (p : Playing) (octets : List ℕ) → None ≡ split_once 10 octets → Plays (suc n) number goes_on p octets (at_end number goes_on octets)
unfolding Plays
plays_end n number goes_on p octets split =
    subst (λ (parts : Option (List ℕ × List ℕ)). PlaysFirst (Plays n (number + 1) goes_on) number goes_on p octets parts (at_end number goes_on octets)) split refl

plays_past : (number : ℕ) (goes_on : Bool) (p : Playing) (octets : List ℕ) → Plays 0 number goes_on p octets (past_lines number goes_on octets)
unfolding Plays
plays_past number goes_on p octets = refl

-- ---- what was played so far

-- The lines before the one of this number were played and printed.
pub record Reached (goes_on : Bool) (first : Playing) (octets : List ℕ) (view : PlayingView) (left number : ℕ) (rest out : List ℕ) : Type 0 where
  pub p : Playing
  pub stands : StandsFor view p
  pub goes : (answer : Answer) → Plays left number goes_on p rest answer → Plays 99999 2 goes_on first octets (after_text out answer)

module _ (goes_on : Bool) (first : Playing) (octets : List ℕ) where
  pub reached_first : (view : PlayingView) → StandsFor view first → (out : List ℕ) → out ≡ [] → Reached goes_on first octets view 99999 2 octets out
  reached_first view stands out none = record {
    p = first;
    stands = stands;
    goes = λ answer plays. subst (λ (text : List ℕ). Plays 99999 2 goes_on first octets (after_text text answer)) (sym none)
        (subst (λ (a : Answer). Plays 99999 2 goes_on first octets a) (sym (nothing_before answer)) plays);
  }

  module _ (view : PlayingView) (left n number : ℕ) (rest out : List ℕ) (one : left ≡ suc n) (reached : Reached goes_on first octets view left number rest out) where
    goes_one : (answer : Answer) → Plays (suc n) number goes_on reached.p rest answer → Plays 99999 2 goes_on first octets (after_text out answer)
    goes_one answer plays = reached.goes answer (subst (λ (k : ℕ). Plays k number goes_on reached.p rest answer) (sym one) plays)

    pub reached_next : (line after : List ℕ) (later : PlayingView) (longer : List ℕ) → Some (line, after) ≡ split_once 10 rest → PlaysOne reached.p line out true later longer
        → Reached goes_on first octets later n (number + 1) after longer
    reached_next line after later longer split plays = record {
      p = plays.2.2.made.0;
      stands = plays.2.2.stands;
      goes = λ answer next. subst (λ (a : Answer). Plays 99999 2 goes_on first octets a)
          (two_before out plays.2.2.made.1 answer ∙ ap (λ (text : List ℕ). after_text text answer) (ap (λ (text : List ℕ). out ++ text) (sym plays.2.2.text_is) ∙ sym plays.2.1))
          (goes_one (after_text plays.2.2.made.1 answer) (plays_line n number goes_on reached.p rest line after plays.0 plays.2.2.made answer split plays.1 plays.2.2.is next));
    }

    pub reached_bad : (line after : List ℕ) → Some (line, after) ≡ split_once 10 rest → LineIs (words_of line) None → Plays 99999 2 goes_on first octets (after_text out (bad number))
    reached_bad line after split is = goes_one (bad number) (plays_bad n number goes_on reached.p rest line after split is)

    pub reached_end : None ≡ split_once 10 rest → Plays 99999 2 goes_on first octets (after_text out (at_end number goes_on rest))
    reached_end split = goes_one (at_end number goes_on rest) (plays_end n number goes_on reached.p rest split)

  pub reached_past : (view : PlayingView) (left number : ℕ) (rest out : List ℕ) → left ≡ 0 → Reached goes_on first octets view left number rest out
      → Plays 99999 2 goes_on first octets (after_text out (past_lines number goes_on rest))
  reached_past view left number rest out none reached =
      reached.goes (past_lines number goes_on rest) (subst (λ (k : ℕ). Plays k number goes_on reached.p rest (past_lines number goes_on rest)) (sym none) (plays_past number goes_on reached.p rest))

-- ---- the whole script

pub all_played : (goes_on : Bool) (octets : List ℕ) (view : PlayingView) (out text : List ℕ) (answer want : Answer) (result : Result Answer Memory) → IfOk result (λ (made : Answer). made ≡ after_text text answer)
    → text ≡ out → answer ≡ want → ((p : Playing) → StandsFor view p → Plays 99999 2 goes_on p octets (after_text out want))
    → IfOk result (λ (made : Answer). (p : Playing) → StandsFor view p → PlaysAll goes_on p octets made)
all_played goes_on octets view out text answer want (Ok made) is put same plays = λ p stands.
    subst (λ (a : Answer). Plays 99999 2 goes_on p octets a) (sym (is ∙ ap (λ (t : List ℕ). after_text t answer) put ∙ ap (λ (a : Answer). after_text out a) same)) (plays p stands)
all_played goes_on octets view out text answer want (Err memory) is put same plays = tt
