-- What the loop over a link did, call by call.
use Rattle.std.proofs.Common.{◌≡◌, ◌≢◌, ◌+◌, ◌-◌, ℕ, Bool, true, false, List, [], ◌++◌, Option, Some, None, length, take, drop, refl, sym, ap, subst, ◌∙◌, arith}
use Rattle.std.proofs.Math.Seq.{drop-length, take-add}
use Rattle.std.proofs.lemmas.List.{length-drop, take_all}
use Rattle.std.specs.Prelude.{OnOk, Result, Ok, Err}
use Rattle.wire_base.specs.Outside.{Adds}
use Rattle.wire_base.specs.Turns.{Turn}
use Rattle.wire_base.proofs.Streams.{adds_none, adds_more}
use Rattle.session_rules.specs.declared.end.SessionEnd.{SessionEnd}
use Rattle.session_rules.specs.declared.end.SessionEnd.TheVariants as end
use Rattle.session_rules.specs.declared.end.Turn.{Turn as Answer}
use Rattle.session_rules.specs.declared.end.Turn.TheVariants as answer
use Rattle.session_core.specs.Driving.{Drives, answer_of, is_memory}

module _ {C O : Type 0} (ran : C → O → List Turn → List ℕ → C → O → Type 0) where
  -- Nothing was done.
  pub drives_none : (core : C) (beside : O) (taken taken-after : Option (List Turn)) (given given-after : Option (List ℕ)) → taken-after ≡ taken → given-after ≡ given → ran core beside [] [] core beside
      → Drives ran core beside core beside taken taken-after given given-after
  drives_none core beside taken taken-after given given-after same alike so = record {
    turns = [];
    octets = [];
    took = same ∙ adds_none taken;
    gave = alike ∙ adds_none given;
    so = so;
  }

  -- Octets were given.
  pub drives_given : (core after : C) (beside : O) (taken taken-after : Option (List Turn)) (given given-after : Option (List ℕ)) (octets : List ℕ) → taken-after ≡ taken → Adds given given-after octets
      → ran core beside [] octets after beside → Drives ran core beside after beside taken taken-after given given-after
  drives_given core after beside taken taken-after given given-after octets same gave so = record {
    turns = [];
    octets = octets;
    took = same ∙ adds_none taken;
    gave = gave;
    so = so;
  }

  -- Turns were taken.
  pub drives_taken : (core after : C) (beside beside-after : O) (taken taken-after : Option (List Turn)) (given given-after : Option (List ℕ)) (turns : List Turn) → Adds taken taken-after turns → given-after ≡ given
      → ran core beside turns [] after beside-after → Drives ran core beside after beside-after taken taken-after given given-after
  drives_taken core after beside beside-after taken taken-after given given-after turns took alike so = record {
    turns = turns;
    octets = [];
    took = took;
    gave = alike ∙ adds_none given;
    so = so;
  }

  module _ (over : C → Option SessionEnd)
      (joins : (one two three : C) (first second third : O) (turns more : List Turn) (octets rest : List ℕ) → ran one first turns octets two second → over two ≢ Some end.Memory → ran two second more rest three third
      → ran one first (turns ++ more) (octets ++ rest) three third) where
    -- One after the other.
    pub drives_then : (one two three : C) (first second third : O) (taken taken-mid taken-after : Option (List Turn)) (given given-mid given-after : Option (List ℕ)) → over two ≢ Some end.Memory
        → Drives ran one first two second taken taken-mid given given-mid → Drives ran two second three third taken-mid taken-after given-mid given-after
        → Drives ran one first three third taken taken-after given given-after
    drives_then one two three first second third taken taken-mid taken-after given given-mid given-after other a b = record {
      turns = a.turns ++ b.turns;
      octets = a.octets ++ b.octets;
      took = adds_more taken taken-mid taken-after a.turns b.turns a.took b.took;
      gave = adds_more given given-mid given-after a.octets b.octets a.gave b.gave;
      so = joins one two three first second third a.turns b.turns a.octets b.octets a.so other b.so;
    }

-- Of what is there or not.
pub live_is : (by : Option SessionEnd) → by ≡ None → by ≢ Some end.Memory
live_is by live memory = let both : None ≡ Some end.Memory = sym live ∙ memory in absurd cc

-- ---- octets that are given

-- The text from a place on.
abbrev pub rest_of : List ℕ → ℕ → List ℕ
rest_of text count = take (length text - count) (drop count text)

rest_is : (text : List ℕ) (count : ℕ) → rest_of text count ≡ drop count text
rest_is text count = take_all (length text - count) (drop count text) (omega (arith, length-drop count text))

pub rest_length : (text : List ℕ) (count : ℕ) → length (rest_of text count) ≡ length text - count
rest_length text count = ap length (rest_is text count) ∙ length-drop count text

pub gave_more : (before mid after : Option (List ℕ)) (text : List ℕ) (count more : ℕ) → Adds before mid (take count text) → Adds mid after (take more (rest_of text count)) → Adds before after (take (count + more) text)
gave_more before mid after text count more first second =
    subst (λ (o : List ℕ). Adds before after o) (ap (λ (rest : List ℕ). take count text ++ take more rest) (rest_is text count) ∙ sym (take-add count more text))
    (adds_more before mid after (take count text) (take more (rest_of text count)) first second)

-- ---- turns

-- The session goes on, or it ended so.
pub goes_on : (by : Option SessionEnd) → answer.Goes ≡ answer_of by → by ≡ None
goes_on None is = refl
goes_on (Some by) is = absurd cc

pub is_over : (by : SessionEnd) (over : Option SessionEnd) → answer.Over by ≡ answer_of over → over ≡ Some by
is_over by None is = absurd cc
is_over by (Some other) is = ap (λ (a : Answer). ended_by a) (sym is)
  where
    ended_by : Answer → Option SessionEnd
    ended_by answer.Goes = None
    ended_by (answer.Over by) = Some by

-- Memory did not run out.
pub other_is : (by : SessionEnd) (over : Option SessionEnd) → over ≡ Some by → is_memory by ≡ false → over ≢ Some end.Memory
other_is by over is other memory =
    let both : Some by ≡ Some end.Memory = sym is ∙ memory in
    let lost : true ≡ false = ap (λ (o : Option SessionEnd). of_some o) (sym both) ∙ other in absurd cc
  where
    of_some : Option SessionEnd → Bool
    of_some (Some by) = is_memory by
    of_some None = false

-- All was given, so nothing waits.
pub all_given : {T E : Type 0} (result : Result T E) (text waits left : List ℕ) (count : ℕ) → text ≡ waits → OnOk result (count ≡ length text) → left ≡ drop count waits → OnOk result (left ≡ [])
all_given (Ok done) text waits left count same whole rest = rest ∙ ap (λ (n : ℕ). drop n waits) (whole ∙ ap length same) ∙ drop-length waits
all_given (Err error) text waits left count same whole rest = tt
