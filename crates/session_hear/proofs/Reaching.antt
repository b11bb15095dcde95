-- The loop over a piece, of any end: what was heard of the piece so far, and that the end did what
-- its rules say to it.
use Rattle.std.proofs.Common.{◌≡◌, ℕ, ◌+◌, ◌≤◌, ◌<◌, Bool, true, false, eqb, List, [], ◌∷◌, ◌++◌, length, drop, Result, Ok, Err, refl, sym, ap, subst, true-eqb, ◌∙◌, append_assoc, arith, length-drop}
use Rattle.std.proofs.lemmas.List.{nil_from_length}
use Rattle.std.specs.Result.{IsErr}
use Rattle.std.specs.Prelude.{is_ok}
use Rattle.pb_batch.specs.declared.batch.Batch.{Batch}
use Rattle.pb_batch.specs.declared.fault.PbFault.{PbFault}
use Rattle.wire_base.specs.Feeding.{More, Bad, Whole}
use Rattle.pb_batch.specs.Front.{front_of}
use Rattle.session_hear.specs.Step.{Step, Came, Faulty}
use Rattle.session_hear.specs.Hearing.{Hears, Heard, heard_then, heard_octets}
use Rattle.session_hear.proofs.Hearing.{hears_more, hears_bad, hears_whole}

-- What an end of type S beside O did to steps, from the one state to the other. The last argument
-- is whether it did all.
abbrev pub Doing : Type 0 → Type 0 → Type 1
Doing S O = S → O → List Step → S → O → Bool → Type 0

-- The laws of `End`.
abbrev pub None : {S O : Type 0} → Doing S O → Type 0
None did = (end : _) (beside : _) → did end beside [] end beside true

abbrev pub Then : {S O : Type 0} → Doing S O → Type 0
Then did = (one two three : _) (first second third : _) (steps later : List Step) (well : Bool)
    → did one first steps two second true → did two second later three third well → did one first (steps ++ later) three third well

abbrev pub Later : {S O : Type 0} → Bool → Doing S O → Type 0
Later well did = (one two : _) (first second : _) (steps later : List Step) → did one first steps two second well → did one first (steps ++ later) two second false

abbrev pub Rests : {S O : Type 0} → (S → Bool) → Doing S O → Type 0
Rests over did = (end : _) (beside : _) (steps : List Step) → over end ≡ true → did end beside steps end beside true

-- An end that hears batches of the server or else of the client. Of a piece the rest is left, after
-- the steps that are done.
pub record Reached {S O : Type 0} (server : Bool) (did : Doing S O) (quiet count : ℕ) (first : S) (start : O) (now : S) (here : O) (first_held piece held rest : List ℕ) : Type 0 where
  pub done : List Step
  pub silent : ℕ
  pub counted : ℕ
  pub steps : heard_octets server (Hears first_held quiet count) piece ≡ heard_then (done, Hears held silent counted) (λ g. heard_octets server g rest)
  pub so : did first start done now here true
  pub sum : counted + length rest ≡ count + length piece
  pub fresh : length rest ≡ 0 → silent ≡ 0

-- The steps of a piece, of an end that holds octets.
abbrev pub made : Bool → ℕ → ℕ → List ℕ → List ℕ → List Step
made server quiet count held piece = (heard_octets server (Hears held quiet count) piece).0

-- Whether something is left.
pub some_left : (rest : List ℕ) → false ≡ eqb (length rest) 0 → 0 < length rest
some_left [] is = absurd cc
some_left (octet ∷ rest) is = omega arith

pub none_left : (rest : List ℕ) → true ≡ eqb (length rest) 0 → rest ≡ []
none_left rest is = nil_from_length rest (true-eqb (length rest) 0 is)

-- A call that failed is not well.
pub err_is_not_ok : {T E : Type 0} (result : Result T E) → IsErr result → is_ok result ≡ false
err_is_not_ok (Ok value) is = absurd cc
err_is_not_ok (Err error) is = refl

-- Before the first octet.
pub reached_none : {S O : Type 0} {server : Bool} {did : Doing S O} (none : None did) (quiet count : ℕ) (s : S) (o : O) (held piece : List ℕ)
    → 0 < length piece → Reached server did quiet count s o s o held piece held piece
reached_none none quiet count s o held piece some = record {
  done = [];
  silent = quiet;
  counted = count;
  steps = refl;
  so = none s o;
  sum = refl;
  fresh = λ empty. absurd (omega (arith, some, empty));
}

-- ---- where the loop stands after a step, and where it ends

module _ {S O : Type 0} {server : Bool} {did : Doing S O} {quiet count : ℕ} {first : S} {start : O} {now : S} {here : O} {first_held piece held rest : List ℕ}
    (reached : Reached server did quiet count first start now here first_held piece held rest) where
  -- The steps of the whole piece are those done and these.
  ends : (joins : Then did) (later : List Step) (next : S) (there : O) (well : Bool) → made server quiet count first_held piece ≡ reached.done ++ later
      → did now here later next there well → did first start (made server quiet count first_held piece) next there well
  ends joins later next there well steps so =
      subst (λ (all : List Step). did first start all next there well) (sym steps) (joins first now next start here there reached.done later well reached.so so)

  -- Memory ran out before the next step.
  pub broke_off : (stops : Later true did) → did first start (made server quiet count first_held piece) now here false
  broke_off stops =
      subst (λ (all : List Step). did first start all now here false) (sym (ap (λ (h : Heard). h.0) reached.steps))
      (stops first now start here reached.done (heard_octets server (Hears held reached.silent reached.counted) rest).0 reached.so)

  -- All octets were taken.
  pub all_heard : (none : None did) (joins : Then did) → rest ≡ [] → did first start (made server quiet count first_held piece) now here true
  all_heard none joins nothing =
      ends joins [] now here true
      (ap (λ (h : Heard). h.0) reached.steps ∙ ap (λ (o : List ℕ). reached.done ++ (heard_octets server (Hears held reached.silent reached.counted) o).0) nothing)
      (none now here)

  pub all_hears : rest ≡ [] → (heard_octets server (Hears first_held quiet count) piece).1 ≡ Hears held 0 (count + length piece)
  all_hears nothing =
      let empty : length rest ≡ 0 = ap (λ (o : List ℕ). length o) nothing in
      let total : reached.counted ≡ count + length piece = omega (arith, reached.sum, empty) in
      ap (λ (h : Heard). h.1) reached.steps
      ∙ ap (λ (o : List ℕ). (heard_octets server (Hears held reached.silent reached.counted) o).1) nothing
      ∙ ap (λ (n : ℕ). Hears held n reached.counted) (reached.fresh empty)
      ∙ ap (λ (n : ℕ). Hears held 0 n) total

  -- The rest is no whole batch yet.
  more_by : (octets : List ℕ) → rest ≡ octets → 0 < length octets → front_of server (held ++ octets) ≡ More
      → heard_octets server (Hears first_held quiet count) piece ≡ (reached.done ++ [], Hears (held ++ octets) 0 (reached.counted + length octets))
  more_by [] is some more = absurd (omega (arith, some))
  more_by (octet ∷ octets) is some more =
      reached.steps
      ∙ ap (λ (o : List ℕ). heard_then (reached.done, Hears held reached.silent reached.counted) (λ g. heard_octets server g o)) is
      ∙ ap (λ (h : Heard). (reached.done ++ h.0, h.1)) (hears_more server held reached.silent reached.counted octet octets more)

  pub wants_more : (none : None did) (joins : Then did) → 0 < length rest → front_of server (held ++ rest) ≡ More → did first start (made server quiet count first_held piece) now here true
  wants_more none joins some more = ends joins [] now here true (ap (λ (h : Heard). h.0) (more_by rest refl some more)) (none now here)

  pub more_hears : 0 < length rest → front_of server (held ++ rest) ≡ More → (heard_octets server (Hears first_held quiet count) piece).1 ≡ Hears (held ++ rest) 0 (count + length piece)
  more_hears some more = ap (λ (h : Heard). h.1) (more_by rest refl some more) ∙ ap (λ (n : ℕ). Hears (held ++ rest) 0 n) reached.sum

  -- The rest has a fault, to which the end did what its rules say, or some of it.
  pub shows : (joins : Then did) (next : S) (there : O) (fault : PbFault) (well : Bool) → front_of server held ≡ More → front_of server (held ++ rest) ≡ Bad fault
      → did now here (Faulty fault ∷ []) next there well → did first start (made server quiet count first_held piece) next there well
  shows joins next there fault well more bad so =
      ends joins (Faulty fault ∷ []) next there well
      (ap (λ (h : Heard). h.0) reached.steps ∙ ap (λ (h : Heard). reached.done ++ h.0) (hears_bad server held reached.silent reached.counted rest fault more bad)) so

  -- The rest begins with a batch.
  module _ (batch : Batch) (used : ℕ) (more : front_of server held ≡ More) (whole : front_of server (held ++ rest) ≡ Whole batch (length held + used)) where
    batch_steps : heard_octets server (Hears first_held quiet count) piece
        ≡ heard_then (reached.done ++ Came batch ∷ [], Hears [] 0 (reached.counted + used)) (λ g. heard_octets server g (drop used rest))
    batch_steps =
        let later : Heard = heard_octets server (Hears [] 0 (reached.counted + used)) (drop used rest) in
        reached.steps
        ∙ ap (λ (h : Heard). (reached.done ++ h.0, h.1)) (hears_whole server held reached.silent reached.counted rest batch used more whole)
        ∙ ap (λ (s : List Step). (s, later.1)) (sym (append_assoc reached.done (Came batch ∷ []) later.0))

    all_steps : made server quiet count first_held piece ≡ reached.done ++ (Came batch ∷ [] ++ (heard_octets server (Hears [] 0 (reached.counted + used)) (drop used rest)).0)
    all_steps = ap (λ (h : Heard). h.0) batch_steps ∙ append_assoc reached.done (Came batch ∷ []) (heard_octets server (Hears [] 0 (reached.counted + used)) (drop used rest)).0

    -- What the rules say to it was done.
    pub goes_on : (joins : Then did) (next : S) (there : O) → used ≤ length rest → did now here (Came batch ∷ []) next there true → Reached server did quiet count first start next there first_held piece [] (drop used rest)
    goes_on joins next there within so = record {
      done = reached.done ++ Came batch ∷ [];
      silent = 0;
      counted = reached.counted + used;
      steps = batch_steps;
      so = joins first now next start here there reached.done (Came batch ∷ []) true reached.so so;
      sum = omega (arith, reached.sum, within, length-drop used rest);
      fresh = λ empty. refl;
    }

    -- It ended the session.
    pub is_over : {over : S → Bool} (joins : Then did) (rests : Rests over did) (next : S) (there : O) → over next ≡ true
        → did now here (Came batch ∷ []) next there true → did first start (made server quiet count first_held piece) next there true
    is_over joins rests next there ended so =
        let later : List Step = (heard_octets server (Hears [] 0 (reached.counted + used)) (drop used rest)).0 in
        ends joins (Came batch ∷ [] ++ later) next there true all_steps (joins now next next here there there (Came batch ∷ []) later true so (rests next there later ended))

    -- Memory ran out on the way.
    pub is_lost : (joins : Then did) (broke : Later false did) (next : S) (there : O) → did now here (Came batch ∷ []) next there false → did first start (made server quiet count first_held piece) next there false
    is_lost joins broke next there so =
        let later : List Step = (heard_octets server (Hears [] 0 (reached.counted + used)) (drop used rest)).0 in
        ends joins (Came batch ∷ [] ++ later) next there false all_steps (broke now next here there (Came batch ∷ []) later so)
