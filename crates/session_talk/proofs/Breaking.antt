-- A course that broke off is the beginning of one that goes to its end.
use Rattle.std.proofs.Common.{ℕ, List, [], ◌∷◌, ◌++◌, inl, inr, ap, ◌∙◌, append_assoc}
use Rattle.session_talk.specs.Talk.{Talk, Done, Ask, Write, Note}
use Rattle.session_talk.specs.Course.{Answers, Stops, Breaks, Continues}
use Rattle.session_talk.specs.Given.{given, placed}
use Rattle.session_talk.proofs.Computed.{gives_given}

module _ {Q : Type 0} {R : Q → Type 0} {N A : Type 0} (answers : Answers Q R) (now : ℕ) where
  -- It stopped before its first step.
  stopped_continues : (last : N) (talk : Talk Q R N A) (places out : List ℕ) (noted : N) → Stops last places out noted → Continues answers talk places out
  stopped_continues last talk places out noted stops = rw (stops.0, stops.1) (record {
    later = placed answers now talk [];
    rest = (given answers now talk []).0;
    value = (given answers now talk []).1;
    gives = gives_given answers now talk [];
  })

  -- Questions after the break are asked at `now`.
  pub breaks_continue : (last : N) (talk : Talk Q R N A) (places out : List ℕ) (noted : N) → Breaks answers last talk places out noted → Continues answers talk places out
  breaks_continue last (Done value) places out noted breaks = stopped_continues last (Done value) places out noted breaks
  breaks_continue last (Ask question talk) [] out noted breaks = stopped_continues last (Ask question talk) [] out noted breaks
  breaks_continue last (Ask question talk) (place ∷ places) out noted breaks =
      let on = breaks_continue last (talk (answers place question)) places out noted breaks in
      record { later = on.later; rest = on.rest; value = on.value; gives = on.gives }
  breaks_continue last (Write octets talk) places out noted breaks =
      elim breaks [
        | inl stops ↦ stopped_continues last (Write octets talk) places out noted stops
        | inr goes ↦
            let on = breaks_continue last talk places goes.0 noted goes.2 in
            record { later = on.later; rest = on.rest; value = on.value; gives = (goes.0 ++ on.rest, ap (λ (o : List ℕ). o ++ on.rest) goes.1 ∙ append_assoc octets goes.0 on.rest, on.gives) }
      ]
  breaks_continue last (Note note talk) places out noted breaks =
      elim breaks [
        | inl stops ↦ stopped_continues last (Note note talk) places out noted stops
        | inr goes ↦
            let on = breaks_continue note talk places out noted goes in
            record { later = on.later; rest = on.rest; value = on.value; gives = on.gives }
      ]
