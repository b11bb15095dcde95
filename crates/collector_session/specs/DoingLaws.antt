-- What a collector did to some steps, and then to others.
use Rattle.std.proofs.Common.{◌≡◌, ℕ, Bool, true, false, List, [], ◌++◌, Option, Some, None, refl, sym, subst₂, ◌∙◌, append-nil}
use Rattle.std.specs.Prelude.{is_some}
use Rattle.collector_core.specs.declared.chronicle.Mark.{Mark}
use Rattle.collector_core.specs.Chronicle.{Chronicle, extended}
use Rattle.collector_core.specs.Desks.{entries}
use Rattle.session_talk.specs.Course.{Gives, Breaks}
use Rattle.session_talk.proofs.Courses.{stopped}
use Rattle.session_hear.specs.Step.{Step}
use Rattle.session_hear.specs.Serving.{serve}
use Rattle.session_hear.proofs.Serving.{serve_gives, serve_breaks, serve_breaks_first, over_gives}
use Rattle.session_rules.specs.declared.end.SessionEnd.{SessionEnd}
use Rattle.session_rules.specs.Questions.{at_places}
use Rattle.session_rules.specs.ServeRules.{note, react}
use Rattle.session_rules.proofs.Desking.{talks_as, talks_none, talks_then}
use Rattle.session_rules.proofs.Ends.{serve_over}
use Rattle.collector_session.specs.declared.end.ServeEnd.{ServeEnd}
use Rattle.collector_session.specs.Doing.{Course, Did, standing}

-- What is there.
some_is : (over : Option SessionEnd) → is_some over ≡ true → (by : SessionEnd) × (over ≡ Some by)
some_is (Some by) is = (by, refl)
some_is None is = absurd cc

module _ {D : Type 0} (stands : D → Chronicle → Type 0) (went : D → List Mark → D → Type 0) where
  -- Where memory ran out among the first steps, it did among all.
  pub did_broke : (one two : ServeEnd) (first second : D) (steps later : List Step) → Did stands went one first steps two second false → Did stands went one first (steps ++ later) two second false
  did_broke one two first second steps later did = record {
    config = did.config;
    sent = did.sent;
    received = did.received;
    taken = did.taken;
    own = did.own;
    talks = talks_as stands went first second one.out two.out
        (λ chronicle places out. Breaks (at_places chronicle) (note (standing one)) (serve (react one.config) note (standing one) steps) places out (note (standing two)))
        (λ chronicle places out. Breaks (at_places chronicle) (note (standing one)) (serve (react one.config) note (standing one) (steps ++ later)) places out (note (standing two)))
        (λ chronicle places out broke. serve_breaks_first (react one.config) note (at_places chronicle) (note (standing one)) (standing one) steps later places out (note (standing two)) broke)
        did.talks;
  }

  -- Memory may run out before the next step.
  pub did_stops : (one two : ServeEnd) (first second : D) (steps later : List Step) → Did stands went one first steps two second true → Did stands went one first (steps ++ later) two second false
  did_stops one two first second steps later did = record {
    config = did.config;
    sent = did.sent;
    received = did.received;
    taken = did.taken;
    own = did.own;
    talks = talks_as stands went first second one.out two.out
        (λ chronicle places out. Gives (at_places chronicle) (serve (react one.config) note (standing one) steps) places out (standing two))
        (λ chronicle places out. Breaks (at_places chronicle) (note (standing one)) (serve (react one.config) note (standing one) (steps ++ later)) places out (note (standing two)))
        (λ chronicle places out gives.
        subst₂ (λ (ps os : List ℕ). Breaks (at_places chronicle) (note (standing one)) (serve (react one.config) note (standing one) (steps ++ later)) ps os (note (standing two)))
        (append-nil places) (append-nil out)
        (serve_breaks (react one.config) note (at_places chronicle) (standing one) (standing two) steps later places [] out [] (note (standing two)) gives
        (stopped (at_places chronicle) (note (standing two)) (serve (react one.config) note (standing two) later))))
        did.talks;
  }

  module _ (stays : (desk : D) → went desk [] desk) (follows : (one two three : D) (first second : List Mark) → went one first two → went two second three → went one (first ++ second) three)
      (carries : (old new : D) (marks : List Mark) (chronicle : Chronicle) → went old marks new → stands old chronicle → stands new (extended chronicle (entries marks))) where
    -- To no steps nothing is done.
    pub did_none : (end : ServeEnd) (desk : D) → Did stands went end desk [] end desk true
    did_none end desk = record {
      config = refl;
      sent = refl;
      received = refl;
      taken = refl;
      own = λ own. own;
      talks = talks_none stands went stays follows carries desk end.out
          (λ chronicle places out. Gives (at_places chronicle) (serve (react end.config) note (standing end) []) places out (standing end)) (λ chronicle. (refl, refl, refl));
    }

    -- After the session nothing is done.
    pub did_rests : (end : ServeEnd) (desk : D) (steps : List Step) → is_some end.standing.over ≡ true → Did stands went end desk steps end desk true
    did_rests end desk steps over = record {
      config = refl;
      sent = refl;
      received = refl;
      taken = refl;
      own = λ own. own;
      talks = talks_none stands went stays follows carries desk end.out
          (λ chronicle places out. Gives (at_places chronicle) (serve (react end.config) note (standing end) steps) places out (standing end))
          (λ chronicle. over_gives (react end.config) note (at_places chronicle) (standing end) steps (serve_over end.config (standing end) (some_is end.standing.over over).0 (some_is end.standing.over over).1));
    }

    -- Some steps and then others.
    pub did_then : (one two three : ServeEnd) (first second third : D) (steps later : List Step) (well : Bool)
        → Did stands went one first steps two second true → Did stands went two second later three third well → Did stands went one first (steps ++ later) three third well
    did_then one two three first second third steps later well before after = record {
      config = after.config ∙ before.config;
      sent = after.sent ∙ before.sent;
      received = after.received ∙ before.received;
      taken = after.taken ∙ before.taken;
      own = λ own. after.own (before.own own);
      talks = talks_then stands went stays follows carries first second third one.out two.out three.out
          (serve (react one.config) note (standing one) steps) (standing two)
          (λ chronicle places out. Course well (at_places chronicle) (note (standing two)) (serve (react two.config) note (standing two) later) places out (standing three))
          (λ chronicle places out. Course well (at_places chronicle) (note (standing one)) (serve (react one.config) note (standing one) (steps ++ later)) places out (standing three))
          (λ chronicle places more out rest gives course. joined well chronicle places more out rest gives course)
          before.talks after.talks;
    }
      where
        joined : (well : Bool) (chronicle : Chronicle) (places more out rest : List ℕ) → Gives (at_places chronicle) (serve (react one.config) note (standing one) steps) places out (standing two)
            → Course well (at_places chronicle) (note (standing two)) (serve (react two.config) note (standing two) later) more rest (standing three)
            → Course well (at_places chronicle) (note (standing one)) (serve (react one.config) note (standing one) (steps ++ later)) (places ++ more) (out ++ rest) (standing three)
        joined true chronicle places more out rest gives course =
            serve_gives (react one.config) note (at_places chronicle) (standing one) (standing two) (standing three) steps later places more out rest gives
            (rw (sym before.config) course)
        joined false chronicle places more out rest gives course =
            serve_breaks (react one.config) note (at_places chronicle) (standing one) (standing two) steps later places more out rest (note (standing three)) gives
            (rw (sym before.config) course)
