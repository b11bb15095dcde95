-- A step, as what the rules of a collector say to it.
use Rattle.std.proofs.Common.{◌≡◌, ◌≢◌, ℕ, false, List, [], ◌∷◌, Option, Some, None, refl, sym, ap, subst}
use Rattle.std.specs.Prelude.{Result, Ok, Err, is_ok, is_some}
use Rattle.pb_batch.specs.declared.batch.Batch.{Batch}
use Rattle.pb_batch.specs.declared.fault.PbFault.{PbFault}
use Rattle.collector_core.specs.declared.chronicle.Mark.{Mark}
use Rattle.collector_core.specs.Chronicle.{Chronicle}
use Rattle.session_talk.specs.Course.{Gives, Breaks}
use Rattle.session_hear.specs.Step.{Step, Came, Faulty, Quiet}
use Rattle.session_hear.specs.Serving.{serve}
use Rattle.session_hear.proofs.Serving.{one_breaks, one_gives}
use Rattle.session_rules.specs.declared.end.SessionEnd.{SessionEnd}
use Rattle.session_rules.specs.declared.end.SessionEnd.TheVariants as final
use Rattle.session_rules.specs.Clauses.{Talked}
use Rattle.session_rules.specs.Questions.{at_places}
use Rattle.session_rules.specs.ServeRules.{Serves, hears, idles, note, react, refuses, steps_unless}
use Rattle.session_rules.proofs.Desking.{talks_as}
use Rattle.collector_session.specs.declared.end.ServeEnd.{ServeEnd}
use Rattle.collector_session.specs.Doing.{Did, standing}

pub not_over : (by : Option SessionEnd) → is_some by ≡ false → by ≡ None
not_over None is = refl
not_over (Some by) is = absurd cc

pub came : (one : ServeEnd) (batch : Batch) → is_some one.standing.over ≡ false → react one.config (standing one) (Came batch) ≡ hears one.config (standing one) batch
came one batch live = ap (λ (by : Option SessionEnd). steps_unless one.config (standing one) (Came batch) by) (not_over one.standing.over live)

pub faulty : (one : ServeEnd) (fault : PbFault) → is_some one.standing.over ≡ false → react one.config (standing one) (Faulty fault) ≡ refuses (standing one) fault
faulty one fault live = ap (λ (by : Option SessionEnd). steps_unless one.config (standing one) (Faulty fault) by) (not_over one.standing.over live)

pub quiet : (one : ServeEnd) (turns : ℕ) → one.standing.over ≡ None → react one.config (standing one) (Quiet turns) ≡ idles one.config (standing one) turns
quiet one turns live = ap (λ (by : Option SessionEnd). steps_unless one.config (standing one) (Quiet turns) by) live

module _ {D : Type 0} (stands : D → Chronicle → Type 0) (went : D → List Mark → D → Type 0) where
  pub step_did : {T E : Type 0} (result : Result T E) (one two : ServeEnd) (first second : D) (step : Step) (talk : Serves) → react one.config (standing one) step ≡ talk → two.config ≡ one.config
      → two.standing.record.sent ≡ one.standing.record.sent → two.standing.record.received ≡ one.standing.record.received
      → two.standing.record.taken ≡ one.standing.record.taken → (one.standing.over ≢ Some final.LinkFault → two.standing.over ≢ Some final.LinkFault)
      → Talked stands went first second one.out two.out (note (standing one)) talk (standing two) (note (standing two)) result → Did stands went one first (step ∷ []) two second (is_ok result)
  step_did (Ok done) one two first second step talk is config sent received taken own talked = record {
    config = config;
    sent = sent;
    received = received;
    taken = taken;
    own = own;
    talks = talks_as stands went first second one.out two.out (λ chronicle places out. Gives (at_places chronicle) talk places out (standing two))
        (λ chronicle places out. Gives (at_places chronicle) (serve (react one.config) note (standing one) (step ∷ [])) places out (standing two))
        (λ chronicle places out gives.
        one_gives (react one.config) note (at_places chronicle) (standing one) (standing two) step places out
        (subst (λ (t : Serves). Gives (at_places chronicle) t places out (standing two)) (sym is) gives))
        talked;
  }
  step_did (Err error) one two first second step talk is config sent received taken own talked = record {
    config = config;
    sent = sent;
    received = received;
    taken = taken;
    own = own;
    talks = talks_as stands went first second one.out two.out (λ chronicle places out. Breaks (at_places chronicle) (note (standing one)) talk places out (note (standing two)))
        (λ chronicle places out. Breaks (at_places chronicle) (note (standing one)) (serve (react one.config) note (standing one) (step ∷ [])) places out (note (standing two)))
        (λ chronicle places out breaks.
        one_breaks (react one.config) note (at_places chronicle) (note (standing one)) (standing one) step [] places out (note (standing two))
        (subst (λ (t : Serves). Breaks (at_places chronicle) (note (standing one)) t places out (note (standing two))) (sym is) breaks))
        talked;
  }
