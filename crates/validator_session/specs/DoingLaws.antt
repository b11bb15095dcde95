-- What a validator did to some steps, and then to others.
use Rattle.std.proofs.Common.{◌≡◌, ℕ, Bool, true, false, List, [], ◌++◌, Option, Some, None, refl, sym, ap, subst, ◌∙◌, append_assoc, append-nil}
use Rattle.std.specs.Prelude.{is_some}
use Rattle.validator_core.specs.Held.{Held}
use Rattle.session_talk.specs.Course.{Answers, Gives, Breaks}
use Rattle.session_talk.proofs.Courses.{stopped}
use Rattle.session_hear.specs.Step.{Step}
use Rattle.session_hear.specs.Serving.{serve}
use Rattle.session_hear.proofs.Serving.{serve_gives, serve_breaks, serve_breaks_first, over_gives}
use Rattle.session_rules.specs.declared.end.SessionEnd.{SessionEnd}
use Rattle.session_rules.specs.FollowRules.{note, react}
use Rattle.session_rules.specs.Taking.{NoQuestion, NoReply}
use Rattle.session_rules.proofs.Ends.{follow_over}
use Rattle.validator_session.specs.declared.end.FollowEnd.{FollowEnd}
use Rattle.validator_session.specs.Doing.{Course, Did, standing}

-- What is there.
some_is : (over : Option SessionEnd) → is_some over ≡ true → (by : SessionEnd) × (over ≡ Some by)
some_is (Some by) is = (by, refl)
some_is None is = absurd cc

-- Where memory ran out among the first steps, it did among all.
pub did_broke : (one two : FollowEnd) (first second : Held) (steps later : List Step) → Did one first steps two second false → Did one first (steps ++ later) two second false
did_broke one two first second steps later did = record {
  config = did.config;
  sent = did.sent;
  received = did.received;
  noted = did.noted;
  talks = record {
    out = did.talks.out;
    is = did.talks.is;
    gives = λ replies. serve_breaks_first (react one.config) note replies (note (standing one first)) (standing one first) steps later [] did.talks.out (note (standing two second)) (did.talks.gives replies);
  };
}

-- Memory may run out before the next step.
pub did_stops : (one two : FollowEnd) (first second : Held) (steps later : List Step) → Did one first steps two second true → Did one first (steps ++ later) two second false
did_stops one two first second steps later did = record {
  config = did.config;
  sent = did.sent;
  received = did.received;
  noted = did.noted;
  talks = record {
    out = did.talks.out;
    is = did.talks.is;
    gives = λ replies.
        subst (λ (os : List ℕ). Breaks replies (note (standing one first)) (serve (react one.config) note (standing one first) (steps ++ later)) [] os (note (standing two second)))
        (append-nil did.talks.out)
        (serve_breaks (react one.config) note replies (standing one first) (standing two second) steps later [] [] did.talks.out [] (note (standing two second)) (did.talks.gives replies)
        (stopped replies (note (standing two second)) (serve (react one.config) note (standing two second) later)));
  };
}

-- To no steps nothing is done.
pub did_none : (end : FollowEnd) (mirror : Held) → Did end mirror [] end mirror true
did_none end mirror = record {
  config = refl;
  sent = refl;
  received = refl;
  noted = λ noted. noted;
  talks = record { out = []; is = sym (append-nil end.out); gives = λ replies. (refl, refl, refl) };
}

-- After the session nothing is done.
pub did_rests : (end : FollowEnd) (mirror : Held) (steps : List Step) → is_some end.standing.over ≡ true → Did end mirror steps end mirror true
did_rests end mirror steps over = record {
  config = refl;
  sent = refl;
  received = refl;
  noted = λ noted. noted;
  talks = record {
    out = [];
    is = sym (append-nil end.out);
    gives = λ replies. over_gives (react end.config) note replies (standing end mirror) steps (follow_over end.config (standing end mirror) (some_is end.standing.over over).0 (some_is end.standing.over over).1);
  };
}

-- Some steps and then others.
pub did_then : (one two three : FollowEnd) (first second third : Held) (steps later : List Step) (well : Bool)
    → Did one first steps two second true → Did two second later three third well → Did one first (steps ++ later) three third well
did_then one two three first second third steps later well before after = record {
  config = after.config ∙ before.config;
  sent = after.sent ∙ before.sent;
  received = after.received ∙ before.received;
  noted = λ noted. after.noted (before.noted noted);
  talks = record {
    out = before.talks.out ++ after.talks.out;
    is = after.talks.is ∙ ap (λ (o : List ℕ). o ++ after.talks.out) before.talks.is ∙ append_assoc one.out before.talks.out after.talks.out;
    gives = λ replies. joined well replies (before.talks.gives replies) (after.talks.gives replies);
  };
}
  where
    joined : (well : Bool) (replies : Answers NoQuestion NoReply) → Gives replies (serve (react one.config) note (standing one first) steps) [] before.talks.out (standing two second)
        → Course well replies (note (standing two second)) (serve (react two.config) note (standing two second) later) after.talks.out (standing three third)
        → Course well replies (note (standing one first)) (serve (react one.config) note (standing one first) (steps ++ later)) (before.talks.out ++ after.talks.out) (standing three third)
    joined true replies gives course =
        serve_gives (react one.config) note replies (standing one first) (standing two second) (standing three third) steps later [] [] before.talks.out after.talks.out gives (rw (sym before.config) course)
    joined false replies gives course =
        serve_breaks (react one.config) note replies (standing one first) (standing two second) steps later [] [] before.talks.out after.talks.out (note (standing three third)) gives (rw (sym before.config) course)
