-- A batch that was drafted, or not.
use Rattle.std.proofs.Common.{◌≡◌, ℕ, List, [], ◌++◌, length, sym, ap, ◌∙◌, append-nil}
use Rattle.swima_subs.specs.declared.waiting.Waiting.{Waiting}
use Rattle.collector_core.specs.declared.chronicle.Mark.{Mark}
use Rattle.collector_core.specs.Chronicle.{Chronicle, extended}
use Rattle.collector_core.specs.Desks.{behind, entries}
use Rattle.session_talk.specs.Talk.{Talk, and_then, quietly}
use Rattle.session_talk.specs.Course.{Breaks}
use Rattle.session_talk.proofs.Courses.{breaks_first}
use Rattle.session_talk.proofs.Quiet.{breaks_quietly}
use Rattle.session_rules.specs.declared.config.ServeConfig.{ServeConfig}
use Rattle.session_rules.specs.Clauses.{Talks}
use Rattle.session_rules.specs.Questions.{Question, Reply, at_places}
use Rattle.collector_session.specs.declared.draft.Draft.{Draft}

-- Before the first answer, where these subscriptions are held.
abbrev pub first_draft : ServeConfig → List Waiting → ℕ → Draft
first_draft c subs numbered = record { subs = subs; earlier = length subs; room = c.max; attrs = []; messages = []; numbered = numbered; points = []; errors = [] }

module _ {D : Type 0} (stands : D → Chronicle → Type 0) (went : D → List Mark → D → Type 0) where
  -- Memory ran out while it was drafted: nothing was written, and nothing is noted of it.
  pub quietly_lost : {N A B : Type 0} (old new : D) (before : List ℕ) (last : N) (talk : Talk Question Reply (Unit {0}) A) (next : A → Talk Question Reply N B)
      → Talks stands went old new [] [] (λ chronicle places out. Breaks (at_places chronicle) tt talk places out tt)
      → Talks stands went old new before before (λ chronicle places out. Breaks (at_places chronicle) last (and_then (quietly talk) next) places out last)
  quietly_lost old new before last talk next t =
      let none : t.out ≡ [] = sym t.is in
      record {
        others = t.others;
        theirs = t.theirs;
        grows = t.grows;
        steps = t.steps;
        rise = t.rise;
        out = t.out;
        is = sym (append-nil before) ∙ ap (λ (o : List ℕ). before ++ o) (sym none);
        gives = λ chronicle stood.
            let answers = at_places (extended chronicle (entries t.others)) in
            breaks_first answers last (quietly talk) next (behind chronicle t.steps) t.out last (breaks_quietly answers tt last talk (behind chronicle t.steps) t.out tt (t.gives chronicle stood));
      }
