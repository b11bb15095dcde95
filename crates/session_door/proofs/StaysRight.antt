-- A mirror that follows stays right.
use Rattle.std.proofs.Common.{ℕ, List, [], ◌∷◌, Option, sym, subst}
use Rattle.wire_base.specs.Turns.{Turn}
use Rattle.swima_model.specs.History.{History, IsHonest}
use Rattle.validator_core.specs.Held.{Held}
use Rattle.validator_core.specs.Right.{IsRight}
use Rattle.session_rules.specs.declared.config.FollowConfig.{FollowConfig}
use Rattle.session_door.specs.declared.work.Work.{Work}
use Rattle.session_door.specs.Following.{EachAnswers, FollowedOn, FollowsLinks}
use Rattle.session_door.specs.Visits.{DoorState, Visit, VisitsEach, Works}

module _ {L : Type 0} (taken : L → Option (List Turn)) (given : L → Option (List ℕ)) (faults : L → ℕ) (c : FollowConfig) where
  -- In sessions one after another.
  stays_right : (history : History) (honest : IsHonest history) (before : Held) (visits : List (Visit L)) (after : Held) (each : VisitsEach (FollowedOn taken given c) faults before visits after) → IsRight history before
      → EachAnswers taken given faults c history before visits after each → IsRight history after
  stays_right history honest before [] after each right answers = subst (IsRight history) (sym each) right
  stays_right history honest before (visit ∷ later) after each right answers =
      stays_right history honest each.0 later after each.2 (each.1.session.right history honest right answers.0) answers.1

  -- So of a worker.
  pub followed_door : (sessions : ℕ) (before after : Held) (door later : DoorState L) (work : Work) → Works (FollowedOn taken given c) faults sessions before door after later work
      → FollowsLinks taken given faults c sessions before door after later work
  followed_door sessions before after door later work works = record {
    works = works;
    right = λ history honest right answers. stays_right history honest before works.visits after works.each right answers;
  }
