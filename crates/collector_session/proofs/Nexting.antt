-- The questions to a desk about one subscription.
use Rattle.std.proofs.Common.{◌≡◌, Bool, true, false, List, [], ◌++◌, Some, None, ap, subst, sym}
use Rattle.std.specs.Prelude.{Option, Result, Ok, Err}
use Rattle.std.specs.Result.{IsErr}
use Rattle.swima_model.specs.declared.report.Point.{Point}
use Rattle.swima_request.specs.declared.request.Request.{Request}
use Rattle.swima_subs.specs.Subscriptions.{next_request}
use Rattle.collector_core.specs.declared.chronicle.Mark.{Mark}
use Rattle.collector_core.specs.Answering.{moved_at}
use Rattle.collector_core.specs.Chronicle.{Chronicle, extended, point_of}
use Rattle.collector_core.specs.Desks.{Reads, entries}
use Rattle.session_rules.specs.Answering.{next_if, next_of}
use Rattle.session_rules.specs.Questions.{AskMoved, AskPoint}
use Rattle.session_rules.specs.ServeRules.{looks_from}
use Rattle.session_rules.proofs.Desking.{drafted_done, talks_asked}
use Rattle.collector_session.specs.Renewing.{Finds}
use Rattle.collector_session.proofs.Asking.{asked_then, comes_to}
use Rattle.collector_session.proofs.Each.{Held, Lost}

-- A search that memory ran out for.
pub finds_lost : {D E : Type 0} (stands : D → Chronicle → Type 0) (went : D → List Mark → D → Type 0) (old new : D) (request : Request) (place : Point) (result : Result (Option Request) E) → IsErr result
    → Lost stands went old new (next_of request (Some place)) → Finds stands went old new (next_of request (Some place)) result
finds_lost stands went old new request place (Ok next) is lost = absurd cc
finds_lost stands went old new request place (Err error) is lost = lost

module _ {D : Type 0} (stands : D → Chronicle → Type 0) (went : D → List Mark → D → Type 0)
    (stays : (desk : D) → went desk [] desk) (follows : (one two three : D) (first second : List Mark) → went one first two → went two second three → went one (first ++ second) three)
    (carries : (old new : D) (marks : List Mark) (chronicle : Chronicle) → went old marks new → stands old chronicle → stands new (extended chronicle (entries marks))) where
  -- Nothing was asked.
  pub none_next : (desk : D) (request : Request) (place : Option Point) → place ≡ None → Held stands went desk desk (next_of request place) None
  none_next desk request place none =
      drafted_done stands went stays follows carries {T = Unit {0}} {E = Unit {0}} desk (next_of request place) None (Ok tt) (ap (λ (p : Option Point). next_of request p) none)

  -- It was fulfilled up to a point.
  module _ (request : Request) (place : Point) (old mid : D) (moved : Bool) (reads : Reads stands went old mid (λ chronicle. moved ≡ moved_at chronicle place request.targets)) where
    -- Whether it has moved.
    pub looked : Held stands went old mid (looks_from request (Some place)) moved
    looked =
        talks_asked stands went old mid [] (AskMoved place request.targets) (λ (m : Bool). comes_to m) moved (λ chronicle. moved ≡ moved_at chronicle place request.targets) (λ chronicle is. ap (λ (m : Bool). comes_to m) (sym is)) reads

    -- It has not moved.
    pub unmoved : moved ≡ false → Held stands went old mid (next_of request (Some place)) None
    unmoved is =
        asked_then stands went stays follows carries {T = Unit {0}} {E = Unit {0}} old mid mid (AskMoved place request.targets) (λ (m : Bool). next_if request place m) moved None (Ok tt) reads
        (drafted_done stands went stays follows carries {T = Unit {0}} {E = Unit {0}} mid (next_if request place moved) None (Ok tt) (ap (λ (m : Bool). next_if request place m) is))

    module _ (new : D) (now : Point) (is : moved ≡ true) (points : Reads stands went mid new (λ chronicle. now ≡ point_of chronicle)) where
      -- It has.
      pub has_next : (next : Request) → next ≡ next_request request place now → Held stands went old new (next_of request (Some place)) (Some next)
      has_next next same =
          asked_then stands went stays follows carries {T = Unit {0}} {E = Unit {0}} old mid new (AskMoved place request.targets) (λ (m : Bool). next_if request place m) moved (Some next) (Ok tt) reads
          (subst (λ (m : Bool). Held stands went mid new (next_if request place m) (Some next)) (sym is)
          (asked_then stands went stays follows carries {T = Unit {0}} {E = Unit {0}} mid new new AskPoint (λ (p : Point). comes_to (Some (next_request request place p))) now (Some next) (Ok tt) points
          (drafted_done stands went stays follows carries {T = Unit {0}} {E = Unit {0}} new (comes_to (Some (next_request request place now))) (Some next) (Ok tt) (ap (λ (r : Request). comes_to (Some r)) (sym same)))))

      -- Memory ran out before its next request was there.
      pub lost_next : Lost stands went old new (next_of request (Some place))
      lost_next =
          asked_then stands went stays follows carries {A = Option Request} {T = Unit {0}} {E = Unit {0}} old mid new (AskMoved place request.targets) (λ (m : Bool). next_if request place m) moved None (Err tt) reads
          (subst (λ (m : Bool). Lost stands went mid new (next_if request place m)) (sym is)
          (asked_then stands went stays follows carries {A = Option Request} {T = Unit {0}} {E = Unit {0}} mid new new AskPoint (λ (p : Point). comes_to (Some (next_request request place p))) now None (Err tt) points
          (drafted_done stands went stays follows carries {A = Option Request} {T = Unit {0}} {E = Unit {0}} new (comes_to (Some (next_request request place now))) None (Err tt) tt)))
