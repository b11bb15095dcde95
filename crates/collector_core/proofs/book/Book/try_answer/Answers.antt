use Rattle.std.proofs.Common.{◌≡◌, ◌≤◌, ◌<◌, ltb-false, ltb-true, sym, ◌∙◌, subst}
use Rattle.std.specs.Prelude.{IfOk}
use Rattle.collector_core.specs.declared.answer.Answer.{Answer}
use Rattle.collector_core.specs.Standing.{StandsForSome}
use Rattle.collector_core.proofs.BookAnswers.{all_answered, later_answered}
use Rattle.collector_core.proofs.book.Book.try_answer.Goals as goal

pub returns-then-is_dropped : goal.returns-then-is_dropped
returns-then-is_dropped c =
    let below : c.args.request.now.earliest < c.args.self.now.log.first = ltb-true _ _ (sym c.is_dropped.ensures.dropped ∙ c.if-is_dropped.true) in
    record {
      some = subst StandsForSome c.self.view_is c.self.invariant.1;
      answer = subst (λ (wanted : Answer). IfOk c.inventory.result (λ answer. answer ≡ wanted)) (all_answered c.args.self.now c.args.request.now c.args.max _ c.in_ok-targets.ensures.asks below) c.inventory.ensures.answer;
    }

pub returns : goal.returns
returns c =
    let kept : c.args.self.now.log.first ≤ c.args.request.now.earliest = ltb-false _ _ (sym c.is_dropped.ensures.dropped ∙ c.if-is_dropped.false) in
    record {
      some = subst StandsForSome c.self.view_is c.self.invariant.1;
      answer = subst (λ (wanted : Answer). IfOk c.told.result (λ answer. answer ≡ wanted)) (later_answered c.args.self.now c.args.request.now c.args.max _ c.in_ok-targets.ensures.asks c.is_dropped.ensures.begins kept) c.told.ensures.answer;
    }
