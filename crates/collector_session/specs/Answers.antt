-- What is answered to a request, and what a collector makes of it.
use Rattle.std.specs.Prelude.{◌≡◌, ◌≤◌, ℕ}
use Rattle.swima_model.specs.Reports.{FitsAttribute}
use Rattle.swima_model.specs.Size.{report_size}
use Rattle.swima_request.specs.declared.request.Request.{Request}
use Rattle.swima_subs.specs.declared.sub_answer.SubAnswer.{SubAnswer}
use Rattle.swima_subs.specs.declared.sub_answer.SubAnswer.TheVariants as sub
use Rattle.swima_subs.specs.Subscriptions.{applied}
use Rattle.collector_core.specs.declared.answer.Answer.{Answer}
use Rattle.collector_core.specs.declared.answer.Answer.TheVariants as answer
use Rattle.session_rules.specs.Serving.{Draft}
use Rattle.session_rules.specs.Answering.{answered, earlier_left}
use Rattle.collector_session.specs.declared.draft.Draft.{Draft as DraftValue}

-- A report that has room and fits an attribute, or something else.
abbrev pub IsTold : ℕ → Answer → Type 0
IsTold room (answer.Report report) = FitsAttribute report × (report_size report ≤ room)
IsTold room (answer.TooLarge size most) = Unit {0}
IsTold room answer.Memory = Unit {0}

-- The answer was put. It was not that memory ran out.
abbrev pub Answered : Draft → Request → Answer → Draft → Type 0
Answered before request (answer.Report report) after = after ≡ answered before request (answer.Report report)
Answered before request (answer.TooLarge size most) after = after ≡ answered before request (answer.TooLarge size most)
Answered before request answer.Memory after = ⊥

-- The request was applied to the subscriptions of a draft, or memory ran out.
abbrev pub AppliesTo : DraftValue → Request → SubAnswer → DraftValue → Type 0
AppliesTo before request sub.Memory after = Unit {0}
AppliesTo before request answer after =
    ((applied before.subs request).0 ≡ answer) × (after ≡ record before { subs = (applied before.subs request).1; earlier = earlier_left before.earlier request.clear })
