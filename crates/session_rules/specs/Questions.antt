-- What a collector asks its desk, and what is replied to it at a chronicle.
use Rattle.std.specs.Prelude.{ℕ, Bool, List}
use Rattle.swima_model.specs.declared.report.Point.{Point}
use Rattle.swima_request.specs.declared.request.Request.{Request}
use Rattle.collector_core.specs.declared.answer.Answer.{Answer}
use Rattle.collector_core.specs.Chronicle.{Chronicle, front, point_of}
use Rattle.collector_core.specs.Answering.{answer_at, moved_at}
use Rattle.session_talk.specs.Course.{Answers}

-- A question.
--   AskAnswer request room     the report that answers the request, of at most that many octets
--   AskMoved after targets     whether something about the targets has changed since the point
--   AskPoint                   the current point
pub data Question : Type 0 where
  AskAnswer : Request → ℕ → Question
  AskMoved : Point → List (List ℕ) → Question
  AskPoint : Question

-- The type of its replies.
abbrev pub Reply : Question → Type 0
Reply (AskAnswer request room) = Answer
Reply (AskMoved after targets) = Bool
Reply AskPoint = Point

-- The reply at a chronicle.
abbrev pub reply_at : Chronicle → (question : Question) → Reply question
reply_at chronicle (AskAnswer request room) = answer_at chronicle request room
reply_at chronicle (AskMoved after targets) = moved_at chronicle after targets
reply_at chronicle AskPoint = point_of chronicle

-- The replies of a chronicle: at a place those of that many of its entries.
abbrev pub at_places : Chronicle → Answers Question Reply
at_places chronicle place question = reply_at (front chronicle place) question
