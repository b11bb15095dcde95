-- What a desk answers to two requests in a row.
use Rattle.std.specs.Prelude.{◌+◌, ℕ, List, [], ◌∷◌, length}
use Rattle.swima_request.specs.declared.request.Request.{Request}
use Rattle.collector_core.specs.declared.answer.Answer.{Answer}
use Rattle.collector_core.specs.declared.chronicle.Mark.{Mark}
use Rattle.collector_core.specs.Answering.{AnswerIs, answer_at}
use Rattle.collector_core.specs.Chronicle.{Chronicle, extended, front}
use Rattle.collector_core.specs.Desks.{AreOthers, Rise, entries}

-- There is a chronicle that the desk stood for. Each is the answer at one place of the same
-- chronicle, which is the one that the desk stood for with others' entries after it; and the
-- second place is not below the first.
module _ {D : Type 0} (stands : D → Chronicle → Type 0) (went : D → List Mark → D → Type 0) where
  pub record AnswersInTurn (before after : D) (one two : Request) (most : ℕ) (first second : Answer) : Type 0 where
    pub some : (chronicle : Chronicle) × stands before chronicle
    pub others : List Mark
    pub theirs : AreOthers others
    pub grows : went before others after
    pub place : ℕ
    pub later : ℕ
    pub rise : Rise 0 (length others) (place ∷ later ∷ [])
    pub is_first : (chronicle : Chronicle) → stands before chronicle
        → AnswerIs first (answer_at (front (extended chronicle (entries others)) (length chronicle.entries + place)) one most)
    pub is_second : (chronicle : Chronicle) → stands before chronicle
        → AnswerIs second (answer_at (front (extended chronicle (entries others)) (length chronicle.entries + later)) two most)
