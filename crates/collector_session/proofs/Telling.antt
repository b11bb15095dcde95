-- What a desk answers can be put into a batch.
use Rattle.std.proofs.Common.{ℕ, ◌≤◌, List, sym, arith}
use Rattle.swima_request.specs.declared.request.Request.{Request}
use Rattle.collector_core.specs.declared.answer.Answer.{Answer}
use Rattle.collector_core.specs.declared.answer.Answer.TheVariants as answer
use Rattle.collector_core.specs.declared.chronicle.Mark.{Mark}
use Rattle.collector_core.specs.Answering.{AnswerIs, answer_at}
use Rattle.collector_core.specs.Chronicle.{Chronicle, extended}
use Rattle.collector_core.specs.Desks.{Reads, entries}
use Rattle.collector_core.specs.Legal.{IsLegal}
use Rattle.collector_core.proofs.Telling.{answers_can_be_told}
use Rattle.collector_session.specs.Answers.{IsTold}

module _ {D : Type 0} (stands : D → Chronicle → Type 0) (went : D → List Mark → D → Type 0)
    (carries : (old new : D) (marks : List Mark) (chronicle : Chronicle) → went old marks new → stands old chronicle → stands new (extended chronicle (entries marks)))
    (legal : (desk : D) (chronicle : Chronicle) → stands desk chronicle → IsLegal chronicle) where
  pub is_told : (old new : D) (request : Request) (most : ℕ) (reply : Answer) → most ≤ 16000000 → Reads stands went old new (λ chronicle. AnswerIs reply (answer_at chronicle request most)) → IsTold most reply
  is_told old new request most (answer.Report report) below reads =
      let longer : Chronicle = extended reads.some.0 (entries reads.others) in
      let told = answers_can_be_told longer request most report (legal new longer (carries old new reads.others reads.some.0 reads.grows reads.some.1)) (sym (reads.answers reads.some.0 reads.some.1)) in
      (record { count = omega (arith, told.count); within = omega (arith, told.size, below); stamps = told.stamps; consulted = told.consulted }, told.size)
  is_told old new request most (answer.TooLarge size limit) below reads = tt
  is_told old new request most answer.Memory below reads = tt
