-- Two answers of a desk in a row.
use Rattle.std.proofs.Common.{ℕ, List, ◌++◌, length, sym, ap, ◌∙◌, subst, arith, length-append}
use Rattle.swima_request.specs.declared.request.Request.{Request}
use Rattle.collector_core.specs.declared.answer.Answer.{Answer}
use Rattle.collector_core.specs.declared.chronicle.Mark.{Mark}
use Rattle.collector_core.specs.Answering.{AnswerIs, answer_at}
use Rattle.collector_core.specs.BookDesk.{entries_append, extended_more}
use Rattle.collector_core.specs.Chronicle.{Chronicle, extended}
use Rattle.collector_core.specs.Desks.{Reads, entries}
use Rattle.collector_core.specs.InTurn.{AnswersInTurn}
use Rattle.collector_core.proofs.Marks.{front_behind, front_whole, others_append}

pub in_turn : {D : Type 0} (stands : D → Chronicle → Type 0) (went : D → List Mark → D → Type 0)
    → ((one two three : D) (xs ys : List Mark) → went one xs two → went two ys three → went one (xs ++ ys) three)
    → ((before after : D) (marks : List Mark) (chronicle : Chronicle) → went before marks after → stands before chronicle → stands after (extended chronicle (entries marks)))
    → (before between after : D) (one two : Request) (most : ℕ) (first second : Answer)
    → Reads stands went before between (λ chronicle. AnswerIs first (answer_at chronicle one most)) → Reads stands went between after (λ chronicle. AnswerIs second (answer_at chronicle two most))
    → AnswersInTurn stands went before after one two most first second
in_turn stands went follows carries before between after one two most first second a b = record {
  some = a.some;
  others = a.others ++ b.others;
  theirs = others_append a.others b.others a.theirs b.theirs;
  grows = follows before between after a.others b.others a.grows b.grows;
  place = length a.others;
  later = length (a.others ++ b.others);
  rise = (omega arith, omega (arith, length-append a.others b.others), (omega (arith, length-append a.others b.others), omega arith, tt));
  is_first = λ chronicle stood. subst (λ (k : Chronicle). AnswerIs first (answer_at k one most)) (sym (front_behind chronicle a.others b.others)) (a.answers chronicle stood);
  is_second = λ chronicle stood.
      subst (λ (k : Chronicle). AnswerIs second (answer_at k two most))
      (extended_more chronicle (entries a.others) (entries b.others) ∙ ap (extended chronicle) (sym (entries_append a.others b.others)) ∙ sym (front_whole chronicle (a.others ++ b.others)))
      (b.answers (extended chronicle (entries a.others)) (carries before between a.others chronicle a.grows stood));
}
