-- A question to a desk, and what follows from its reply.
use Rattle.std.proofs.Common.{◌≡◌, List, [], ◌++◌, sym, ap}
use Rattle.std.specs.Prelude.{Result}
use Rattle.collector_core.specs.declared.chronicle.Mark.{Mark}
use Rattle.collector_core.specs.Chronicle.{Chronicle, extended}
use Rattle.collector_core.specs.Desks.{Reads, entries}
use Rattle.session_talk.specs.Talk.{Talk, Done, Ask}
use Rattle.session_rules.specs.Clauses.{Drafted}
use Rattle.session_rules.specs.Questions.{Question, Reply, reply_at}
use Rattle.session_rules.proofs.Desking.{drafted_then, talks_asked}

-- A talk in which nothing more is done.
abbrev pub comes_to : {A : Type 0} → A → Talk Question Reply (Unit {0}) A
comes_to value = Done value

module _ {D : Type 0} (stands : D → Chronicle → Type 0) (went : D → List Mark → D → Type 0)
    (stays : (desk : D) → went desk [] desk) (follows : (one two three : D) (first second : List Mark) → went one first two → went two second three → went one (first ++ second) three)
    (carries : (old new : D) (marks : List Mark) (chronicle : Chronicle) → went old marks new → stands old chronicle → stands new (extended chronicle (entries marks))) where
  pub asked_then : {A T E : Type 0} (old mid new : D) (question : Question) (talk : Reply question → Talk Question Reply (Unit {0}) A) (reply : Reply question) (value : A) (result : Result T E)
      → Reads stands went old mid (λ chronicle. reply ≡ reply_at chronicle question) → Drafted stands went mid new (talk reply) value result → Drafted stands went old new (Ask question talk) value result
  asked_then old mid new question talk reply value result reads after =
      drafted_then stands went stays follows carries old mid new (Ask question (λ (r : Reply question). comes_to r)) talk reply value result
      (talks_asked stands went old mid [] question (λ (r : Reply question). comes_to r) reply (λ chronicle. reply ≡ reply_at chronicle question) (λ chronicle is. ap (λ (r : Reply question). comes_to r) (sym is)) reads)
      after
