-- What may be sent, by cases on the state.
use Rattle.std.proofs.Common.{◌≡◌, ◌≢◌, Bool, true, cond, refl, sym, ap, ◌∙◌}
use Rattle.std.specs.Prelude.{is_some}
use Rattle.pb_batch.specs.declared.kind.BatchKind.{BatchKind}
use Rattle.pb_machine.specs.declared.machine.Role.{Role}
use Rattle.pb_machine.specs.declared.machine.Role.TheVariants.{Client, Server}
use Rattle.pb_machine.specs.declared.machine.State.{State}
use Rattle.pb_machine.specs.declared.machine.State.TheVariants.{Init, ServerWorking, ClientWorking, Decided, End}
use Rattle.pb_machine.specs.declared.machine.Heard.{Heard}
use Rattle.pb_machine.specs.declared.machine.Heard.TheVariants.{Ignored, Unexpected}
use Rattle.pb_machine.specs.Table.{sending, receiving, is_answer, MayClose, NoneUnexpectedAtEnd, MayAnswer}
use Rattle.pb_machine.proofs.Agreement.{each_kind, kind_passes, is_go}

pub may_close : MayClose
may_close Client Init before = refl
may_close Client ServerWorking before = refl
may_close Client ClientWorking before = refl
may_close Client Decided before = refl
may_close Client End before = absurd (before refl)
may_close Server Init before = refl
may_close Server ServerWorking before = refl
may_close Server ClientWorking before = refl
may_close Server Decided before = refl
may_close Server End before = absurd (before refl)

-- At End every batch is ignored.
ignored_at_end : (role : Role) (kind : BatchKind) → (receiving role End kind).0 ≡ Ignored
ignored_at_end Client kind = refl
ignored_at_end Server kind = refl

not_both : (heard : Heard) → heard ≡ Ignored → heard ≢ Unexpected
not_both heard ignored unexpected = let same : Ignored ≡ Unexpected = sym ignored ∙ unexpected in absurd cc

pub none_unexpected_at_end : NoneUnexpectedAtEnd
none_unexpected_at_end role state kind unexpected end =
    not_both (receiving role state kind).0 (ap (λ (s : State). (receiving role s kind).0) end ∙ ignored_at_end role kind) unexpected

-- Where the batch is gone on with, what answers it may be sent.
abbrev is_answered : Role → State → BatchKind → BatchKind → Bool
is_answered role state kind answer =
    cond (is_answer role kind answer) (cond (is_go (receiving role state kind).0) (is_some (sending role (receiving role state kind).1 answer)) true) true

all_answered : (role : Role) (state : State) (kind answer : BatchKind) → is_answered role state kind answer ≡ true
all_answered Client Init kind answer = kind_passes (is_answered Client Init kind) (kind_passes (λ k. each_kind (is_answered Client Init k)) refl kind) answer
all_answered Client ServerWorking kind answer = kind_passes (is_answered Client ServerWorking kind) (kind_passes (λ k. each_kind (is_answered Client ServerWorking k)) refl kind) answer
all_answered Client ClientWorking kind answer = kind_passes (is_answered Client ClientWorking kind) (kind_passes (λ k. each_kind (is_answered Client ClientWorking k)) refl kind) answer
all_answered Client Decided kind answer = kind_passes (is_answered Client Decided kind) (kind_passes (λ k. each_kind (is_answered Client Decided k)) refl kind) answer
all_answered Client End kind answer = kind_passes (is_answered Client End kind) (kind_passes (λ k. each_kind (is_answered Client End k)) refl kind) answer
all_answered Server Init kind answer = kind_passes (is_answered Server Init kind) (kind_passes (λ k. each_kind (is_answered Server Init k)) refl kind) answer
all_answered Server ServerWorking kind answer = kind_passes (is_answered Server ServerWorking kind) (kind_passes (λ k. each_kind (is_answered Server ServerWorking k)) refl kind) answer
all_answered Server ClientWorking kind answer = kind_passes (is_answered Server ClientWorking kind) (kind_passes (λ k. each_kind (is_answered Server ClientWorking k)) refl kind) answer
all_answered Server Decided kind answer = kind_passes (is_answered Server Decided kind) (kind_passes (λ k. each_kind (is_answered Server Decided k)) refl kind) answer
all_answered Server End kind answer = kind_passes (is_answered Server End kind) (kind_passes (λ k. each_kind (is_answered Server End k)) refl kind) answer

pub may_answer : MayAnswer
may_answer role state kind answer is go =
    let heard : Heard = (receiving role state kind).0 in
    let may : Bool = is_some (sending role (receiving role state kind).1 answer) in
    sym (ap (λ (h : Heard). cond (is_go h) may true) go)
    ∙ sym (ap (λ (b : Bool). cond b (cond (is_go heard) may true) true) is)
    ∙ all_answered role state kind answer
