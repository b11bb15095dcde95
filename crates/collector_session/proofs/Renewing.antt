-- What the talk about a subscription of an earlier batch comes to.
use Rattle.std.proofs.Common.{◌≡◌, ℕ, Some, sym, ap, ◌∙◌}
use Rattle.std.specs.Prelude.{Result, Ok, Err, OnOk, ◌==◌}
use Rattle.std.proofs.lemmas.Bool.{cond-false, cond-true, eq-eqb, ne_eqb}
use Rattle.swima_model.specs.declared.report.Report.{Report}
use Rattle.swima_model.specs.Fulfilling.{fulfilling}
use Rattle.swima_request.specs.declared.request.Request.{Request}
use Rattle.swima_subs.specs.Subscriptions.{ended, reported}
use Rattle.pa_attrs.specs.declared.error_code.PaErrorCode.TheVariants as code
use Rattle.collector_core.specs.declared.answer.Answer.{Answer}
use Rattle.collector_core.specs.declared.answer.Answer.TheVariants as answer
use Rattle.collector_core.specs.Answering.{AnswerIs, answer_at}
use Rattle.collector_core.specs.Chronicle.{Chronicle}
use Rattle.session_talk.specs.Talk.{Done}
use Rattle.session_rules.specs.declared.config.ServeConfig.{ServeConfig}
use Rattle.session_rules.specs.Answering.{puts_error, puts_report, reach_of, renewed}
use Rattle.session_rules.specs.Questions.{AskAnswer, reply_at}
use Rattle.session_rules.specs.Serving.{Draft as Drafted}
use Rattle.collector_session.specs.declared.draft.Draft.{Draft}
use Rattle.collector_session.specs.Renewing.{Renewed, late}
use Rattle.collector_session.specs.Standing.{draft_of}
use Rattle.collector_session.proofs.Answering.{ends_as}

-- What was put for the desk's reply is put at each chronicle that gives this reply.
pub renewed_so : {T E : Type 0} (c : ServeConfig) (d : Drafted) (request : Request) (most : ℕ) (reply : Answer) (next : Drafted) (result : Result T E) → OnOk result (Renewed c d request.id reply next)
    → OnOk result ((chronicle : Chronicle) → AnswerIs reply (answer_at chronicle request most) → Done (renewed c d request.id (reply_at chronicle (AskAnswer request most))) ≡ (ends_as next))
renewed_so c d request most reply next (Err error) so = tt
renewed_so c d request most (answer.Report report) next (Ok done) so =
    λ chronicle is. ap (λ (a : Answer). (ends_as (renewed c d request.id a))) (sym is) ∙ ap (λ (e : Drafted). (ends_as e)) (sym so)
renewed_so c d request most (answer.TooLarge size limit) next (Ok done) so =
    λ chronicle is. ap (λ (a : Answer). (ends_as (renewed c d request.id a))) (sym is) ∙ ap (λ (e : Drafted). (ends_as e)) (sym so)
renewed_so c d request most answer.Memory next (Ok done) so = absurd so

-- A report that fulfils it.
pub report_renewed : {T E : Type 0} (c : ServeConfig) (d mid next : Draft) (id : ℕ) (report : Report) (result : Result T E) → mid ≡ record d { subs = reported d.subs id (reach_of report) }
    → OnOk result (draft_of next ≡ puts_report (draft_of mid) (fulfilling report)) → OnOk result (Renewed c (draft_of d) id (answer.Report report) (draft_of next))
report_renewed c d mid next id report (Err error) is put = tt
report_renewed c d mid next id report (Ok done) is put = put ∙ ap (λ (m : Draft). puts_report (draft_of m) (fulfilling report)) is

-- One that is too large, where there was all room and where there was not.
pub late_ended : {T E : Type 0} (room : ℕ) (d mid next : Draft) (id most : ℕ) (result : Result T E) → d.room ≡ room → mid ≡ record d { subs = ended d.subs id }
    → OnOk result (draft_of next ≡ puts_error (draft_of mid) code.SwimaResponseTooLargeError id (Some most)) → OnOk result (draft_of next ≡ late room (draft_of d) id most)
late_ended room d mid next id most (Err error) all is put = tt
late_ended room d mid next id most (Ok done) all is put =
    put
    ∙ ap (λ (m : Draft). puts_error (draft_of m) code.SwimaResponseTooLargeError id (Some most)) is
    ∙ sym (cond-true (d.room == room) (puts_error (record (draft_of d) { subs = ended d.subs id }) code.SwimaResponseTooLargeError id (Some most)) (draft_of d) (eq-eqb d.room room all))

pub late_waits : (room : ℕ) (d : Draft) (id most : ℕ) → (d.room ≡ room → ⊥) → draft_of d ≡ late room (draft_of d) id most
late_waits room d id most some = sym (cond-false (d.room == room) (puts_error (record (draft_of d) { subs = ended d.subs id }) code.SwimaResponseTooLargeError id (Some most)) (draft_of d) (ne_eqb d.room room some))
