-- What the talk of a collector comes to.
use Rattle.std.proofs.Common.{◌≡◌, ℕ, ◌-◌, ◌≤◌, ◌<◌, true, false, List, [], ◌∷◌, ◌++◌, Some, refl, sym, ap, ap₂, subst, ◌∙◌}
use Rattle.std.specs.Prelude.{Result, Ok, Err, OnOk, length, nat_le, nat_lt, take}
use Rattle.std.proofs.lemmas.Bool.{cond-false, cond-true, le-ltb, lt-ltb}
use Rattle.swima_model.specs.declared.report.Report.{Report}
use Rattle.swima_request.specs.declared.request.Request.{Request}
use Rattle.swima_request.specs.AttributeTypes.{SUBSCRIPTION_STATUS_RESPONSE}
use Rattle.swima_request.specs.StatusForm.{status_octets, written_status}
use Rattle.swima_subs.specs.declared.sub_answer.SubAnswer.{SubAnswer}
use Rattle.swima_subs.specs.declared.sub_answer.SubAnswer.TheVariants.{Taken, Reused, Denied, Memory}
use Rattle.swima_subs.specs.declared.waiting.Waiting.{Waiting}
use Rattle.swima_subs.specs.Subscriptions.{Applied, applied, status}
use Rattle.pa_attrs.specs.declared.attr.Attr.{Attr}
use Rattle.pa_attrs.specs.declared.error_code.PaErrorCode.TheVariants as code
use Rattle.pb_batch.specs.Form.{BATCH_MESSAGES}
use Rattle.collector_core.specs.declared.answer.Answer.{Answer}
use Rattle.collector_core.specs.declared.answer.Answer.TheVariants as answer
use Rattle.collector_core.specs.Answering.{AnswerIs, answer_at}
use Rattle.collector_core.specs.Chronicle.{Chronicle}
use Rattle.session_talk.specs.Talk.{Done, and_then, each}
use Rattle.session_rules.specs.declared.config.ServeConfig.{ServeConfig}
use Rattle.session_rules.specs.Answering.{Drafting, answered, closed, closes, earlier_left, gives_up, keeps_place, puts_error, puts_list, puts_report, puts_sized, puts_status, reach_of, renews, renews_one, taken, wants}
use Rattle.session_rules.specs.Messages.{attribute, pa_message}
use Rattle.session_rules.specs.Numbers.{next_number}
use Rattle.session_rules.specs.Questions.{AskAnswer, reply_at}
use Rattle.session_rules.specs.Serving.{Draft as Drafted}
use Rattle.collector_session.specs.declared.draft.Draft.{Draft}
use Rattle.collector_session.specs.Answers.{Answered, AppliesTo}
use Rattle.collector_session.specs.Standing.{draft_of}

-- A talk in which nothing more is done.
abbrev pub ends_as : Drafted → Drafting
ends_as d = Done d

-- ---- a request

-- Once the request was applied to the subscriptions, what is done is by what was answered.
pub wants_so : (d next : Draft) (request : Request) (said : SubAnswer) → (applied d.subs request).0 ≡ said → next ≡ record d { subs = (applied d.subs request).1; earlier = earlier_left d.earlier request.clear }
    → wants (draft_of d) request ≡ taken (draft_of next) request said
wants_so d next request said is same =
    ap (λ (a : SubAnswer). taken (record (draft_of d) { subs = (applied d.subs request).1; earlier = earlier_left d.earlier request.clear }) request a) is
    ∙ ap (λ (n : Draft). taken (draft_of n) request said) (sym same)

both : (d : Draft) (request : Request) (said : SubAnswer) (subs : List Waiting) (earlier : ℕ) → applied d.subs request ≡ (said, subs) → earlier ≡ earlier_left d.earlier request.clear
    → ((applied d.subs request).0 ≡ said) × (record d { subs = subs; earlier = earlier } ≡ record d { subs = (applied d.subs request).1; earlier = earlier_left d.earlier request.clear })
both d request said subs earlier applied-so is = (
  ap (λ (p : SubAnswer × List Waiting). p.0) applied-so,
  ap₂ (λ (s : List Waiting) (n : ℕ). record d { subs = s; earlier = n }) (sym (ap (λ (p : SubAnswer × List Waiting). p.1) applied-so)) is,
)

-- What was done to the subscriptions, in a draft.
pub applies_so : (d : Draft) (request : Request) (said : SubAnswer) (subs : List Waiting) (earlier : ℕ) → Applied d.subs request said subs → earlier ≡ earlier_left d.earlier request.clear
    → AppliesTo d request said (record d { subs = subs; earlier = earlier })
applies_so d request Memory subs earlier applied-so is = tt
applies_so d request Taken subs earlier applied-so is = both d request Taken subs earlier applied-so is
applies_so d request (Reused id) subs earlier applied-so is = both d request (Reused id) subs earlier applied-so is
applies_so d request (Denied held) subs earlier applied-so is = both d request (Denied held) subs earlier applied-so is

-- ---- the desk's answer

-- After the calls that put it.
pub report_so : {T E : Type 0} (d mid next : Draft) (request : Request) (reply : Answer) (report : Report) (result : Result T E) → reply ≡ answer.Report report
    → mid ≡ record d { subs = keeps_place request (reach_of report) d.subs } → OnOk result (draft_of next ≡ puts_report (draft_of mid) report) → OnOk result (Answered (draft_of d) request reply (draft_of next))
report_so d mid next request reply report (Err error) is kept put = tt
report_so d mid next request reply report (Ok done) is kept put =
    subst (λ (a : Answer). Answered (draft_of d) request a (draft_of next)) (sym is) (put ∙ ap (λ (m : Draft). puts_report (draft_of m) report) kept)

pub large_so : {T E : Type 0} (d mid next : Draft) (request : Request) (reply : Answer) (size most : ℕ) (result : Result T E) → reply ≡ answer.TooLarge size most
    → mid ≡ record d { subs = gives_up request d.subs } → OnOk result (draft_of next ≡ puts_error (draft_of mid) code.SwimaResponseTooLargeError request.id (Some most))
    → OnOk result (Answered (draft_of d) request reply (draft_of next))
large_so d mid next request reply size most (Err error) is ended put = tt
large_so d mid next request reply size most (Ok done) is ended put =
    subst (λ (a : Answer). Answered (draft_of d) request a (draft_of next)) (sym is) (put ∙ ap (λ (m : Draft). puts_error (draft_of m) code.SwimaResponseTooLargeError request.id (Some most)) ended)

-- What was answered to the desk's reply is answered at each chronicle that gives this reply.
pub answers_so : {T E : Type 0} (d : Drafted) (request : Request) (most : ℕ) (reply : Answer) (next : Drafted) (result : Result T E) → OnOk result (Answered d request reply next)
    → OnOk result ((chronicle : Chronicle) → AnswerIs reply (answer_at chronicle request most) → Done (answered d request (reply_at chronicle (AskAnswer request most))) ≡ (ends_as next))
answers_so d request most reply next (Err error) so = tt
answers_so d request most (answer.Report report) next (Ok done) so =
    λ chronicle is. ap (λ (a : Answer). (ends_as (answered d request a))) (sym is) ∙ ap (λ (e : Drafted). (ends_as e)) (sym so)
answers_so d request most (answer.TooLarge size limit) next (Ok done) so =
    λ chronicle is. ap (λ (a : Answer). (ends_as (answered d request a))) (sym is) ∙ ap (λ (e : Drafted). (ends_as e)) (sym so)
answers_so d request most answer.Memory next (Ok done) so = absurd so

-- ---- the status of the subscriptions

-- They have room.
pub status_put : (d : Draft) (requests : List Request) (room : ℕ) (attrs : List Attr) → requests ≡ status d.subs → nat_le (status_octets requests) d.room ≡ true → room ≡ d.room - status_octets requests
    → attrs ≡ d.attrs ++ attribute SUBSCRIPTION_STATUS_RESPONSE (written_status requests) ∷ [] → record (draft_of d) { room = room; attrs = attrs } ≡ puts_status (draft_of d)
status_put d requests room attrs are fits left put =
    ap (λ (n : ℕ). record (draft_of d) { room = n; attrs = attrs }) left
    ∙ ap (λ (xs : List Attr). record (draft_of d) { room = d.room - status_octets requests; attrs = xs }) put
    ∙ sym (cond-true (nat_le (status_octets requests) d.room) (puts_sized (draft_of d) (attribute SUBSCRIPTION_STATUS_RESPONSE (written_status requests)) (status_octets requests)) (puts_error (draft_of d) code.SwimaResponseTooLargeError 0 (Some d.room)) fits)
    ∙ ap (λ (rs : List Request). puts_list (draft_of d) rs) are

-- They have not.
pub status_large : {T E : Type 0} (d next : Draft) (requests : List Request) (result : Result T E) → requests ≡ status d.subs → nat_le (status_octets requests) d.room ≡ false
    → OnOk result (draft_of next ≡ puts_error (draft_of d) code.SwimaResponseTooLargeError 0 (Some d.room)) → OnOk result (draft_of next ≡ puts_status (draft_of d))
status_large d next requests (Err error) are fits put = tt
status_large d next requests (Ok done) are fits put =
    put
    ∙ sym (cond-false (nat_le (status_octets requests) d.room) (puts_sized (draft_of d) (attribute SUBSCRIPTION_STATUS_RESPONSE (written_status requests)) (status_octets requests)) (puts_error (draft_of d) code.SwimaResponseTooLargeError 0 (Some d.room)) fits)
    ∙ ap (λ (rs : List Request). puts_list (draft_of d) rs) are

-- ---- a message

pub closes_none : (d : Drafted) (attrs : List Attr) → attrs ≡ [] → closes attrs d ≡ d
closes_none d attrs none = ap (λ (xs : List Attr). closes xs d) none

pub closes_some : (d : Drafted) (attrs : List Attr) → (attrs ≡ [] → ⊥)
    → closes attrs d ≡ record d { attrs = []; messages = d.messages ++ pa_message (next_number d.numbered) attrs ∷ []; numbered = next_number d.numbered }
closes_some d [] some = absurd (some refl)
closes_some d (attr ∷ attrs) some = refl

-- ---- subscriptions of earlier batches

-- The talk of all of them.
abbrev pub renewing : ServeConfig → Drafted → Drafting
renewing c d = each (renews_one c) d (take d.earlier d.subs)

-- They wait where the answers are as many messages as a batch has at most.
pub renews_full : (c : ServeConfig) (d : Draft) → BATCH_MESSAGES ≤ length d.messages → renews c (draft_of d) ≡ Done (draft_of d)
renews_full c d full =
    cond-false (nat_lt (length d.messages) BATCH_MESSAGES) (and_then (renewing c (draft_of d)) (λ (e : Drafted). ends_as (closed e))) (ends_as (draft_of d)) (le-ltb (length d.messages) BATCH_MESSAGES full)

pub renews_so : (c : ServeConfig) (d : Draft) → length d.messages < BATCH_MESSAGES → renews c (draft_of d) ≡ and_then (renewing c (draft_of d)) (λ (e : Drafted). ends_as (closed e))
renews_so c d less =
    cond-true (nat_lt (length d.messages) BATCH_MESSAGES) (and_then (renewing c (draft_of d)) (λ (e : Drafted). ends_as (closed e))) (ends_as (draft_of d)) (lt-ltb (length d.messages) BATCH_MESSAGES less)
