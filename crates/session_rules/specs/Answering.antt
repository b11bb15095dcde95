-- What a collector answers to the messages of a batch (RFC 8412, sections 3.3 and 3.8).
use Rattle.std.specs.Prelude.{◌==◌, ◌-◌, ℕ, Bool, true, false, List, [], ◌∷◌, ◌++◌, Option, Some, None, Result, Ok, Err, length, take, nat_lt, nat_le, if◌then◌else◌}
use Rattle.wire_base.specs.Reading.{whole, at_end}
use Rattle.swima_model.specs.declared.report.Point.{Point}
use Rattle.swima_model.specs.declared.report.Report.{Report}
use Rattle.swima_model.specs.declared.report.Report.TheVariants.{Inventory, Events}
use Rattle.swima_model.specs.Fulfilling.{fulfilling}
use Rattle.swima_model.specs.Reports.{point_in}
use Rattle.swima_model.specs.Size.{report_size}
use Rattle.swima_request.specs.declared.request.Request.{Request}
use Rattle.swima_request.specs.RequestForm.{read_request}
use Rattle.swima_subs.specs.declared.sub_answer.SubAnswer.{SubAnswer}
use Rattle.swima_subs.specs.declared.sub_answer.SubAnswer.TheVariants as sub
use Rattle.swima_subs.specs.declared.waiting.Waiting.{Waiting}
use Rattle.swima_subs.specs.Subscriptions.{applied, reported, ended, next_request, status}
use Rattle.pa_attrs.specs.declared.attr.Attr.{Attr}
use Rattle.pa_attrs.specs.declared.attr.PlacedAttr.{PlacedAttr}
use Rattle.pa_attrs.specs.declared.error.PaError.{PaError}
use Rattle.pa_attrs.specs.declared.error_code.PaErrorCode.{PaErrorCode}
use Rattle.pa_attrs.specs.declared.error_code.PaErrorCode.TheVariants as code
use Rattle.pa_attrs.specs.ErrorForm.{read_error, swima_error}
use Rattle.pa_attrs.specs.Numbers.{ERROR, number_of_code}
use Rattle.pb_batch.specs.declared.batch.Message.{Message}
use Rattle.pb_batch.specs.Form.{BATCH_MESSAGES}
use Rattle.collector_core.specs.declared.answer.Answer.{Answer}
use Rattle.collector_core.specs.declared.answer.Answer.TheVariants as answer
use Rattle.session_talk.specs.Talk.{Talk, Done, Ask, and_then, each}
use Rattle.session_rules.specs.declared.config.ServeConfig.{ServeConfig}
use Rattle.session_rules.specs.declared.word.CollectorWord.{CollectorWord as Word}
use Rattle.session_rules.specs.declared.word.CollectorWord.TheVariants.{Wants, AsksStatus, Failure}
use Rattle.session_rules.specs.Numbers.{next_number}
use Rattle.swima_request.specs.AttributeTypes.{SWIMA_REQUEST, SUBSCRIPTION_STATUS_REQUEST, SUBSCRIPTION_STATUS_RESPONSE}
use Rattle.session_rules.specs.Messages.{attribute, error_attribute, report_attribute, pa_message}
use Rattle.session_rules.specs.Saying.{Said, Says, Refused, says, swima_body}
use Rattle.swima_request.specs.StatusForm.{written_status, status_octets}
use Rattle.session_rules.specs.Questions.{Question, Reply, AskAnswer, AskMoved, AskPoint}
use Rattle.session_rules.specs.Serving.{Stand, Draft, draft}

-- A talk of a batch that is being written. It notes nothing: what is noted of the batch is noted
-- once it waits.
abbrev pub Drafting : Type 0
Drafting = Talk Question Reply (Unit {0}) Draft

-- ---- what a message says

-- The attribute types that a collector supports.
abbrev pub SUPPORTED : List ℕ
SUPPORTED = ERROR ∷ SWIMA_REQUEST ∷ SUBSCRIPTION_STATUS_REQUEST ∷ []

-- A value that was read, as a word.
abbrev pub means : {A : Type 0} → (A → Word) → Result A ℕ → Result Word ℕ
means word (Ok value) = Ok (word value)
means word (Err place) = Err place

-- The word of an Error, of a request (section 5.6) and of a request for the status of the
-- subscriptions (section 5.11).
abbrev pub failure_at : ℕ → List ℕ → Result Word ℕ
failure_at at value = means (λ (error : PaError). Failure error.code) (whole read_error at value)

abbrev pub request_at : ℕ → List ℕ → Result Word ℕ
request_at at value = means (λ (request : Request). Wants request) (whole read_request at value)

abbrev pub status_at : ℕ → List ℕ → Result Word ℕ
status_at at value = whole (at_end AsksStatus) at value

-- The word of an attribute of these types, or the place of the first fault of its value.
abbrev pub word_of : PlacedAttr → Result Word ℕ
word_of placed =
    if placed.attr.kind == ERROR then failure_at placed.at placed.attr.value
    else (if placed.attr.kind == SWIMA_REQUEST then request_at placed.at placed.attr.value
    else status_at placed.at placed.attr.value)

-- ---- what is put into the batch

-- An attribute is put after those that answer the same message.
abbrev pub puts : Draft → Attr → Draft
puts d attr = record d { attrs = d.attrs ++ attr ∷ [] }

-- An Error about the request with an ID (section 5.15).
abbrev pub puts_error : Draft → PaErrorCode → ℕ → Option ℕ → Draft
puts_error d error id most = puts d (error_attribute (swima_error (number_of_code error) id most))

-- An attribute whose value takes that many octets of the room.
abbrev pub puts_sized : Draft → Attr → ℕ → Draft
puts_sized d attr size = record (puts d attr) { room = d.room - size }

-- A report.
abbrev pub puts_report : Draft → Report → Draft
puts_report d report = record (puts_sized d (report_attribute report) (report_size report)) { points = d.points ++ point_in report ∷ [] }

-- The requests of the subscriptions, where they have room (section 5.12).
abbrev pub puts_list : Draft → List Request → Draft
puts_list d requests =
    if nat_le (status_octets requests) d.room then puts_sized d (attribute SUBSCRIPTION_STATUS_RESPONSE (written_status requests)) (status_octets requests)
    else puts_error d code.SwimaResponseTooLargeError 0 (Some d.room)

abbrev pub puts_status : Draft → Draft
puts_status d = puts_list d (status d.subs)

-- The attributes that answer one message stand in one message. One without attributes is not
-- written.
abbrev pub closes : List Attr → Draft → Draft
closes [] d = d
closes (attr ∷ attrs) d = record d { attrs = []; messages = d.messages ++ pa_message (next_number d.numbered) (attr ∷ attrs) ∷ []; numbered = next_number d.numbered }

abbrev pub closed : Draft → Draft
closed d = closes d.attrs d

-- ---- a request (section 3.3)

-- How far a subscription is fulfilled that this report answers: to the point of an inventory, and
-- to the last event that was consulted (section 3.8.5).
abbrev pub reach_of : Report → Point
reach_of (Inventory kind fulfil id point records) = point
reach_of (Events kind fulfil id point consulted events) = record point { eid = consulted }

-- A new subscription is fulfilled as far as the report that answers its request.
abbrev pub keeps_place : Request → Point → List Waiting → List Waiting
keeps_place request point subs = if request.subscribe then reported subs request.id point else subs

-- A new subscription is ended where the report is too large that answers its request.
abbrev pub gives_up : Request → List Waiting → List Waiting
gives_up request subs = if request.subscribe then ended subs request.id else subs

-- The desk's answer. It is never that memory ran out.
abbrev pub answered : Draft → Request → Answer → Draft
answered d request (answer.Report report) = puts_report (record d { subs = keeps_place request (reach_of report) d.subs }) report
answered d request (answer.TooLarge size most) = puts_error (record d { subs = gives_up request d.subs }) code.SwimaResponseTooLargeError request.id (Some most)
answered d request answer.Memory = d

-- A request, by what is said of its subscription. One that is refused is not asked of the desk.
-- What is said is never that memory ran out.
abbrev pub taken : Draft → Request → SubAnswer → Drafting
taken d request sub.Taken = Ask (AskAnswer request d.room) (λ reply. Done (answered d request reply))
taken d request (sub.Reused id) = Done (puts_error d code.SwimaSubscriptionIdReuseError id None)
taken d request (sub.Denied held) = Done (puts_error d code.SwimaSubscriptionDeniedError request.id None)
taken d request sub.Memory = Done d

-- Of the subscriptions of earlier batches none is left after a request that clears all.
abbrev pub earlier_left : ℕ → Bool → ℕ
earlier_left earlier clear = if clear then 0 else earlier

abbrev pub wants : Draft → Request → Drafting
wants d request = taken (record d { subs = (applied d.subs request).1; earlier = earlier_left d.earlier request.clear }) request (applied d.subs request).0

-- ---- a message

-- A word.
abbrev pub speaks : Draft → Word → Drafting
speaks d (Wants request) = wants d request
speaks d AsksStatus = Done (puts_status d)
speaks d (Failure code) = Done (record d { errors = d.errors ++ code ∷ [] })

-- What a message says. Of one that is refused nothing is looked at.
abbrev pub answers_said : Draft → Said Word → Drafting
answers_said d (Says words) = and_then (each speaks d words) (λ (e : Draft). Done (closed e))
answers_said d (Refused (Some error)) = Done (closed (puts d (error_attribute error)))
answers_said d (Refused None) = Done d

-- A message of the batch.
abbrev pub answers_body : Draft → Option (List ℕ) → Drafting
answers_body d (Some body) = answers_said d (says SUPPORTED word_of body)
answers_body d None = Done d

abbrev pub answers_message : Draft → Message → Drafting
answers_message d message = answers_body d (swima_body message)

-- ---- subscriptions of earlier batches (section 3.8.5)

-- The desk's answer for the subscription of the ID. What is too large even with all room of a batch
-- ends the subscription, and else it waits for the next batch.
abbrev pub renewed : ServeConfig → Draft → ℕ → Answer → Draft
renewed c d id (answer.Report report) = puts_report (record d { subs = reported d.subs id (reach_of report) }) (fulfilling report)
renewed c d id (answer.TooLarge size most) = if d.room == c.max then puts_error (record d { subs = ended d.subs id }) code.SwimaResponseTooLargeError id (Some most) else d
renewed c d id answer.Memory = d

-- The next request of a subscription, where anything has changed since the point up to which it was
-- fulfilled.
abbrev pub Nexting : Type 0
Nexting = Talk Question Reply (Unit {0}) (Option Request)

abbrev pub next_if : Request → Point → Bool → Nexting
next_if request place true = Ask AskPoint (λ now. Done (Some (next_request request place now)))
next_if request place false = Done None

abbrev pub next_of : Request → Option Point → Nexting
next_of request (Some place) = Ask (AskMoved place request.targets) (λ moved. next_if request place moved)
next_of request None = Done None

-- The desk is asked for what answers it.
abbrev pub renews_by : ServeConfig → Draft → Option Request → Drafting
renews_by c d (Some request) = Ask (AskAnswer request d.room) (λ reply. Done (renewed c d request.id reply))
renews_by c d None = Done d

-- A subscription.
abbrev pub renews_one : ServeConfig → Draft → Waiting → Drafting
renews_one c d held = and_then (next_of held.request held.place) (λ next. renews_by c d next)

-- All of them, in one message after the answers. Where the answers are as many messages as a batch
-- has at most, they wait for the next batch.
abbrev pub renews : ServeConfig → Draft → Drafting
renews c d =
    if nat_lt (length d.messages) BATCH_MESSAGES then and_then (each (renews_one c) d (take d.earlier d.subs)) (λ (e : Draft). Done (closed e))
    else Done d

-- ---- a batch

-- The batch that answers these messages.
abbrev pub drafts : ServeConfig → Stand → List Message → Drafting
drafts c s messages = and_then (each answers_message (draft c s) messages) (λ (d : Draft). renews c d)
