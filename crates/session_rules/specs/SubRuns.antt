-- The runs of reports in a whole session of a collector (RFC 8412, section 3.8.5). The first report
-- of a subscription answers the request that established it. Each later one goes on where the last
-- report for the subscription stopped that was written.
use Rattle.std.specs.Prelude.{◌≡◌, ◌==◌, ℕ, true, false, List, [], ◌∷◌, ◌++◌, Option, Some, None, map, fold, if◌then◌else◌}
use Rattle.std.specs.List.{AllByRecursion}
use Rattle.wire_base.specs.Turns.{Turn}
use Rattle.swima_model.specs.declared.report.Point.{Point}
use Rattle.swima_model.specs.declared.report.Report.{Report}
use Rattle.swima_model.specs.Fulfilling.{fulfilling}
use Rattle.swima_request.specs.declared.request.Request.{Request}
use Rattle.swima_request.specs.AttributeTypes.{SUBSCRIPTION_STATUS_RESPONSE}
use Rattle.swima_request.specs.StatusForm.{written_status}
use Rattle.swima_subs.specs.declared.waiting.Waiting.{Waiting}
use Rattle.swima_subs.specs.Subscriptions.{next_request}
use Rattle.pa_attrs.specs.declared.attr.Attr.{Attr}
use Rattle.pa_attrs.specs.declared.error.PaError.{PaError}
use Rattle.pb_batch.specs.declared.batch.Message.{Message}
use Rattle.pb_batch.specs.declared.fault.PbFault.{PbFault}
use Rattle.pb_batch.specs.declared.kind.BatchKind.{BatchKind}
use Rattle.pb_batch.specs.Written.{fault_batch_of, written}
use Rattle.collector_core.specs.declared.answer.Answer.TheVariants as answer
use Rattle.collector_core.specs.Answering.{answer_at}
use Rattle.collector_core.specs.Chronicle.{Chronicle, front, point_of}
use Rattle.collector_core.specs.Legal.{IsLegal}
use Rattle.session_rules.specs.declared.config.ServeConfig.{ServeConfig}
use Rattle.session_rules.specs.Answering.{reach_of}
use Rattle.session_rules.specs.Messages.{attribute, client_batch, error_attribute, pa_message, report_attribute}
use Rattle.session_rules.specs.Serving.{Stand}
use Rattle.session_rules.specs.SubRun.{GoesOnAfter}
use Rattle.session_rules.specs.Transcripts.{Serves}

-- ---- what a collector writes

-- An attribute that it puts into a message, and why.
--   PutError error             an Error
--   PutList requests           the requests of the subscriptions
--   PutAnswer request report   the report that answers a request without the flag Subscribe
--   PutFirst request report    the report that answers the request of a new subscription
--   PutNext request report     the report that fulfils the subscription of this request further
pub data Put : Type 0 where
  PutError : PaError → Put
  PutList : List Request → Put
  PutAnswer : Request → Report → Put
  PutFirst : Request → Report → Put
  PutNext : Request → Report → Put

abbrev pub put_attribute : Put → Attr
put_attribute (PutError error) = error_attribute error
put_attribute (PutList requests) = attribute SUBSCRIPTION_STATUS_RESPONSE (written_status requests)
put_attribute (PutAnswer request report) = report_attribute report
put_attribute (PutFirst request report) = report_attribute report
put_attribute (PutNext request report) = report_attribute (fulfilling report)

-- A PA-TNC message: its number, and what is put into it.
pub record Filled : Type 0 where
  pub number : ℕ
  pub puts : List Put

abbrev pub filled_message : Filled → Message
filled_message filled = pa_message filled.number (map put_attribute filled.puts)

-- A batch: one of such messages, or the CLOSE that reports a fault.
pub data Sent : Type 0 where
  Sends : BatchKind → List Filled → Sent
  SendsFault : PbFault → Sent

-- Its octets.
abbrev pub sent_octets : Sent → List ℕ
sent_octets (Sends kind messages) = written (client_batch kind (map filled_message messages))
sent_octets (SendsFault fault) = written (fault_batch_of false fault)

-- Those of batches one after another.
abbrev pub all_octets : List Sent → List ℕ
all_octets [] = []
all_octets (sent ∷ later) = sent_octets sent ++ all_octets later

-- What is put into messages, and into batches, in order.
abbrev pub puts_of : List Filled → List Put
puts_of [] = []
puts_of (filled ∷ later) = filled.puts ++ puts_of later

abbrev pub all_puts : List Sent → List Put
all_puts [] = []
all_puts (Sends kind messages ∷ later) = puts_of messages ++ all_puts later
all_puts (SendsFault fault ∷ later) = all_puts later

-- ---- runs

-- A report for a subscription, with the request that established that.
abbrev pub Reported : Type 0
Reported = Request × Report

-- The last report for the subscription of an ID, after one more attribute.
abbrev pub last_after : ℕ → Option Reported → Put → Option Reported
last_after id last (PutFirst request report) = if id == request.id then Some (request, report) else last
last_after id last (PutNext request report) = if id == request.id then Some (request, report) else last
last_after id last other = last

-- The last report for it among attributes.
abbrev pub last_for : ℕ → List Put → Option Reported
last_for id puts = fold (last_after id) None puts

-- The report is what the desk answered to the request, at a place.
pub record IsAnswer (chronicle : Chronicle) (request : Request) (report : Report) : Type 0 where
  pub place : ℕ
  pub most : ℕ
  pub is : answer_at (front chronicle place) request most ≡ answer.Report report

-- So is the report to the next request of a subscription, from where the last report stopped that
-- is among the earlier attributes. Of events of one epoch it has all that match since, none skipped
-- or doubled.
pub record GoesOn (chronicle : Chronicle) (earlier : List Put) (request : Request) (report : Report) : Type 0 where
  pub last : Report
  pub was : last_for request.id earlier ≡ Some (request, last)
  pub seen : ℕ
  pub place : ℕ
  pub most : ℕ
  pub is : answer_at (front chronicle place) (next_request request (reach_of last) (point_of (front chronicle seen))) most ≡ answer.Report report
  pub whole : GoesOnAfter (front chronicle place) request last report

-- What is put after earlier attributes.
abbrev pub IsPut : Chronicle → List Put → Put → Type 0
IsPut chronicle earlier (PutError error) = Unit {0}
IsPut chronicle earlier (PutList requests) = Unit {0}
IsPut chronicle earlier (PutAnswer request report) = (request.subscribe ≡ false) × IsAnswer chronicle request report
IsPut chronicle earlier (PutFirst request report) = (request.subscribe ≡ true) × IsAnswer chronicle request report
IsPut chronicle earlier (PutNext request report) = GoesOn chronicle earlier request report

abbrev pub ArePut : Chronicle → List Put → List Put → Type 0
ArePut chronicle earlier [] = Unit {0}
ArePut chronicle earlier (put ∷ later) = IsPut chronicle earlier put × ArePut chronicle (earlier ++ put ∷ []) later

-- A subscription that is held has its place where the last report for it stopped.
abbrev pub IsPlaced : List Put → Waiting → Type 0
IsPlaced puts held = (place : Point) → held.place ≡ Some place → (last : Report) × (last_for held.request.id puts ≡ Some (held.request, last)) × (reach_of last ≡ place)

-- ---- a session

-- The octets are those of batches into which such attributes are put, and these subscriptions are
-- held then.
pub record AreRuns (chronicle : Chronicle) (octets : List ℕ) (subs : List Waiting) : Type 0 where
  pub sent : List Sent
  pub octets_are : octets ≡ all_octets sent
  pub put : ArePut chronicle [] (all_puts sent)
  pub placed : AllByRecursion (IsPlaced (all_puts sent)) subs

-- So it is in each session at a legal chronicle, whatever comes in its turns.
abbrev pub SessionsAreRuns : Type 0
SessionsAreRuns = (chronicle : Chronicle) (c : ServeConfig) (turns : List Turn) (places octets : List ℕ) (stand : Stand) → IsLegal chronicle
    → Serves chronicle c turns places octets stand → AreRuns chronicle octets stand.subs
