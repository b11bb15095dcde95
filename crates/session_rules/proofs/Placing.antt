-- Each word, and each subscription that is fulfilled further, changes places as reports say.
use Rattle.std.proofs.Common.{◌≡◌, ◌⊎◌, inl, inr, ℕ, Bool, true, false, cond, List, [], ◌∷◌, ◌++◌, length, refl, sym, ap}
use Rattle.std.specs.Prelude.{Contains, Option, Some, None, not, nat_le, ◌==◌}
use Rattle.std.proofs.lemmas.List.Elements.{All-append, All-cons, All-contains_itself, All-filter, All-nil, All-weaker}
use Rattle.swima_model.specs.declared.report.Point.{Point}
use Rattle.swima_model.specs.declared.report.Report.{Report}
use Rattle.swima_model.specs.declared.report.Report.TheVariants.{Inventory, Events}
use Rattle.swima_model.specs.Fulfilling.{fulfilling}
use Rattle.swima_request.specs.declared.request.Request.{Request}
use Rattle.swima_request.specs.StatusForm.{status_octets, written_status}
use Rattle.swima_request.specs.AttributeTypes.{SUBSCRIPTION_STATUS_RESPONSE}
use Rattle.swima_subs.specs.declared.sub_answer.SubAnswer.{SubAnswer}
use Rattle.swima_subs.specs.declared.sub_answer.SubAnswer.TheVariants.{Taken, Reused, Denied, Memory}
use Rattle.swima_subs.specs.declared.waiting.Waiting.{Waiting}
use Rattle.swima_subs.specs.Subscriptions.{MOST_SUBSCRIPTIONS, applied, cleared, ended, established, has_id, is_held, new_waiting, reported, status}
use Rattle.pa_attrs.specs.declared.attr.Attr.{Attr}
use Rattle.pa_attrs.specs.declared.error_code.PaErrorCode.TheVariants as code
use Rattle.collector_core.specs.declared.answer.Answer.{Answer}
use Rattle.collector_core.specs.declared.answer.Answer.TheVariants as answer
use Rattle.session_talk.specs.Talk.{and_then}
use Rattle.session_rules.specs.declared.config.ServeConfig.{ServeConfig}
use Rattle.session_rules.specs.declared.word.CollectorWord.{CollectorWord as Word}
use Rattle.session_rules.specs.declared.word.CollectorWord.TheVariants.{Wants, AsksStatus, Failure}
use Rattle.swima_model.specs.Reports.{point_in}
use Rattle.session_rules.specs.Answering.{answered, earlier_left, puts_error, puts_report, puts_sized, reach_of, next_if, next_of, renewed, renews_by, speaks, taken}
use Rattle.session_rules.specs.Messages.{attribute, report_attribute}
use Rattle.session_rules.specs.Serving.{Draft}
use Rattle.session_rules.specs.SubRun.{Follows, PlacesFollow, PlacesFollowReports, PlacesStay}

-- ---- places that stay

same_places : (subs : List Waiting) → PlacesStay subs subs
same_places subs = All-weaker (Contains subs) (λ (held : Waiting). Contains subs held ⊎ (held.place ≡ None)) (λ held there. inl there) subs (All-contains_itself subs)

cleared_places : (subs : List Waiting) (request : Request) → PlacesStay subs (cleared subs request)
cleared_places subs request = by_flag request.clear
  where
    by_flag : (b : Bool) → PlacesStay subs (cond b [] subs)
    by_flag true = All-nil (λ (held : Waiting). Contains subs held ⊎ (held.place ≡ None))
    by_flag false = same_places subs

-- A new one has no place.
established_places : (first subs : List Waiting) (request : Request) → PlacesStay first subs → PlacesStay first (established subs request).1
established_places first subs request stay = by_tests (is_held request.id subs) (nat_le MOST_SUBSCRIPTIONS (length subs))
  where
    by_tests : (held full : Bool) → PlacesStay first (cond {A = SubAnswer × List Waiting} held (Reused request.id, subs) (cond full (Denied MOST_SUBSCRIPTIONS, subs) (Taken, subs ++ new_waiting request ∷ []))).1
    by_tests true full = stay
    by_tests false true = stay
    by_tests false false =
        All-append (λ (held : Waiting). Contains first held ⊎ (held.place ≡ None)) subs (new_waiting request ∷ []) stay
        (All-cons (λ (held : Waiting). Contains first held ⊎ (held.place ≡ None)) (new_waiting request) [] (inr refl) (All-nil (λ (held : Waiting). Contains first held ⊎ (held.place ≡ None))))

applied_places : (subs : List Waiting) (request : Request) → PlacesStay subs (applied subs request).1
applied_places subs request = by_flag request.subscribe
  where
    by_flag : (b : Bool) → PlacesStay subs (cond {A = SubAnswer × List Waiting} b (established (cleared subs request) request) (Taken, cleared subs request)).1
    by_flag true = established_places subs (cleared subs request) request (cleared_places subs request)
    by_flag false = cleared_places subs request

ended_places : (first subs : List Waiting) (id : ℕ) → PlacesStay first subs → PlacesStay first (ended subs id)
ended_places first subs id stay = All-filter (λ (held : Waiting). not (has_id id held)) (λ (held : Waiting). Contains first held ⊎ (held.place ≡ None)) subs stay

-- ---- a request

module _ (first d : Draft) (attrs : d.attrs ≡ first.attrs) (points : d.points ≡ first.points) (stay : PlacesStay first.subs d.subs) (request : Request) where
  report_follows : (report : Report) → PlacesFollow first (answered d request (answer.Report report))
  report_follows report = by_flag request.subscribe
    where
      by_flag : (b : Bool) → PlacesFollow first (puts_report (record d { subs = cond b (reported d.subs request.id (reach_of report)) d.subs }) report)
      by_flag true = inr (
        request.id,
        record {
          report = report;
          put = ap (λ (xs : List Attr). xs ++ report_attribute report ∷ []) attrs;
          noted = ap (λ (ps : List Point). ps ++ point_in report ∷ []) points;
          others = d.subs;
          stay = stay;
          place = refl;
        },
      )
      by_flag false = inl stay

  large_follows : (size most : ℕ) → PlacesFollow first (answered d request (answer.TooLarge size most))
  large_follows size most = by_flag request.subscribe
    where
      by_flag : (b : Bool) → PlacesFollow first (puts_error (record d { subs = cond b (ended d.subs request.id) d.subs }) code.SwimaResponseTooLargeError request.id (Some most))
      by_flag true = inl (ended_places first.subs d.subs request.id stay)
      by_flag false = inl stay

  answer_follows : (reply : Answer) → PlacesFollow first (answered d request reply)
  answer_follows (answer.Report report) = report_follows report
  answer_follows (answer.TooLarge size most) = large_follows size most
  answer_follows answer.Memory = inl stay

  taken_follows : (said : SubAnswer) → Follows first (taken d request said)
  taken_follows Taken = λ reply. answer_follows reply
  taken_follows (Reused id) = inl stay
  taken_follows (Denied held) = inl stay
  taken_follows Memory = inl stay

word_follows : (d : Draft) (word : Word) → Follows d (speaks d word)
word_follows d (Wants request) =
    taken_follows d (record d { subs = (applied d.subs request).1; earlier = earlier_left d.earlier request.clear }) refl refl (applied_places d.subs request) request (applied d.subs request).0
word_follows d AsksStatus = by_room (nat_le (status_octets (status d.subs)) d.room)
  where
    by_room : (b : Bool)
        → PlacesFollow d (cond b (puts_sized d (attribute SUBSCRIPTION_STATUS_RESPONSE (written_status (status d.subs))) (status_octets (status d.subs))) (puts_error d code.SwimaResponseTooLargeError 0 (Some d.room)))
    by_room true = inl (same_places d.subs)
    by_room false = inl (same_places d.subs)
word_follows d (Failure code) = inl (same_places d.subs)

-- ---- a subscription of an earlier batch

same_reach : (report : Report) → reach_of (fulfilling report) ≡ reach_of report
same_reach (Inventory kind fulfil id point records) = refl
same_reach (Events kind fulfil id point consulted events) = refl

renewed_follows : (c : ServeConfig) (d : Draft) (id : ℕ) (reply : Answer) → PlacesFollow d (renewed c d id reply)
renewed_follows c d id (answer.Report report) = inr (
  id,
  record {
    report = fulfilling report;
    put = refl;
    noted = refl;
    others = d.subs;
    stay = same_places d.subs;
    place = ap (λ (p : Point). reported d.subs id p) (sym (same_reach report));
  },
)
renewed_follows c d id (answer.TooLarge size most) = by_room (d.room == c.max)
  where
    by_room : (b : Bool) → PlacesFollow d (cond b (puts_error (record d { subs = ended d.subs id }) code.SwimaResponseTooLargeError id (Some most)) d)
    by_room true = inl (ended_places d.subs d.subs id (same_places d.subs))
    by_room false = inl (same_places d.subs)
renewed_follows c d id answer.Memory = inl (same_places d.subs)

next_follows : (c : ServeConfig) (d : Draft) (next : Option Request) → Follows d (renews_by c d next)
next_follows c d (Some request) = λ reply. renewed_follows c d request.id reply
next_follows c d None = inl (same_places d.subs)

renewal_follows : (c : ServeConfig) (d : Draft) (request : Request) (place : Option Point) → Follows d (and_then (next_of request place) (λ (next : Option Request). renews_by c d next))
renewal_follows c d request None = inl (same_places d.subs)
renewal_follows c d request (Some place) = λ moved. by_moved moved
  where
    by_moved : (moved : Bool) → Follows d (and_then (next_if request place moved) (λ (next : Option Request). renews_by c d next))
    by_moved true = λ now reply. renewed_follows c d request.id reply
    by_moved false = inl (same_places d.subs)

pub places_follow_reports : PlacesFollowReports
places_follow_reports = record { words = word_follows; renewals = λ c d held. renewal_follows c d held.request held.place }
