-- The worked sessions compute.
use Rattle.std.proofs.Common.{refl}
use Rattle.std.proofs.lemmas.Bool.{cond-false, le-ltb}
use Rattle.std.specs.Prelude.{length}
use Rattle.wire_base.specs.Numbers.{octets_of}
use Rattle.wire_base.specs.Reading.{several, counted}
use Rattle.wire_base.specs.Stamp.{is_stamp, digits}
use Rattle.wire_base.specs.Written.{written as written_fields}
use Rattle.pb_batch.specs.Form.{BATCH_MESSAGES}
use Rattle.pb_batch.specs.Front.{front_of, messages_of}
use Rattle.pb_batch.specs.Written.{written, written_message}
use Rattle.pa_attrs.specs.Faults.{message_header}
use Rattle.pa_attrs.specs.MessageReading.{message_of, attributes}
use Rattle.pa_attrs.specs.ErrorForm.{read_error}
use Rattle.swima_request.specs.RequestForm.{read_fields, read_request}
use Rattle.swima_reports.specs.ReportReading.{read_body, read_origin, read_software, read_record, read_event, read_inventory, read_events}
use Rattle.session_rules.specs.Worked.{InventoryIsServed, InventoryIsAdopted, OtherVersionIsRefused, HeaderIsTorn, DoubledIsAskedThrice, TurnsAreTaken, SubscriptionIsFulfilled, SubscriptionIsFollowed}
use Rattle.session_rules.specs.WorkedSubscriptions.{ClearingIsTaken, SubscriptionIsDenied, SubscriptionIsReused, SubscriptionIsTaken, SubscriptionWaits, SubscriptionsAreListed}
use Rattle.session_rules.specs.WorkedEnds.{IdleTurnsEnd, LastOctetsEnd, PeerEnds, RequestsAreAnswered, RetriesAreHeard, RetriesCross, TooLargeIsAnswered, ValidatorAnswers, ValidatorEnds, ValidatorHearsErrors, ValidatorRetries, WantedReportsEnd}
use Rattle.session_rules.specs.WorkedFaults.{FaultsAreRefused, FaultsAreRefusedByValidator, LastMessageIsRefused, FaultsAreAnswered, LastAttributeIsAnswered, CutsAreTorn}

pub header_is_torn : HeaderIsTorn
unfolding front_of messages_of written written_message written_fields octets_of several counted message_header message_of attributes read_error read_request read_fields
header_is_torn = refl

pub other_version_is_refused : OtherVersionIsRefused
unfolding front_of messages_of written written_message written_fields octets_of several counted message_header message_of attributes read_error read_request read_fields
other_version_is_refused = refl

pub inventory_is_served : InventoryIsServed
unfolding front_of messages_of written written_message written_fields octets_of several counted message_header message_of attributes read_error read_request read_fields
inventory_is_served = refl

pub inventory_is_adopted : InventoryIsAdopted
unfolding front_of messages_of written written_message written_fields octets_of several counted message_header message_of attributes read_error read_body read_origin read_software read_record read_inventory
inventory_is_adopted = refl

pub doubled_is_asked_thrice : DoubledIsAskedThrice
unfolding front_of messages_of written written_message written_fields octets_of several counted message_header message_of attributes read_error read_body read_origin read_software read_record read_inventory
doubled_is_asked_thrice = refl

pub turns_are_taken : TurnsAreTaken
unfolding front_of messages_of written written_message written_fields octets_of several counted message_header message_of attributes read_error read_request read_fields
turns_are_taken = record { begun_up = refl; begun_down = refl; asked_up = refl; asked_down = refl; answered_up = refl; answered_down = refl }

pub subscription_is_taken : SubscriptionIsTaken
unfolding front_of messages_of written written_message written_fields octets_of several counted message_header message_of attributes read_error read_request read_fields
subscription_is_taken = refl

pub subscription_is_denied : SubscriptionIsDenied
unfolding front_of messages_of written written_message written_fields octets_of several counted message_header message_of attributes read_error read_request read_fields
subscription_is_denied = refl

pub subscription_is_reused : SubscriptionIsReused
unfolding front_of messages_of written written_message written_fields octets_of several counted message_header message_of attributes read_error read_request read_fields
subscription_is_reused = refl

pub clearing_is_taken : ClearingIsTaken
unfolding front_of messages_of written written_message written_fields octets_of several counted message_header message_of attributes read_error read_request read_fields
clearing_is_taken = record { full = refl; same = refl; none = refl }

pub subscriptions_are_listed : SubscriptionsAreListed
unfolding front_of messages_of written written_message written_fields octets_of several counted message_header message_of attributes read_error read_request read_fields
subscriptions_are_listed = record { listed = refl; large = refl }

pub subscription_waits : SubscriptionWaits
unfolding front_of messages_of written written_message written_fields octets_of several counted message_header message_of attributes read_error read_request read_fields
subscription_waits = record {
  beside = refl;
  alone = refl;
  full = λ c d many. cond-false _ _ _ (le-ltb (length d.messages) BATCH_MESSAGES many);
}

pub subscription_is_fulfilled : SubscriptionIsFulfilled
unfolding front_of messages_of written written_message written_fields octets_of several counted message_header message_of attributes read_error read_request read_fields
subscription_is_fulfilled = refl

pub subscription_is_followed : SubscriptionIsFollowed
unfolding front_of messages_of written written_message written_fields octets_of several counted message_header message_of attributes read_error read_body read_origin read_software read_record read_event read_inventory read_events is_stamp digits
subscription_is_followed = refl

pub faults_are_refused : FaultsAreRefused
unfolding front_of messages_of written written_message written_fields octets_of several counted message_header message_of attributes read_error read_request read_fields
faults_are_refused = refl

pub faults_are_answered : FaultsAreAnswered
unfolding front_of messages_of written written_message written_fields octets_of several counted message_header message_of attributes read_error read_request read_fields
faults_are_answered = refl

pub cuts_are_torn : CutsAreTorn
unfolding front_of messages_of written written_message written_fields octets_of several counted message_header message_of attributes read_error read_request read_fields
cuts_are_torn = refl

pub faults_are_refused_by_validator : FaultsAreRefusedByValidator
unfolding front_of messages_of written written_message written_fields octets_of several counted message_header message_of attributes read_error read_body read_origin read_software read_record read_inventory
faults_are_refused_by_validator = refl

pub last_message_is_refused : LastMessageIsRefused
unfolding front_of messages_of written written_message written_fields octets_of several counted message_header message_of attributes read_error read_request read_fields
last_message_is_refused = refl

pub last_attribute_is_answered : LastAttributeIsAnswered
unfolding front_of messages_of written written_message written_fields octets_of several counted message_header message_of attributes read_error read_request read_fields
last_attribute_is_answered = refl

pub peer_ends : PeerEnds
unfolding front_of messages_of written written_message written_fields octets_of several counted message_header message_of attributes read_error read_request read_fields
peer_ends = refl

pub idle_turns_end : IdleTurnsEnd
unfolding front_of messages_of written written_message written_fields octets_of several counted message_header message_of attributes read_error read_request read_fields
idle_turns_end = refl

pub last_octets_end : LastOctetsEnd
unfolding front_of messages_of written written_message written_fields octets_of several counted message_header message_of attributes read_error read_request read_fields
last_octets_end = refl

pub wanted_reports_end : WantedReportsEnd
unfolding front_of messages_of written written_message written_fields octets_of several counted message_header message_of attributes read_error read_request read_fields
wanted_reports_end = refl

pub retries_are_heard : RetriesAreHeard
unfolding front_of messages_of written written_message written_fields octets_of several counted message_header message_of attributes read_error read_request read_fields
retries_are_heard = refl

pub retries_cross : RetriesCross
unfolding front_of messages_of written written_message written_fields octets_of several counted message_header message_of attributes read_error read_request read_fields
retries_cross = refl

pub validator_ends : ValidatorEnds
unfolding front_of messages_of written written_message written_fields octets_of several counted message_header message_of attributes read_error read_body read_origin read_software read_record read_inventory
validator_ends = refl

pub validator_retries : ValidatorRetries
unfolding front_of messages_of written written_message written_fields octets_of several counted message_header message_of attributes read_error read_body read_origin read_software read_record read_inventory
validator_retries = refl

pub requests_are_answered : RequestsAreAnswered
unfolding front_of messages_of written written_message written_fields octets_of several counted message_header message_of attributes read_error read_request read_fields
requests_are_answered = refl

pub too_large_is_answered : TooLargeIsAnswered
unfolding front_of messages_of written written_message written_fields octets_of several counted message_header message_of attributes read_error read_request read_fields
too_large_is_answered = refl

pub validator_answers : ValidatorAnswers
unfolding front_of messages_of written written_message written_fields octets_of several counted message_header message_of attributes read_error read_body read_origin read_software read_record read_inventory
validator_answers = refl

pub validator_hears_errors : ValidatorHearsErrors
unfolding front_of messages_of written written_message written_fields octets_of several counted message_header message_of attributes read_error read_body read_origin read_software read_record read_inventory
validator_hears_errors = refl
