-- What a validator asks for, in every session: what the mirror wants that is noted at that time.
-- What follows from that after a gap is said in `Recovery`.
use Rattle.std.specs.Prelude.{◌≡◌, ◌⊎◌, ◌<◌, ◌^◌, ◌==◌, ◌&&◌, ℕ, false, List, [], ◌∷◌, ◌++◌}
use Rattle.std.specs.List.{AllByRecursion}
use Rattle.wire_base.specs.Turns.{Turn}
use Rattle.swima_request.specs.declared.request.Request.{Request}
use Rattle.swima_request.specs.RequestForm.{written_request}
use Rattle.pa_attrs.specs.declared.error.PaError.{PaError}
use Rattle.pb_batch.specs.declared.batch.Message.{Message}
use Rattle.pb_batch.specs.declared.batch.Message.TheVariants.{Pa}
use Rattle.pb_batch.specs.declared.kind.BatchKind.{BatchKind}
use Rattle.pb_batch.specs.Written.{written}
use Rattle.validator_core.specs.Held.{Held}
use Rattle.validator_core.specs.Want.{want}
use Rattle.session_talk.specs.Keeping.{Writes}
use Rattle.session_rules.specs.declared.config.FollowConfig.{FollowConfig}
use Rattle.session_rules.specs.Following.{Notes, Stand, nothing_noted}
use Rattle.session_rules.specs.FollowRules.{earliest_of, session}
use Rattle.session_rules.specs.Messages.{attribute, error_attribute, pa_message, server_batch}
use Rattle.swima_request.specs.AttributeTypes.{SWIMA_REQUEST}

-- A message with an Error alone.
pub record IsError (message : Message) : Type 0 where
  pub number : ℕ
  pub error : PaError
  pub is : message ≡ pa_message number (error_attribute error ∷ [])

-- A message that asks for nothing: a PB-PA message only with an Error.
abbrev pub AsksNothing : Message → Type 0
AsksNothing (Pa excl vendor subtype collector validator body) = IsError (Pa excl vendor subtype collector validator body)
AsksNothing message = Unit {0}

-- A batch without a request.
pub record AsksNot (octets : List ℕ) : Type 0 where
  pub kind : BatchKind
  pub messages : List Message
  pub is : octets ≡ written (server_batch kind messages)
  pub none : AllByRecursion AsksNothing messages

-- A batch with one request, in its last message: for what the mirror wants, in its kind and without
-- targets. It clears nothing, and subscribes where the configuration says so and its ID is 1.
pub record AsksFor (c : FollowConfig) (mirror : Held) (octets : List ℕ) : Type 0 where
  pub kind : BatchKind
  pub answers : List Message
  pub number : ℕ
  pub request : Request
  pub is : octets ≡ written (server_batch kind (answers ++ pa_message number (attribute SWIMA_REQUEST (written_request request) ∷ []) ∷ []))
  pub none : AllByRecursion AsksNothing answers
  pub wants : request.earliest ≡ earliest_of (want mirror)
  pub of_kind : request.kind ≡ mirror.kind
  pub of_all : request.targets ≡ []
  pub clears_nothing : request.clear ≡ false
  pub subscribes : request.subscribe ≡ (c.subscribe && (request.id == 1))

abbrev pub AsksOf : FollowConfig → Notes → List ℕ → Type 0
AsksOf c notes octets = AsksFor c notes.mirror octets ⊎ AsksNot octets

-- The mirror that was noted last is the one that the end holds, and its requests are counted in
-- four octets.
abbrev pub StandsSo : Notes → Stand → Type 0
StandsSo notes stand = (notes.mirror ≡ stand.notes.mirror) × (stand.asked < 2 ^ 32)

-- Each batch of a session is such a batch, and after it the mirror is the one that was noted last.
abbrev pub RequestsAreWanted : Type 0
RequestsAreWanted = (c : FollowConfig) (mirror : Held) (turns : List Turn) → Writes (AsksOf c) StandsSo (nothing_noted mirror) (session c mirror turns)
