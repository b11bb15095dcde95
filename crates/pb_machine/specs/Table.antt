-- The state machines of a PB-TNC session (RFC 5793, section 3.2). The RFC leaves open what becomes
-- of two retries that cross. Here a client that awaits the server's batch ignores a retry of the
-- server. A server takes a retry of the client also while it or the client works.
use Rattle.std.specs.Prelude.{◌≡◌, ◌≢◌, Bool, true, false, IsTrue, Option, Some, None, is_some, unwrap_or}
use Rattle.pb_batch.specs.declared.kind.BatchKind.{BatchKind}
use Rattle.pb_batch.specs.declared.kind.BatchKind.TheVariants as batch
use Rattle.pb_machine.specs.declared.machine.Role.{Role}
use Rattle.pb_machine.specs.declared.machine.Role.TheVariants.{Client, Server}
use Rattle.pb_machine.specs.declared.machine.State.{State}
use Rattle.pb_machine.specs.declared.machine.State.TheVariants.{Init, ServerWorking, ClientWorking, Decided, End}
use Rattle.pb_machine.specs.declared.machine.Heard.{Heard}
use Rattle.pb_machine.specs.declared.machine.Heard.TheVariants.{Go, Ignored, Unexpected}

-- The batches that an end may send in a state, and the state in which it is then.
abbrev pub sending : Role → State → BatchKind → Option State
sending role End kind = None
sending role state batch.Close = Some End
sending Client Init batch.Cdata = Some ServerWorking
sending Client ClientWorking batch.Cdata = Some ServerWorking
sending Client Decided batch.Cretry = Some ServerWorking
sending Server ServerWorking batch.Sdata = Some ClientWorking
sending Server ServerWorking batch.Outcome = Some Decided
sending Server Decided batch.Sretry = Some ClientWorking
sending role state kind = None

-- What an end does with a batch that it hears in a state, and the state in which it is then.
abbrev pub receiving : Role → State → BatchKind → Heard × State
receiving role End kind = (Ignored, End)
receiving role state batch.Close = (Go, End)
receiving Client Init batch.Sdata = (Go, ClientWorking)
receiving Client ServerWorking batch.Sdata = (Go, ClientWorking)
receiving Client ServerWorking batch.Outcome = (Go, Decided)
receiving Client ServerWorking batch.Sretry = (Ignored, ServerWorking)
receiving Client Decided batch.Sretry = (Go, ClientWorking)
receiving Server Init batch.Cdata = (Go, ServerWorking)
receiving Server ClientWorking batch.Cdata = (Go, ServerWorking)
receiving Server ClientWorking batch.Cretry = (Go, ServerWorking)
receiving Server Decided batch.Cretry = (Go, ServerWorking)
receiving Server ServerWorking batch.Cretry = (Go, ServerWorking)
receiving role state kind = (Unexpected, state)

-- A machine, as contracts see it: which end it is of, and its state.
pub record Position : Type 0 where
  pub role : Role
  pub state : State

-- A batch of the kind may be sent.
abbrev pub may_send : Position → BatchKind → Bool
may_send machine kind = is_some (sending machine.role machine.state kind)

-- The machine once it has sent a batch of the kind, which it may send.
abbrev pub sent : Position → BatchKind → Position
sent machine kind = record machine { state = unwrap_or (sending machine.role machine.state kind) machine.state }

-- What is done with a batch of the kind, and the machine once it has heard it.
abbrev pub received : Position → BatchKind → Heard × Position
received machine kind = ((receiving machine.role machine.state kind).0, record machine { state = (receiving machine.role machine.state kind).1 })

-- A batch that an end does not go on with leaves its state as it is.
abbrev pub OnlyGoMoves : Type 0
OnlyGoMoves = (role : Role) (state : State) (kind : BatchKind) → (receiving role state kind).0 ≢ Go → (receiving role state kind).1 ≡ state

-- CLOSE may be sent in every state except End.
abbrev pub MayClose : Type 0
MayClose = (role : Role) (state : State) → state ≢ End → IsTrue (is_some (sending role state batch.Close))

-- No batch is unexpected at End.
abbrev pub NoneUnexpectedAtEnd : Type 0
NoneUnexpectedAtEnd = (role : Role) (state : State) (kind : BatchKind) → (receiving role state kind).0 ≡ Unexpected → state ≢ End

-- Which kinds answer a kind that an end hears: CDATA answers SDATA and SRETRY, CRETRY answers
-- RESULT, and SDATA and RESULT answer CDATA and CRETRY.
abbrev pub is_answer : Role → BatchKind → BatchKind → Bool
is_answer Client batch.Sdata batch.Cdata = true
is_answer Client batch.Sretry batch.Cdata = true
is_answer Client batch.Outcome batch.Cretry = true
is_answer Server batch.Cdata batch.Sdata = true
is_answer Server batch.Cdata batch.Outcome = true
is_answer Server batch.Cretry batch.Sdata = true
is_answer Server batch.Cretry batch.Outcome = true
is_answer role kind answer = false

-- What answers a batch that an end goes on with may be sent in the state after that batch.
abbrev pub MayAnswer : Type 0
MayAnswer = (role : Role) (state : State) (kind answer : BatchKind) → IsTrue (is_answer role kind answer) → (receiving role state kind).0 ≡ Go
    → IsTrue (is_some (sending role (receiving role state kind).1 answer))
