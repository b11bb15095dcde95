-- The worlds that are reached are those of a list, which is shown by trying every step from each of
-- them.
use Rattle.std.proofs.Common.{◌≡◌, ◌≢◌, ℕ, zero, suc, Bool, true, false, ◌&&◌, ◌||◌, eqb, List, [], ◌∷◌, ◌++◌, Option, Some, None, inl, inr, refl, sym, ap, ◌∙◌}
use Rattle.std.proofs.lemmas.Bool.{and_parts, or_cases, eqb-true}
use Rattle.pb_batch.specs.declared.kind.BatchKind.{BatchKind}
use Rattle.pb_batch.specs.declared.kind.BatchKind.TheVariants.{Cdata, Sdata, Outcome, Cretry, Sretry, Close}
use Rattle.pb_machine.specs.declared.machine.Role.{Role}
use Rattle.pb_machine.specs.declared.machine.Role.TheVariants.{Client, Server}
use Rattle.pb_machine.specs.declared.machine.State.{State}
use Rattle.pb_machine.specs.declared.machine.State.TheVariants.{Init, ServerWorking, ClientWorking, Decided, End}
use Rattle.pb_machine.specs.declared.machine.Heard.{Heard}
use Rattle.pb_machine.specs.declared.machine.Heard.TheVariants.{Go, Ignored, Unexpected}
use Rattle.pb_machine.specs.Table.{sending, receiving, OnlyGoMoves}
use Rattle.pb_machine.specs.World.{World, Step, ClientSends, ServerSends, ClientHears, ServerHears, Reached, Begun, After, EndsAgree}
use Rattle.pb_machine.proofs.Worlds.{worlds}

-- ---- which worlds are the same

abbrev number_of_state : State → ℕ
number_of_state Init = 0
number_of_state ServerWorking = 1
number_of_state ClientWorking = 2
number_of_state Decided = 3
number_of_state End = 4

abbrev number_of_kind : BatchKind → ℕ
number_of_kind Cdata = 0
number_of_kind Sdata = 1
number_of_kind Outcome = 2
number_of_kind Cretry = 3
number_of_kind Sretry = 4
number_of_kind Close = 5

abbrev state_of : ℕ → State
state_of zero = Init
state_of (suc zero) = ServerWorking
state_of (suc (suc zero)) = ClientWorking
state_of (suc (suc (suc zero))) = Decided
state_of (suc (suc (suc (suc n)))) = End

abbrev kind_of : ℕ → BatchKind
kind_of zero = Cdata
kind_of (suc zero) = Sdata
kind_of (suc (suc zero)) = Outcome
kind_of (suc (suc (suc zero))) = Cretry
kind_of (suc (suc (suc (suc zero)))) = Sretry
kind_of (suc (suc (suc (suc (suc n))))) = Close

state_again : (s : State) → state_of (number_of_state s) ≡ s
state_again Init = refl
state_again ServerWorking = refl
state_again ClientWorking = refl
state_again Decided = refl
state_again End = refl

kind_again : (k : BatchKind) → kind_of (number_of_kind k) ≡ k
kind_again Cdata = refl
kind_again Sdata = refl
kind_again Outcome = refl
kind_again Cretry = refl
kind_again Sretry = refl
kind_again Close = refl

abbrev same_states : State → State → Bool
same_states s t = eqb (number_of_state s) (number_of_state t)

abbrev same_kinds : List BatchKind → List BatchKind → Bool
same_kinds [] [] = true
same_kinds [] (k ∷ ks) = false
same_kinds (j ∷ js) [] = false
same_kinds (j ∷ js) (k ∷ ks) = eqb (number_of_kind j) (number_of_kind k) && same_kinds js ks

abbrev same_worlds : World → World → Bool
same_worlds v w = (same_states v.client w.client && same_states v.server w.server) && (same_kinds v.to_client w.to_client && same_kinds v.to_server w.to_server)

states_equal : (s t : State) → same_states s t ≡ true → s ≡ t
states_equal s t e = sym (state_again s) ∙ ap (λ (n : ℕ). state_of n) (eqb-true (number_of_state s) (number_of_state t) e) ∙ state_again t

kinds_equal : (js ks : List BatchKind) → same_kinds js ks ≡ true → js ≡ ks
kinds_equal [] [] e = refl
kinds_equal [] (k ∷ ks) e = absurd cc
kinds_equal (j ∷ js) [] e = absurd cc
kinds_equal (j ∷ js) (k ∷ ks) e =
    let p = and_parts (eqb (number_of_kind j) (number_of_kind k)) (same_kinds js ks) e in
    let first : j ≡ k = sym (kind_again j) ∙ ap (λ (n : ℕ). kind_of n) (eqb-true (number_of_kind j) (number_of_kind k) p.0) ∙ kind_again k in
    ap (λ (x : BatchKind). x ∷ js) first ∙ ap (λ (xs : List BatchKind). k ∷ xs) (kinds_equal js ks p.1)

worlds_equal : (v w : World) → same_worlds v w ≡ true → v ≡ w
worlds_equal v w e =
    let p = and_parts (same_states v.client w.client && same_states v.server w.server) (same_kinds v.to_client w.to_client && same_kinds v.to_server w.to_server) e in
    let states = and_parts (same_states v.client w.client) (same_states v.server w.server) p.0 in
    let ways = and_parts (same_kinds v.to_client w.to_client) (same_kinds v.to_server w.to_server) p.1 in
    let client = states_equal v.client w.client states.0 in
    let server = states_equal v.server w.server states.1 in
    let to_client = kinds_equal v.to_client w.to_client ways.0 in
    let to_server = kinds_equal v.to_server w.to_server ways.1 in
    ap (λ (x : State). record v { client = x }) client ∙ ap (λ (x : State). record v { client = w.client; server = x }) server
    ∙ ap (λ (x : List BatchKind). record w { to_client = x; to_server = v.to_server }) to_client ∙ ap (λ (x : List BatchKind). record w { to_server = x }) to_server

-- ---- what holds of each world of a list

-- The world is one of a list.
is_among : World → List World → Bool
is_among w [] = false
is_among w (v ∷ vs) = same_worlds v w || is_among w vs

-- A test holds of each world of a list.
all_pass : (World → Bool) → List World → Bool
all_pass test [] = true
all_pass test (v ∷ vs) = test v && all_pass test vs

-- What holds of each world of a list holds of one that is among them.
passes : (test : World → Bool) (w : World) (vs : List World) → is_among w vs ≡ true → all_pass test vs ≡ true → test w ≡ true
unfolding is_among all_pass
passes test w [] among all = absurd cc
passes test w (v ∷ vs) among all =
    let p = and_parts (test v) (all_pass test vs) all in
    elim (or_cases (same_worlds v w) (is_among w vs) among) [
      | inl same ↦ sym (ap test (worlds_equal v w same)) ∙ p.0
      | inr later ↦ passes test w vs later p.1
    ]

-- ---- the steps from a world

-- A test holds of every kind.
abbrev pub each_kind : (BatchKind → Bool) → Bool
each_kind test = (test Cdata && (test Sdata && test Outcome)) && (test Cretry && (test Sretry && test Close))

-- Six tests that hold together hold each.
six : (a b c d e f : Bool) → ((a && (b && c)) && (d && (e && f))) ≡ true → (a ≡ true) × (b ≡ true) × (c ≡ true) × (d ≡ true) × (e ≡ true) × (f ≡ true)
six a b c d e f all =
    let halves = and_parts (a && (b && c)) (d && (e && f)) all in
    let first = and_parts a (b && c) halves.0 in
    let second = and_parts d (e && f) halves.1 in
    let third = and_parts b c first.1 in
    let fourth = and_parts e f second.1 in
    (first.0, third.0, third.1, second.0, fourth.0, fourth.1)

pub kind_passes : (test : BatchKind → Bool) → each_kind test ≡ true → (kind : BatchKind) → test kind ≡ true
kind_passes test all Cdata = (six (test Cdata) (test Sdata) (test Outcome) (test Cretry) (test Sretry) (test Close) all).0
kind_passes test all Sdata = (six (test Cdata) (test Sdata) (test Outcome) (test Cretry) (test Sretry) (test Close) all).1
kind_passes test all Outcome = (six (test Cdata) (test Sdata) (test Outcome) (test Cretry) (test Sretry) (test Close) all).2
kind_passes test all Cretry = (six (test Cdata) (test Sdata) (test Outcome) (test Cretry) (test Sretry) (test Close) all).3
kind_passes test all Sretry = (six (test Cdata) (test Sdata) (test Outcome) (test Cretry) (test Sretry) (test Close) all).4
kind_passes test all Close = (six (test Cdata) (test Sdata) (test Outcome) (test Cretry) (test Sretry) (test Close) all).5

-- Where a batch may be sent, a test holds of the state that this gives.
abbrev if_sent : Option State → (State → Bool) → Bool
if_sent None test = true
if_sent (Some next) test = test next

-- Where a batch is on its way, a test holds of it and of those after it.
abbrev if_first : List BatchKind → (BatchKind → List BatchKind → Bool) → Bool
if_first [] test = true
if_first (kind ∷ rest) test = test kind rest

-- The batch is one that is expected.
abbrev is_expected : Heard → Bool
is_expected Go = true
is_expected Ignored = true
is_expected Unexpected = false

-- Something is on its way.
abbrev not_none : List BatchKind → Bool
not_none [] = false
not_none (kind ∷ rest) = true

-- The worlds to which one step leads.
abbrev client_sent : World → BatchKind → State → World
client_sent w kind next = record w { client = next; to_server = w.to_server ++ kind ∷ [] }

abbrev server_sent : World → BatchKind → State → World
server_sent w kind next = record w { server = next; to_client = w.to_client ++ kind ∷ [] }

abbrev client_heard : World → BatchKind → List BatchKind → World
client_heard w kind rest = record w { client = (receiving Client w.client kind).1; to_client = rest }

abbrev server_heard : World → BatchKind → List BatchKind → World
server_heard w kind rest = record w { server = (receiving Server w.server kind).1; to_server = rest }

-- Each of them is one of the list, and no batch is heard that is not expected.
abbrev client_sends : World → Bool
client_sends w = each_kind (λ kind. if_sent (sending Client w.client kind) (λ next. is_among (client_sent w kind next) worlds))

abbrev server_sends : World → Bool
server_sends w = each_kind (λ kind. if_sent (sending Server w.server kind) (λ next. is_among (server_sent w kind next) worlds))

abbrev client_hears : World → Bool
client_hears w = if_first w.to_client (λ kind rest. is_among (client_heard w kind rest) worlds && is_expected (receiving Client w.client kind).0)

abbrev server_hears : World → Bool
server_hears w = if_first w.to_server (λ kind rest. is_among (server_heard w kind rest) worlds && is_expected (receiving Server w.server kind).0)

keeps : World → Bool
keeps w = (client_sends w && server_sends w) && (client_hears w && server_hears w)

-- Where nothing is on its way, both ends of the world are in one state.
agrees : World → Bool
agrees w = (not_none w.to_client || not_none w.to_server) || same_states w.client w.server

-- The list is closed under steps.
all_keep : all_pass keeps worlds ≡ true
unfolding all_pass keeps is_among worlds
all_keep = refl

all_agree : all_pass agrees worlds ≡ true
unfolding all_pass agrees worlds
all_agree = refl

-- ---- every world that is reached

-- What is sent passes the test of all that may be sent.
sent_passes : (sends : BatchKind → Option State) (test : BatchKind → State → Bool) → each_kind (λ kind. if_sent (sends kind) (test kind)) ≡ true
    → (kind : BatchKind) (next : State) → sends kind ≡ Some next → test kind next ≡ true
sent_passes sends test all kind next is =
    sym (ap (λ (o : Option State). if_sent o (test kind)) is) ∙ kind_passes (λ k. if_sent (sends k) (test k)) all kind

-- What is heard passes the test of what is first.
heard_passes : (way : List BatchKind) (test : BatchKind → List BatchKind → Bool) → if_first way test ≡ true
    → (kind : BatchKind) (rest : List BatchKind) → way ≡ kind ∷ rest → test kind rest ≡ true
heard_passes way test first kind rest is = sym (ap (λ (ks : List BatchKind). if_first ks test) is) ∙ first

-- What a world keeps, by the kind of step.
record Kept (w : World) : Type 0 where
  client_may : (kind : BatchKind) (next : State) → sending Client w.client kind ≡ Some next → is_among (client_sent w kind next) worlds ≡ true
  server_may : (kind : BatchKind) (next : State) → sending Server w.server kind ≡ Some next → is_among (server_sent w kind next) worlds ≡ true
  client_will : (kind : BatchKind) (rest : List BatchKind) → w.to_client ≡ kind ∷ rest → (is_among (client_heard w kind rest) worlds ≡ true) × (is_expected (receiving Client w.client kind).0 ≡ true)
  server_will : (kind : BatchKind) (rest : List BatchKind) → w.to_server ≡ kind ∷ rest → (is_among (server_heard w kind rest) worlds ≡ true) × (is_expected (receiving Server w.server kind).0 ≡ true)

kept : (w : World) → keeps w ≡ true → Kept w
unfolding keeps
kept w e =
    let p = and_parts (client_sends w && server_sends w) (client_hears w && server_hears w) e in
    let sends = and_parts (client_sends w) (server_sends w) p.0 in
    let hears = and_parts (client_hears w) (server_hears w) p.1 in
    record {
      client_may = sent_passes (λ kind. sending Client w.client kind) (λ kind next. is_among (client_sent w kind next) worlds) sends.0;
      server_may = sent_passes (λ kind. sending Server w.server kind) (λ kind next. is_among (server_sent w kind next) worlds) sends.1;
      client_will = λ kind rest first. and_parts (is_among (client_heard w kind rest) worlds) (is_expected (receiving Client w.client kind).0)
          (heard_passes w.to_client (λ kind rest. is_among (client_heard w kind rest) worlds && is_expected (receiving Client w.client kind).0) hears.0 kind rest first);
      server_will = λ kind rest first. and_parts (is_among (server_heard w kind rest) worlds) (is_expected (receiving Server w.server kind).0)
          (heard_passes w.to_server (λ kind rest. is_among (server_heard w kind rest) worlds && is_expected (receiving Server w.server kind).0) hears.1 kind rest first);
    }

-- A step from a world of the list leads to one.
step_stays : (before after : World) → Kept before → Step before after → is_among after worlds ≡ true
step_stays before _ k (ClientSends _ kind next may) = k.client_may kind next may
step_stays before _ k (ServerSends _ kind next may) = k.server_may kind next may
step_stays before _ k (ClientHears _ kind rest first) = (k.client_will kind rest first).0
step_stays before _ k (ServerHears _ kind rest first) = (k.server_will kind rest first).0

-- A world that is reached is one of the list.
among : (w : World) → Reached w → is_among w worlds ≡ true
unfolding is_among worlds
among _ Begun = refl
among _ (After before after reached step) = step_stays before after (kept before (passes keeps before worlds (among before reached) all_keep)) step

-- A batch that is expected is not an unexpected one.
expected : (heard : Heard) → is_expected heard ≡ true → heard ≢ Unexpected
expected Go e is = absurd cc
expected Ignored e is = absurd cc
expected Unexpected e is = absurd cc

-- Where nothing is on its way, the test is that of the states.
one_state : (w : World) → agrees w ≡ true → w.to_client ≡ [] → w.to_server ≡ [] → w.client ≡ w.server
unfolding agrees
one_state w e a b =
    let no_way : (not_none w.to_client || not_none w.to_server) ≡ false = rw (a, b) refl in
    states_equal w.client w.server (sym (ap (λ (t : Bool). t || same_states w.client w.server) no_way) ∙ e)

-- In every world that is reached the ends agree.
pub ends_agree : EndsAgree
ends_agree w reached =
    let here = among w reached in
    let k = kept w (passes keeps w worlds here all_keep) in
    record {
      client_expects = λ kind rest first. expected _ (k.client_will kind rest first).1;
      server_expects = λ kind rest first. expected _ (k.server_will kind rest first).1;
      one_state = one_state w (passes agrees w worlds here all_agree);
    }

-- ---- what is not gone on with

abbrev pub is_go : Heard → Bool
is_go Go = true
is_go Ignored = false
is_go Unexpected = false

-- The batch is gone on with, or the state stays.
abbrev stays : Role → State → BatchKind → Bool
stays role state kind = is_go (receiving role state kind).0 || same_states (receiving role state kind).1 state

all_stay : (role : Role) (state : State) (kind : BatchKind) → stays role state kind ≡ true
all_stay Client Init kind = kind_passes (stays Client Init) refl kind
all_stay Client ServerWorking kind = kind_passes (stays Client ServerWorking) refl kind
all_stay Client ClientWorking kind = kind_passes (stays Client ClientWorking) refl kind
all_stay Client Decided kind = kind_passes (stays Client Decided) refl kind
all_stay Client End kind = kind_passes (stays Client End) refl kind
all_stay Server Init kind = kind_passes (stays Server Init) refl kind
all_stay Server ServerWorking kind = kind_passes (stays Server ServerWorking) refl kind
all_stay Server ClientWorking kind = kind_passes (stays Server ClientWorking) refl kind
all_stay Server Decided kind = kind_passes (stays Server Decided) refl kind
all_stay Server End kind = kind_passes (stays Server End) refl kind

gone_on : (heard : Heard) → is_go heard ≡ true → heard ≡ Go
gone_on Go e = refl
gone_on Ignored e = absurd cc
gone_on Unexpected e = absurd cc

pub only_go_moves : OnlyGoMoves
only_go_moves role state kind other =
    let next : Heard × State = receiving role state kind in
    elim (or_cases (is_go next.0) (same_states next.1 state) (all_stay role state kind)) [
      | inl go ↦ absurd (other (gone_on next.0 go))
      | inr same ↦ states_equal next.1 state same
    ]
