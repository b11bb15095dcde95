-- What each rule wrote and noted, by what its calls did.
use Rattle.std.proofs.Common.{◌≡◌, ◌≢◌, ℕ, ◌+◌, ◌≤◌, ◌<◌, Bool, true, false, List, [], ◌∷◌, ◌++◌, None, Result, Ok, Err, refl, sym, ap, subst, subst₂, ◌∙◌, arith}
use Rattle.std.specs.Prelude.{IsTrue, OnErr, OnOk, nat_le}
use Rattle.std.specs.Result.{IsErr}
use Rattle.std.proofs.lemmas.Bool.{leb-true, le-leb}
use Rattle.pb_batch.specs.declared.batch.Message.{Message}
use Rattle.pb_batch.specs.declared.batch.Message.TheVariants.{Assessment}
use Rattle.pb_batch.specs.declared.kind.BatchKind.{BatchKind}
use Rattle.pb_batch.specs.declared.kind.BatchKind.TheVariants as kinds
use Rattle.pb_batch.specs.Written.{written}
use Rattle.pb_machine.specs.declared.machine.Role.{Role}
use Rattle.pb_machine.specs.declared.machine.Role.TheVariants.{Server}
use Rattle.pb_machine.specs.declared.machine.State.{State}
use Rattle.pb_machine.specs.declared.machine.State.TheVariants.{End, ServerWorking, Decided}
use Rattle.pb_machine.specs.Table.{Position, may_send, sent}
use Rattle.validator_core.specs.Held.{Held}
use Rattle.session_talk.specs.Talk.{Done, Note}
use Rattle.session_talk.specs.Course.{Breaks, Gives}
use Rattle.session_rules.specs.declared.config.FollowConfig.{FollowConfig}
use Rattle.session_rules.specs.Clauses.{Spoke, Spoken}
use Rattle.session_rules.specs.Following.{Stand}
use Rattle.session_rules.specs.FollowRules.{Follows, asks, closes_if, decides, request_message, sends, writes_request}
use Rattle.session_rules.specs.Messages.{server_batch}
use Rattle.session_rules.specs.Taking.{NoQuestion, NoReply}
use Rattle.validator_session.specs.declared.notes.Notes.{Notes}
use Rattle.validator_session.specs.declared.standing.Standing.{Standing}
use Rattle.validator_session.specs.Drafting.{Goes, with_codes, writes}
use Rattle.validator_session.specs.Noting.{IsNoted}
use Rattle.validator_session.specs.Ready.{CanGoOn}
use Rattle.validator_session.specs.Standing.{notes_of, stand_of}
use Rattle.validator_session.proofs.Speaking.{failed, lost, wrote_all, wrote_lost, wrote_off, wrote_on}

-- ---- codes

-- The notes with these codes.
abbrev pub coded : Notes → List ℕ → Notes
coded n codes = record n { «record» = record n.record { errors = codes } }

pub coded_noted : (n : Notes) (codes : List ℕ) → IsNoted n → IsNoted (coded n codes)
coded_noted n codes noted = record { points = noted.points; answers = noted.answers }

-- ---- a batch

pub writes_so : {T E : Type 0} (old : Standing) (m : Position) (mirror : Held) (waits now : List ℕ) (kind : BatchKind) (answers : List Message) (errors codes : List ℕ) (result : Result T E)
    → m ≡ sent old.machine kind → now ≡ waits ++ written (server_batch kind answers)
    → OnOk result (codes ≡ old.notes.record.errors ++ errors) → OnErr result (codes ≡ old.notes.record.errors)
    → Spoken {Q = NoQuestion} {R = NoReply} waits now (notes_of old.notes mirror) (writes (with_codes (stand_of old mirror) errors) kind answers) (stand_of (record old { machine = m; notes = coded old.notes codes }) mirror) (notes_of (coded old.notes codes) mirror) result
writes_so old m mirror waits now kind answers errors codes (Ok done) is put well ill =
    wrote_all waits now (written (server_batch kind answers)) (writes (with_codes (stand_of old mirror) errors) kind answers) (sends (with_codes (stand_of old mirror) errors) kind) (stand_of (record old { machine = m; notes = coded old.notes codes }) mirror) refl put
    (ap (λ (p : Position). stand_of (record old { machine = p; notes = coded old.notes codes }) mirror) is ∙ ap (λ (k : List ℕ). stand_of (record old { machine = sent old.machine kind; notes = coded old.notes k }) mirror) well)
writes_so old m mirror waits now kind answers errors codes (Err error) is put well ill =
    wrote_lost waits now (written (server_batch kind answers)) (notes_of old.notes mirror) (Done (sends (with_codes (stand_of old mirror) errors) kind)) (notes_of (coded old.notes codes) mirror) put (ap (λ (k : List ℕ). notes_of (coded old.notes k) mirror) ill)

pub writes_lost : {E : Type 0} (old : Standing) (m : Position) (mirror : Held) (waits now : List ℕ) (kind : BatchKind) (answers : List Message) (errors : List ℕ) (result : Result (Unit {0}) E) → IsErr result → now ≡ waits
    → Goes old mirror waits (writes (with_codes (stand_of old mirror) errors) kind answers) (record old { machine = m }) mirror now result
writes_lost old m mirror waits now kind answers errors result is same =
    let talk : Follows = writes (with_codes (stand_of old mirror) errors) kind answers in
    failed waits now (notes_of old.notes mirror) talk (stand_of (record old { machine = m }) mirror) (notes_of old.notes mirror) result is (lost waits now (notes_of old.notes mirror) talk (notes_of old.notes mirror) same refl)

-- ---- a request

-- It is counted, and then written after the answers.
pub request_so : {E : Type 0} (c : FollowConfig) (old mid new : Standing) (mirror : Held) (waits now : List ℕ) (kind : BatchKind) (answers all : List Message) (errors : List ℕ) (result : Result (Unit {0}) E)
    → stand_of mid mirror ≡ asks (stand_of old mirror) → all ≡ answers ++ request_message c (stand_of old mirror) ∷ []
    → Goes mid mirror waits (writes (with_codes (stand_of mid mirror) errors) kind all) new mirror now result → Goes old mirror waits (writes_request c (with_codes (stand_of old mirror) errors) kind answers) new mirror now result
request_so c old mid new mirror waits now kind answers all errors result asked put so =
    subst₂ (λ (s : Stand) (messages : List Message). Spoken {Q = NoQuestion} {R = NoReply} waits now s.notes (writes (with_codes s errors) kind messages) (stand_of new mirror) (notes_of new.notes mirror) result) asked put so

-- ---- a RESULT

-- The standing after it.
abbrev pub decided : Stand → Stand
decided s = record s { tries = None; rounds = s.rounds + 1 }

pub decide_so : {E : Type 0} (c : FollowConfig) (old mid new : Standing) (mirror : Held) (waits between now : List ℕ) (answers : List Message) (errors : List ℕ) (result : Result (Unit {0}) E)
    → Spoke {Q = NoQuestion} {R = NoReply} waits between (λ replies out. Gives replies (writes (with_codes (stand_of old mirror) errors) kinds.Outcome (Assessment 4 ∷ answers)) [] out (stand_of mid mirror))
    → Spoken {Q = NoQuestion} {R = NoReply} between now (notes_of mid.notes mirror) (closes_if (decided (stand_of mid mirror)) (nat_le c.rounds (mid.rounds + 1))) (stand_of new mirror) (notes_of new.notes mirror) result
    → Goes old mirror waits (decides c (with_codes (stand_of old mirror) errors) answers) new mirror now result
decide_so c old mid new mirror waits between now answers errors result first so =
    wrote_on waits between now (written (server_batch kinds.Outcome (Assessment 4 ∷ answers))) (notes_of old.notes mirror) (sends (with_codes (stand_of old mirror) errors) kinds.Outcome) (stand_of mid mirror) (λ (s : Stand). s.notes)
    (λ (s : Stand). closes_if (decided s) (nat_le c.rounds (s.rounds + 1))) (stand_of new mirror) (notes_of new.notes mirror) result first so

pub decide_lost : {E : Type 0} (c : FollowConfig) (old new : Standing) (mirror : Held) (waits now : List ℕ) (answers : List Message) (errors : List ℕ) (result : Result (Unit {0}) E) → IsErr result
    → Spoke {Q = NoQuestion} {R = NoReply} waits now (λ replies out. Breaks replies (notes_of old.notes mirror) (writes (with_codes (stand_of old mirror) errors) kinds.Outcome (Assessment 4 ∷ answers)) [] out (notes_of new.notes mirror))
    → Goes old mirror waits (decides c (with_codes (stand_of old mirror) errors) answers) new mirror now result
decide_lost c old new mirror waits now answers errors result is first =
    let s : Stand = with_codes (stand_of old mirror) errors in
    let after : Stand = decided (sends s kinds.Outcome) in
    let talk : Follows = Note s.notes (closes_if after (nat_le c.rounds after.rounds)) in
    failed waits now (notes_of old.notes mirror) (decides c s answers) (stand_of new mirror) (notes_of new.notes mirror) result is
    (wrote_off waits now (written (server_batch kinds.Outcome (Assessment 4 ∷ answers))) (notes_of old.notes mirror) (sends s kinds.Outcome) talk (notes_of new.notes mirror) first)

-- ---- tests

pub not_le : (n m : ℕ) → m < n → nat_le n m ≡ false
not_le n m less = by_test (nat_le n m) refl
  where
    by_test : (test : Bool) → nat_le n m ≡ test → test ≡ false
    by_test true is = absurd (omega (arith, less, leb-true n m is))
    by_test false is = refl

pub is_le : (n m : ℕ) → n ≤ m → nat_le n m ≡ true
is_le n m le = le-leb n m le

-- ---- the machine

pub may_working : (machine : Position) (kind : BatchKind) → machine.role ≡ Server → machine.state ≡ ServerWorking → IsTrue (may_send (record { role = Server; state = ServerWorking }) kind) → IsTrue (may_send machine kind)
may_working machine kind role state may = subst₂ (λ (r : Role) (s : State). IsTrue (may_send (record { role = r; state = s }) kind)) (sym role) (sym state) may

pub may_decided : (machine : Position) (kind : BatchKind) → machine.role ≡ Server → machine.state ≡ Decided → IsTrue (may_send (record { role = Server; state = Decided }) kind) → IsTrue (may_send machine kind)
may_decided machine kind role state may = subst₂ (λ (r : Role) (s : State). IsTrue (may_send (record { role = r; state = s }) kind)) (sym role) (sym state) may

-- The standing after a batch from which the session goes on.
pub sent_ready : (rounds : ℕ) (old new : Standing) (state : State) (kind : BatchKind) → CanGoOn old rounds → old.machine.state ≡ state → (sent (record { role = Server; state = state }) kind).state ≢ End → new.machine ≡ sent old.machine kind → new.rounds ≡ old.rounds → CanGoOn new rounds
sent_ready rounds old new state kind ready is live machine same = record {
  role = ap (λ (p : Position). p.role) machine ∙ ready.role;
  live = λ end. live (
      sym (subst₂ (λ (r : Role) (s : State). (sent (record { role = r; state = s }) kind).state ≡ (sent (record { role = Server; state = state }) kind).state) (sym ready.role) (sym is) refl) ∙ sym (ap (λ (p : Position). p.state) machine) ∙ end
      );
  rounds_left = subst (λ (n : ℕ). n < rounds) (sym same) ready.rounds_left;
}

pub decided_live : (machine m : Position) → machine.role ≡ Server → machine.state ≡ ServerWorking → m ≡ sent machine kinds.Outcome → (m.role ≡ Server) × (m.state ≢ End)
decided_live machine m role state is = (
  ap (λ (p : Position). p.role) is ∙ role,
  λ end. at_decided (sym (subst₂ (λ (r : Role) (s : State). (sent (record { role = r; state = s }) kinds.Outcome).state ≡ Decided) (sym role) (sym state) refl) ∙ sym (ap (λ (p : Position). p.state) is) ∙ end),
)
  where
    at_decided : Decided ≢ End
    at_decided is = absurd cc
