-- After each batch a collector may do what becomes of it.
use Rattle.std.proofs.Common.{◌≡◌, ◌≢◌, ℕ, Bool, true, false, cond, List, [], ◌∷◌, Option, Some, None, inl, refl, sym, ap, subst, subst₂, ◌∙◌}
use Rattle.std.specs.Prelude.{◌||◌, IsTrue}
use Rattle.pb_batch.specs.declared.batch.Batch.{Batch}
use Rattle.pb_batch.specs.declared.batch.Message.{Message}
use Rattle.pb_batch.specs.declared.batch.Message.TheVariants.{Assessment, Error, Frame, Pa, Recommendation}
use Rattle.pb_batch.specs.declared.kind.BatchKind.{BatchKind}
use Rattle.pb_batch.specs.declared.kind.BatchKind.TheVariants as kinds
use Rattle.pb_machine.specs.Table.{Position, may_send, receiving, received, sent}
use Rattle.pb_machine.specs.declared.machine.Heard.{Heard}
use Rattle.pb_machine.specs.declared.machine.Heard.TheVariants as heard
use Rattle.pb_machine.specs.declared.machine.Role.{Role}
use Rattle.pb_machine.specs.declared.machine.Role.TheVariants.{Client}
use Rattle.pb_machine.specs.declared.machine.State.{State}
use Rattle.pb_machine.specs.declared.machine.State.TheVariants.{Init, ServerWorking, ClientWorking, Decided, End}
use Rattle.pb_machine.proofs.Sending.{may_answer, may_close}
use Rattle.session_rules.specs.declared.end.SessionEnd.{SessionEnd}
use Rattle.session_rules.specs.declared.end.SessionEnd.TheVariants as end
use Rattle.session_talk.specs.Talk.{Done}
use Rattle.session_rules.specs.declared.config.ServeConfig.{ServeConfig}
use Rattle.session_rules.specs.declared.verdict.Verdict.{Verdict}
use Rattle.session_rules.specs.ServeRules.{Serves, hears, judged}
use Rattle.session_rules.specs.Serving.{Stand}
use Rattle.session_rules.specs.Verdict.{ended_by, error_in, is_close, or_later, peer_error, verdict}
use Rattle.collector_session.specs.Judging.{MayFollow}

-- A talk in which nothing is done.
abbrev pub does_nothing : Stand → Serves
does_nothing s = Done s

-- After a batch that is no CLOSE a client that goes on with it is not at its end.
lives : (state : State) (kind : BatchKind) → kind ≢ kinds.Close → (receiving Client state kind).0 ≡ heard.Go → (receiving Client state kind).1 ≢ End
lives End kind other go is = absurd cc
lives Init kinds.Cdata other go is = absurd cc
lives Init kinds.Sdata other go is = absurd cc
lives Init kinds.Outcome other go is = absurd cc
lives Init kinds.Cretry other go is = absurd cc
lives Init kinds.Sretry other go is = absurd cc
lives Init kinds.Close other go is = absurd (other refl)
lives ServerWorking kinds.Cdata other go is = absurd cc
lives ServerWorking kinds.Sdata other go is = absurd cc
lives ServerWorking kinds.Outcome other go is = absurd cc
lives ServerWorking kinds.Cretry other go is = absurd cc
lives ServerWorking kinds.Sretry other go is = absurd cc
lives ServerWorking kinds.Close other go is = absurd (other refl)
lives ClientWorking kinds.Cdata other go is = absurd cc
lives ClientWorking kinds.Sdata other go is = absurd cc
lives ClientWorking kinds.Outcome other go is = absurd cc
lives ClientWorking kinds.Cretry other go is = absurd cc
lives ClientWorking kinds.Sretry other go is = absurd cc
lives ClientWorking kinds.Close other go is = absurd (other refl)
lives Decided kinds.Cdata other go is = absurd cc
lives Decided kinds.Sdata other go is = absurd cc
lives Decided kinds.Outcome other go is = absurd cc
lives Decided kinds.Cretry other go is = absurd cc
lives Decided kinds.Sretry other go is = absurd cc
lives Decided kinds.Close other go is = absurd (other refl)

-- A batch that is not gone on with leaves a client where it is.
stays : (state : State) (kind : BatchKind) → (receiving Client state kind).0 ≢ heard.Go → (receiving Client state kind).1 ≡ state
stays End kind other = refl
stays Init kinds.Cdata other = refl
stays Init kinds.Sdata other = absurd (other refl)
stays Init kinds.Outcome other = refl
stays Init kinds.Cretry other = refl
stays Init kinds.Sretry other = refl
stays Init kinds.Close other = absurd (other refl)
stays ServerWorking kinds.Cdata other = refl
stays ServerWorking kinds.Sdata other = absurd (other refl)
stays ServerWorking kinds.Outcome other = absurd (other refl)
stays ServerWorking kinds.Cretry other = refl
stays ServerWorking kinds.Sretry other = refl
stays ServerWorking kinds.Close other = absurd (other refl)
stays ClientWorking kinds.Cdata other = refl
stays ClientWorking kinds.Sdata other = refl
stays ClientWorking kinds.Outcome other = refl
stays ClientWorking kinds.Cretry other = refl
stays ClientWorking kinds.Sretry other = refl
stays ClientWorking kinds.Close other = absurd (other refl)
stays Decided kinds.Cdata other = refl
stays Decided kinds.Sdata other = refl
stays Decided kinds.Outcome other = refl
stays Decided kinds.Cretry other = refl
stays Decided kinds.Sretry other = absurd (other refl)
stays Decided kinds.Close other = absurd (other refl)

-- No PB-Error ends a session as a fault of the link does.
counted_own : (counts : Bool) (vendor code : ℕ) → cond counts (Some (end.PeerError vendor code)) None ≢ Some end.LinkFault
counted_own true vendor code is = absurd cc
counted_own false vendor code is = absurd cc

error_own : (closing : Bool) (message : Message) → error_in closing message ≢ Some end.LinkFault
error_own closing (Error fatal vendor code info) is = counted_own (fatal || closing) vendor code is
error_own closing (Pa excl vendor subtype collector validator body) is = absurd cc
error_own closing (Assessment result) is = absurd cc
error_own closing (Recommendation code) is = absurd cc
error_own closing (Frame noskip vendor kind body) is = absurd cc

later_own : (first later : Option SessionEnd) → first ≢ Some end.LinkFault → later ≢ Some end.LinkFault → or_later first later ≢ Some end.LinkFault
later_own (Some by) later one other = one
later_own None later one other = other

peers_own : (closing : Bool) (messages : List Message) → peer_error closing messages ≢ Some end.LinkFault
peers_own closing [] is = absurd cc
peers_own closing (message ∷ messages) is = later_own (error_in closing message) (peer_error closing messages) (error_own closing message) (peers_own closing messages) is

-- After a batch that the machine goes on with.
goes_on : (state : State) (kind : BatchKind) (first : Option SessionEnd) → first ≢ Some end.LinkFault → (receiving Client state kind).0 ≡ heard.Go → MayFollow (record { role = Client; state = (receiving Client state kind).1 }) kind (ended_by kind first)
goes_on state kinds.Close (Some by) own go = λ is. own (ap (λ (e : SessionEnd). Some e) is)
goes_on state kinds.Close None own go = λ is. absurd cc
goes_on state kinds.Cdata (Some by) own go = λ is. own (ap (λ (e : SessionEnd). Some e) is)
goes_on state kinds.Cdata None own go = record { live = lives state kinds.Cdata (λ is. absurd cc) go; after_data = λ is. absurd cc; after_retry = λ is. absurd cc }
goes_on state kinds.Sdata (Some by) own go = λ is. own (ap (λ (e : SessionEnd). Some e) is)
goes_on state kinds.Sdata None own go = record { live = lives state kinds.Sdata (λ is. absurd cc) go; after_data = λ is. may_answer Client state kinds.Sdata kinds.Cdata refl go; after_retry = λ is. absurd cc }
goes_on state kinds.Outcome (Some by) own go = λ is. own (ap (λ (e : SessionEnd). Some e) is)
goes_on state kinds.Outcome None own go = record { live = lives state kinds.Outcome (λ is. absurd cc) go; after_data = λ is. absurd cc; after_retry = λ is. absurd cc }
goes_on state kinds.Cretry (Some by) own go = λ is. own (ap (λ (e : SessionEnd). Some e) is)
goes_on state kinds.Cretry None own go = record { live = lives state kinds.Cretry (λ is. absurd cc) go; after_data = λ is. absurd cc; after_retry = λ is. absurd cc }
goes_on state kinds.Sretry (Some by) own go = λ is. own (ap (λ (e : SessionEnd). Some e) is)
goes_on state kinds.Sretry None own go = record { live = lives state kinds.Sretry (λ is. absurd cc) go; after_data = λ is. absurd cc; after_retry = λ is. may_answer Client state kinds.Sretry kinds.Cdata refl go }

-- After a batch, by what the machine says of its kind.
heard_so : (state : State) (batch : Batch) (said : Heard) → state ≢ End → (receiving Client state batch.kind).0 ≡ said
    → MayFollow (record { role = Client; state = (receiving Client state batch.kind).1 }) batch.kind (verdict said batch)
heard_so state batch heard.Ignored live is = λ end. live (sym (stays state batch.kind (λ go. let both : heard.Ignored ≡ heard.Go = sym is ∙ go in absurd cc)) ∙ end)
heard_so state batch heard.Unexpected live is = (
  may_close Client (receiving Client state batch.kind).1 (λ end. live (sym (stays state batch.kind (λ go. let both : heard.Unexpected ≡ heard.Go = sym is ∙ go in absurd cc)) ∙ end)),
  inl refl,
)
heard_so state batch heard.Go live is = goes_on state batch.kind (peer_error (is_close batch.kind) batch.messages) (peers_own (is_close batch.kind) batch.messages) is

pub may_follow : (machine : Position) (batch : Batch) → machine.role ≡ Client → machine.state ≢ End → MayFollow (received machine batch.kind).1 batch.kind (verdict (received machine batch.kind).0 batch)
may_follow machine batch client live = by_role machine.role client
  where
    by_role : (role : Role) → role ≡ Client
        → MayFollow (record { role = role; state = (receiving role machine.state batch.kind).1 }) batch.kind (verdict (receiving role machine.state batch.kind).0 batch)
    by_role role is =
        subst (λ (r : Role). MayFollow (record { role = r; state = (receiving r machine.state batch.kind).1 }) batch.kind (verdict (receiving r machine.state batch.kind).0 batch)) (sym is)
        (heard_so machine.state batch (receiving Client machine.state batch.kind).0 live refl)

-- ---- the machine, once it has heard a batch

module _ (machine next : Position) (batch : Batch) (said : Heard) (by : Verdict) (heard-so : (said, next) ≡ received machine batch.kind) (is : by ≡ verdict said batch) where
  next_is : next ≡ (received machine batch.kind).1
  next_is = ap (λ (x : Heard × Position). x.1) heard-so

  by_is : by ≡ verdict (received machine batch.kind).0 batch
  by_is = is ∙ ap (λ (x : Heard × Position). verdict x.0 batch) heard-so

  pub may_do : machine.role ≡ Client → machine.state ≢ End → MayFollow next batch.kind by
  may_do client live = subst₂ (λ (n : Position) (v : Verdict). MayFollow n batch.kind v) (sym next_is) (sym by_is) (may_follow machine batch client live)

  pub still_client : machine.role ≡ Client → next.role ≡ Client
  still_client client = ap (λ (n : Position). n.role) next_is ∙ client

  -- What follows from the verdict is what follows from the batch.
  pub judged_so : (c : ServeConfig) (s : Stand) → s.machine ≡ machine → judged c (record s { machine = next }) batch by ≡ hears c s batch
  judged_so c s same =
      ap (λ (n : Position). judged c (record s { machine = n }) batch by) next_is
      ∙ ap (λ (v : Verdict). judged c (record s { machine = (received machine batch.kind).1 }) batch v) by_is
      ∙ ap (λ (m : Position). judged c (record s { machine = (received m batch.kind).1 }) batch (verdict (received m batch.kind).0 batch)) (sym same)

-- A client that may send a CDATA is not at its end once it has.
pub sent_lives : (machine : Position) → machine.role ≡ Client → IsTrue (may_send machine kinds.Cdata) → (sent machine kinds.Cdata).state ≢ End
sent_lives machine client may = by_role machine.role client may
  where
    by_state : (state : State) → IsTrue (may_send (record { role = Client; state = state }) kinds.Cdata) → (sent (record { role = Client; state = state }) kinds.Cdata).state ≢ End
    by_state Init may end = absurd cc
    by_state ServerWorking may end = absurd cc
    by_state ClientWorking may end = absurd cc
    by_state Decided may end = absurd cc
    by_state End may end = absurd cc

    by_role : (role : Role) → role ≡ Client → IsTrue (may_send (record { role = role; state = machine.state }) kinds.Cdata) → (sent (record { role = role; state = machine.state }) kinds.Cdata).state ≢ End
    by_role role is = subst (λ (r : Role). IsTrue (may_send (record { role = r; state = machine.state }) kinds.Cdata) → (sent (record { role = r; state = machine.state }) kinds.Cdata).state ≢ End) (sym is) (by_state machine.state)
