-- How the machine of a server stands after a batch that it heard, by what becomes of the batch.
use Rattle.std.proofs.Common.{◌≡◌, ◌≢◌, Option, Some, None, inl, refl, sym, ap, subst, ◌∙◌}
use Rattle.pb_batch.specs.declared.batch.Batch.{Batch}
use Rattle.pb_batch.specs.declared.kind.BatchKind.{BatchKind}
use Rattle.pb_batch.specs.declared.kind.BatchKind.TheVariants as kinds
use Rattle.pb_machine.specs.declared.machine.Heard.{Heard}
use Rattle.pb_machine.specs.declared.machine.Heard.TheVariants.{Go, Ignored, Unexpected}
use Rattle.pb_machine.specs.declared.machine.Role.TheVariants.{Server}
use Rattle.pb_machine.specs.declared.machine.State.{State}
use Rattle.pb_machine.specs.declared.machine.State.TheVariants.{Init, ServerWorking, ClientWorking, Decided, End}
use Rattle.pb_machine.specs.Table.{Position, receiving, received}
use Rattle.session_rules.specs.declared.end.SessionEnd.{SessionEnd}
use Rattle.session_rules.specs.declared.verdict.Verdict.{Verdict}
use Rattle.session_rules.specs.declared.verdict.Verdict.TheVariants.{PassesOver, Refuses}
use Rattle.session_rules.specs.declared.config.FollowConfig.{FollowConfig}
use Rattle.session_rules.specs.Following.{Stand}
use Rattle.session_rules.specs.FollowRules.{hears, judged}
use Rattle.session_rules.specs.Verdict.{ended_by, is_close, peer_error, unexpected, verdict}
use Rattle.validator_session.specs.Ready.{MayFollow}

-- A verdict by the kind of the batch and its first error.
abbrev verdict_by : BatchKind → Option SessionEnd → Heard → Verdict
verdict_by kind first Ignored = PassesOver
verdict_by kind first Unexpected = Refuses unexpected
verdict_by kind first Go = ended_by kind first

same : (heard : Heard) (batch : Batch) → verdict_by batch.kind (peer_error (is_close batch.kind) batch.messages) heard ≡ verdict heard batch
same Ignored batch = refl
same Unexpected batch = refl
same Go batch = refl

working : (kind : BatchKind) (first : Option SessionEnd) (machine : Position) → machine.state ≡ ServerWorking → MayFollow (ended_by kind first) machine
working kind (Some by) machine is = tt
working kinds.Close None machine is = tt
working kinds.Cdata None machine is = is
working kinds.Sdata None machine is = is
working kinds.Outcome None machine is = is
working kinds.Cretry None machine is = is
working kinds.Sretry None machine is = is

closed : (first : Option SessionEnd) (machine : Position) → MayFollow (ended_by kinds.Close first) machine
closed (Some by) machine = tt
closed None machine = tt

abbrev after : State → BatchKind → Position
after state kind = record { role = Server; state = (receiving Server state kind).1 }

by_state : (state : State) (kind : BatchKind) (first : Option SessionEnd) → state ≢ End → MayFollow (verdict_by kind first (receiving Server state kind).0) (after state kind)
by_state End kind first live = absurd (live refl)
by_state Init kinds.Cdata first live = working kinds.Cdata first (after Init kinds.Cdata) refl
by_state Init kinds.Close first live = closed first (after Init kinds.Close)
by_state Init kinds.Sdata first live = (live, inl refl)
by_state Init kinds.Outcome first live = (live, inl refl)
by_state Init kinds.Cretry first live = (live, inl refl)
by_state Init kinds.Sretry first live = (live, inl refl)
by_state ServerWorking kinds.Cdata first live = (live, inl refl)
by_state ServerWorking kinds.Close first live = closed first (after ServerWorking kinds.Close)
by_state ServerWorking kinds.Sdata first live = (live, inl refl)
by_state ServerWorking kinds.Outcome first live = (live, inl refl)
by_state ServerWorking kinds.Cretry first live = working kinds.Cretry first (after ServerWorking kinds.Cretry) refl
by_state ServerWorking kinds.Sretry first live = (live, inl refl)
by_state ClientWorking kinds.Cdata first live = working kinds.Cdata first (after ClientWorking kinds.Cdata) refl
by_state ClientWorking kinds.Close first live = closed first (after ClientWorking kinds.Close)
by_state ClientWorking kinds.Sdata first live = (live, inl refl)
by_state ClientWorking kinds.Outcome first live = (live, inl refl)
by_state ClientWorking kinds.Cretry first live = working kinds.Cretry first (after ClientWorking kinds.Cretry) refl
by_state ClientWorking kinds.Sretry first live = (live, inl refl)
by_state Decided kinds.Cdata first live = (live, inl refl)
by_state Decided kinds.Close first live = closed first (after Decided kinds.Close)
by_state Decided kinds.Sdata first live = (live, inl refl)
by_state Decided kinds.Outcome first live = (live, inl refl)
by_state Decided kinds.Cretry first live = working kinds.Cretry first (after Decided kinds.Cretry) refl
by_state Decided kinds.Sretry first live = (live, inl refl)

by_position : (machine : Position) (batch : Batch) → machine.role ≡ Server → machine.state ≢ End → MayFollow (verdict (received machine batch.kind).0 batch) (received machine batch.kind).1
by_position machine batch role live =
    subst (λ (m : Position). MayFollow (verdict (received m batch.kind).0 batch) (received m batch.kind).1)
    (ap (λ (r : _). record { role = r; state = machine.state }) (sym role))
    (subst (λ (v : Verdict). MayFollow v (after machine.state batch.kind)) (same (receiving Server machine.state batch.kind).0 batch)
    (by_state machine.state batch.kind (peer_error (is_close batch.kind) batch.messages) live))

-- What may follow a batch that was heard.
pub may_follow : (before now : Position) (heard : Heard) (batch : Batch) (by : Verdict) → before.role ≡ Server → before.state ≢ End → (heard, now) ≡ received before batch.kind → by ≡ verdict heard batch → MayFollow by now
may_follow before now heard batch by role live is judged =
    rw (judged, ap (λ (r : Heard × Position). r.0) is, ap (λ (r : Heard × Position). r.1) is) (by_position before batch role live)

-- The role stays.
pub role_stays : (before now : Position) (heard : Heard) (kind : BatchKind) → before.role ≡ Server → (heard, now) ≡ received before kind → now.role ≡ Server
role_stays before now heard kind role is = ap (λ (r : Heard × Position). r.1.role) is ∙ role

-- The talk of a batch is that of its verdict.
pub hears_judged : (c : FollowConfig) (s : Stand) (batch : Batch) (heard : Heard) (now : Position) (by : Verdict) → (heard, now) ≡ received s.machine batch.kind → by ≡ verdict heard batch
    → judged c (record s { machine = now }) batch by ≡ hears c s batch
hears_judged c s batch heard now by is verdict_is =
    ap (λ (v : Verdict). judged c (record s { machine = now }) batch v) verdict_is
    ∙ ap (λ (r : Heard × Position). judged c (record s { machine = r.1 }) batch (verdict r.0 batch)) is
