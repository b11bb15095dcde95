use Rattle.std.proofs.Common.{◌≡◌, ◌+◌, ◌∙◌, arith, refl}
use Rattle.std.specs.Prelude.{max}
use Rattle.collector_core.proofs.Moving.{idents_all, idents_more, idents_room}
use Rattle.collector_core.proofs.moved.later_idents.Goals as goal

pub push_ident-requires : goal.push_ident-requires
push_ident-requires c =
    let first : c.max-first.result ≡ max c.args.log.now.first (c.args.after + 1) = omega (arith, c.max-first.ensures, c.first.ensures.first) in
    record { room = idents_room c.args.log.now c.first.ensures.log c.args.after c.max-first.result first c.loop-eid.eid c.loop-eid.later.items (omega (arith, c.loop-eid-test.true, c.last.ensures.last)) c.loop-eid.invariant }

pub loop-eid-preserved : goal.loop-eid-preserved
loop-eid-preserved c =
    let first : c.max-first.result ≡ max c.args.log.now.first (c.args.after + 1) = omega (arith, c.max-first.ensures, c.first.ensures.first) in
    c.push_ident.ensures.appended ∙ idents_more c.args.log.now c.first.ensures.log c.args.after c.max-first.result first c.loop-eid.eid _ _ c.loop-eid.auto.eid c.loop-eid.invariant refl

pub returns : goal.returns
returns c =
    let first : c.max-first.result ≡ max c.args.log.now.first (c.args.after + 1) = omega (arith, c.max-first.ensures, c.first.ensures.first) in
    record { idents = idents_all c.args.log.now c.first.ensures.log c.args.after c.max-first.result first c.loop-eid.eid _ (omega (arith, c.loop-eid-test.false, c.last.ensures.last)) c.loop-eid.invariant }
