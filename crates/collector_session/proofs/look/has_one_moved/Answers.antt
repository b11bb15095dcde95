use Rattle.std.proofs.Common.{rules, ◌<◌, ◌≤◌, Bool, List, false, get_or, length, subst, true}
use Rattle.swima_subs.specs.declared.waiting.Waiting.{Waiting}
use Rattle.session_rules.specs.ServeRules.{looks}
use Rattle.collector_session.proofs.Each.{Held}
use Rattle.collector_session.proofs.Looking.{looks_at, next_unmoved, none_moved, one_moved}
use Rattle.collector_session.proofs.look.has_one_moved.Goals as goal

pub loop-held-init : goal.loop-held-init
loop-held-init g c = λ last value found. found

pub loop-held-preserved : goal.loop-held-preserved
loop-held-preserved g c =
    let items = c.as_slice-held-items.result.now in
    let i = c.loop-held.held-index in
    let less : i < length items = search rules in
    next_unmoved g.D.Desk.stands g.D.Desk.went g.met.D.Desk.stays g.met.D.Desk.follows g.met.D.Desk.carries c.args.desk.now c.loop-held.desk c.has_moved.new.desk items i c.held-item.result less c.loop-held.invariant
    (subst (λ (b : Bool). Held g.D.Desk.stands g.D.Desk.went c.loop-held.desk c.has_moved.new.desk (looks_at (get_or items i c.held-item.result)) b) c.if-has_moved.false
    (subst (λ (w : Waiting). Held g.D.Desk.stands g.D.Desk.went c.loop-held.desk c.has_moved.new.desk (looks_at w) c.has_moved.result) c.held-item.is c.has_moved.ensures.looked))

pub returns-then-has_moved : goal.returns-then-has_moved
returns-then-has_moved g c =
    let items = c.as_slice-held-items.result.now in
    let i = c.loop-held.held-index in
    let less : i < length items = search rules in
    record {
      looked = subst (λ (subs : List Waiting). Held g.D.Desk.stands g.D.Desk.went c.args.desk.now c.has_moved.new.desk (looks subs) true) c.as_slice-held-items.ensures.items
          (one_moved g.D.Desk.stands g.D.Desk.went g.met.D.Desk.stays g.met.D.Desk.follows g.met.D.Desk.carries c.args.desk.now c.loop-held.desk c.has_moved.new.desk items i c.held-item.result less c.loop-held.invariant
          (subst (λ (b : Bool). Held g.D.Desk.stands g.D.Desk.went c.loop-held.desk c.has_moved.new.desk (looks_at (get_or items i c.held-item.result)) b) c.if-has_moved.true
          (subst (λ (w : Waiting). Held g.D.Desk.stands g.D.Desk.went c.loop-held.desk c.has_moved.new.desk (looks_at w) c.has_moved.result) c.held-item.is c.has_moved.ensures.looked)));
    }

pub returns : goal.returns
returns g c =
    let items = c.as_slice-held-items.result.now in
    let i = c.loop-held.held-index in
    let all : length items ≤ i = search rules in
    record {
      looked = subst (λ (subs : List Waiting). Held g.D.Desk.stands g.D.Desk.went c.args.desk.now c.loop-held.desk (looks subs) false) c.as_slice-held-items.ensures.items
          (none_moved g.D.Desk.stands g.D.Desk.went g.met.D.Desk.stays g.met.D.Desk.follows g.met.D.Desk.carries c.args.desk.now c.loop-held.desk items i all c.loop-held.invariant);
    }
