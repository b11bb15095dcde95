use Rattle.std.proofs.Common.{◌≡◌, ◌∙◌, Bool, false, subst, sym, true}
use Rattle.session_rules.specs.ServeRules.{looks}
use Rattle.collector_session.specs.Looking.{is_decided}
use Rattle.collector_session.specs.Standing.{notes_of, stand_of}
use Rattle.collector_session.proofs.Each.{Held}
use Rattle.collector_session.proofs.Looking.{may_retry, none_rests, one_rests, other_rests}
use Rattle.collector_session.proofs.look.look.Goals as goal

pub returns-then-not-is_decided-clause-talked : goal.returns-then-not-is_decided-clause-talked
returns-then-not-is_decided-clause-talked g c =
    let other : is_decided c.args.standing.now.machine.state ≡ false = rw c.state.ensures.state at (sym c.is_decided.ensures.decided ∙ c.if-not-is_decided.true) in
    other_rests g.D.Desk.stands g.D.Desk.went g.met.D.Desk.stays g.met.D.Desk.follows g.met.D.Desk.carries (stand_of c.args.standing.now) c.args.standing.now.machine.state c.args.desk.now c.args.out.now other

pub returns-then-not-has_one_moved-clause-talked : goal.returns-then-not-has_one_moved-clause-talked
returns-then-not-has_one_moved-clause-talked g c =
    let decided : is_decided c.args.standing.now.machine.state ≡ true = rw c.state.ensures.state at (sym c.is_decided.ensures.decided ∙ c.if-not-is_decided.false) in
    none_rests g.D.Desk.stands g.D.Desk.went g.met.D.Desk.stays g.met.D.Desk.follows g.met.D.Desk.carries (stand_of c.args.standing.now) c.args.standing.now.machine.state c.args.desk.now c.has_one_moved.new.desk c.args.out.now decided
    (subst (λ (b : Bool). Held g.D.Desk.stands g.D.Desk.went c.args.desk.now c.has_one_moved.new.desk (looks c.args.standing.now.subs) b) c.if-not-has_one_moved.true c.has_one_moved.ensures.looked)

pub retry-requires-clause-may : goal.retry-requires-clause-may
retry-requires-clause-may g c =
    let decided : is_decided c.args.standing.now.machine.state ≡ true = rw c.state.ensures.state at (sym c.is_decided.ensures.decided ∙ c.if-not-is_decided.false) in
    may_retry c.args.standing.now.machine c.requires.client decided

pub returns-clause-talked : goal.returns-clause-talked
returns-clause-talked g c =
    let decided : is_decided c.args.standing.now.machine.state ≡ true = rw c.state.ensures.state at (sym c.is_decided.ensures.decided ∙ c.if-not-is_decided.false) in
    one_rests g.D.Desk.stands g.D.Desk.went g.met.D.Desk.stays g.met.D.Desk.follows g.met.D.Desk.carries (stand_of c.args.standing.now) c.args.standing.now.machine.state c.args.desk.now c.has_one_moved.new.desk c.args.out.now c.retry.new.out
    (stand_of c.retry.new.standing) (notes_of c.retry.new.standing.record) c.retry.result decided
    (subst (λ (b : Bool). Held g.D.Desk.stands g.D.Desk.went c.args.desk.now c.has_one_moved.new.desk (looks c.args.standing.now.subs) b) c.if-not-has_one_moved.false c.has_one_moved.ensures.looked) c.retry.ensures.spoken
