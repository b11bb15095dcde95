-- One change after another.
use Rattle.std.proofs.Common.{◌≡◌, ◌-◌, ◌+◌, suc, arith}
use Rattle.session_day.proofs.Daily.{changed_all, changing_next}
use Rattle.session_day.proofs.day.Day.change_all.Goals as goal

pub loop-number-preserved : goal.loop-number-preserved
loop-number-preserved c = λ w stands.
    let number = c.loop-number.number in
    let one : 41 - number ≡ suc (41 - (number + 1)) = omega (arith, c.loop-number-test.true) in
    changing_next c.args.count w c.args.self.now c.loop-number.self c.change.new.self (41 - number) (41 - (number + 1)) number one (c.loop-number.invariant w stands) c.in_ok-change.ensures.changes

pub returns : goal.returns
returns c =
    let none : 41 - c.loop-number.number ≡ 0 = omega (arith, c.loop-number-test.false) in
    record { changes = changed_all c.args.count c.loop-number.number (41 - c.loop-number.number) c.args.self.now c.loop-number.self none c.loop-number.invariant }
