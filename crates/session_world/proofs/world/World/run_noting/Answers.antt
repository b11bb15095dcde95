use Rattle.std.proofs.Common.{◌≡◌, ℕ, ◌-◌, ◌+◌, ◌++◌, List, sym, ap₂, ◌∙◌, arith}
use Rattle.std.specs.Prelude.{suc}
use Rattle.session_world.specs.Lines.{MOST_ROUNDS}
use Rattle.session_world.specs.World.{carried_up}
use Rattle.session_world.proofs.Rounds.{ends_does, most_rounds, round_carried, run_ends, run_is_over, runs_none, runs_on}
use Rattle.session_world.proofs.world.World.run_noting.Goals as goal

pub loop-init : goal.loop-init
loop-init c = runs_none (λ w v. c.args.carried.now ≡ carried_up w → c.args.carried.now ≡ carried_up v) c.args.self.now c.args.told.now (MOST_ROUNDS - 0) (omega arith) (λ w same. same)

pub returns-then-is_quiet-clause-does : goal.returns-then-is_quiet-clause-does
returns-then-is_quiet-clause-does c =
    let one : MOST_ROUNDS - c.loop.counter ≡ suc (MOST_ROUNDS - (c.loop.counter + 1)) = omega (arith, most_rounds, c.loop-test.true) in
    ends_does (λ w v. c.args.carried.now ≡ carried_up w → c.loop.carried ≡ carried_up v) c.args.self.now c.loop.self c.args.told.now c.loop.told
    (run_ends (λ w v. c.args.carried.now ≡ carried_up w → c.loop.carried ≡ carried_up v) c.args.self.now c.loop.self c.args.told.now c.loop.told (MOST_ROUNDS - c.loop.counter) (MOST_ROUNDS - (c.loop.counter + 1)) c.is_quiet.result one c.loop.invariant c.is_quiet.ensures.quiet c.if-is_quiet.true)

pub returns-then-is_quiet-clause-noted : goal.returns-then-is_quiet-clause-noted
returns-then-is_quiet-clause-noted c =
    let one : MOST_ROUNDS - c.loop.counter ≡ suc (MOST_ROUNDS - (c.loop.counter + 1)) = omega (arith, most_rounds, c.loop-test.true) in
    λ w stands same.
    (run_ends (λ w v. c.args.carried.now ≡ carried_up w → c.loop.carried ≡ carried_up v) c.args.self.now c.loop.self c.args.told.now c.loop.told (MOST_ROUNDS - c.loop.counter) (MOST_ROUNDS - (c.loop.counter + 1)) c.is_quiet.result one c.loop.invariant c.is_quiet.ensures.quiet c.if-is_quiet.true w stands).1 same

pub loop-preserved : goal.loop-preserved
loop-preserved c =
    let one : MOST_ROUNDS - c.loop.counter ≡ suc (MOST_ROUNDS - (c.loop.counter + 1)) = omega (arith, most_rounds, c.loop-test.true) in
    runs_on (λ w v. c.args.carried.now ≡ carried_up w → c.loop.carried ≡ carried_up v) (λ w v. c.args.carried.now ≡ carried_up w → c.extend.new.self ≡ carried_up v) c.args.self.now c.loop.self c.round.new.self c.args.told.now c.loop.told c.round.new.told (MOST_ROUNDS - c.loop.counter) (MOST_ROUNDS - (c.loop.counter + 1)) c.is_quiet.result one c.loop.invariant c.is_quiet.ensures.quiet
    c.if-is_quiet.false c.in_ok-round.ensures.does
    (λ w v stands kept same. c.in_ok-extend.ensures.appended ∙ ap₂ (λ (one two : List ℕ). one ++ two) (kept same) (c.waiting_up.ensures.waits v stands) ∙ sym (round_carried v))

pub returns-clause-does : goal.returns-clause-does
returns-clause-does c =
    let none : MOST_ROUNDS - c.loop.counter ≡ 0 = omega (arith, most_rounds, c.loop-test.false) in
    ends_does (λ w v. c.args.carried.now ≡ carried_up w → c.loop.carried ≡ carried_up v) c.args.self.now c.loop.self c.args.told.now c.loop.told (run_is_over (λ w v. c.args.carried.now ≡ carried_up w → c.loop.carried ≡ carried_up v) c.args.self.now c.loop.self c.args.told.now c.loop.told (MOST_ROUNDS - c.loop.counter) none c.loop.invariant)

pub returns-clause-noted : goal.returns-clause-noted
returns-clause-noted c =
    let none : MOST_ROUNDS - c.loop.counter ≡ 0 = omega (arith, most_rounds, c.loop-test.false) in
    λ w stands same. (run_is_over (λ w v. c.args.carried.now ≡ carried_up w → c.loop.carried ≡ carried_up v) c.args.self.now c.loop.self c.args.told.now c.loop.told (MOST_ROUNDS - c.loop.counter) none c.loop.invariant w stands).1 same
