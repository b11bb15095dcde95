use Rattle.std.proofs.Common.{◌≡◌, ◌-◌, ◌+◌, arith}
use Rattle.std.specs.Prelude.{suc}
use Rattle.session_world.specs.Lines.{MOST_ROUNDS}
use Rattle.session_world.proofs.Rounds.{Anything, ends_does, most_rounds, run_ends, run_is_over, runs_none, runs_on}
use Rattle.session_world.proofs.world.World.run.Goals as goal

pub loop-init : goal.loop-init
loop-init c = runs_none Anything c.args.self.now c.args.told.now (MOST_ROUNDS - 0) (omega arith) (λ w. tt)

pub returns-then-is_quiet : goal.returns-then-is_quiet
returns-then-is_quiet c =
    let one : MOST_ROUNDS - c.loop.counter ≡ suc (MOST_ROUNDS - (c.loop.counter + 1)) = omega (arith, most_rounds, c.loop-test.true) in
    record {
      does = ends_does Anything c.args.self.now c.loop.self c.args.told.now c.loop.told
          (run_ends Anything c.args.self.now c.loop.self c.args.told.now c.loop.told (MOST_ROUNDS - c.loop.counter) (MOST_ROUNDS - (c.loop.counter + 1)) c.is_quiet.result one c.loop.invariant c.is_quiet.ensures.quiet c.if-is_quiet.true);
    }

pub loop-preserved : goal.loop-preserved
loop-preserved c =
    let one : MOST_ROUNDS - c.loop.counter ≡ suc (MOST_ROUNDS - (c.loop.counter + 1)) = omega (arith, most_rounds, c.loop-test.true) in
    runs_on Anything Anything c.args.self.now c.loop.self c.round.new.self c.args.told.now c.loop.told c.round.new.told (MOST_ROUNDS - c.loop.counter) (MOST_ROUNDS - (c.loop.counter + 1)) c.is_quiet.result one c.loop.invariant c.is_quiet.ensures.quiet
    c.if-is_quiet.false c.in_ok-round.ensures.does (λ w v stands kept. tt)

pub returns : goal.returns
returns c =
    let none : MOST_ROUNDS - c.loop.counter ≡ 0 = omega (arith, most_rounds, c.loop-test.false) in
    record {
      does = ends_does Anything c.args.self.now c.loop.self c.args.told.now c.loop.told (run_is_over Anything c.args.self.now c.loop.self c.args.told.now c.loop.told (MOST_ROUNDS - c.loop.counter) none c.loop.invariant);
    }
