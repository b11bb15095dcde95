-- One line after another.
use Rattle.std.proofs.Common.{◌/◌, ℕ, List, length, ap, refl}
use Rattle.session_world.specs.Lines.{runs}
use Rattle.session_world.specs.Standing.{Does}
use Rattle.session_world.proofs.Joining.{on_ok}
use Rattle.session_day.proofs.Daily.{last_done}
use Rattle.session_day.proofs.day.Day.end.Goals as goal

pub returns : goal.returns
returns c = record {
  ends = on_ok {A = Does runs c.open-2.new.self c.up.new.told c.run.new.self c.run.new.told} c.run.result
      (λ does. (
        last_done c.args.self.now.world c.open.new.self c.round.new.self c.up.new.self c.cut.new.self c.open-2.new.self c.run.new.self c.args.self.now.told c.round.new.told c.up.new.told c.run.new.told
            (length c.waiting_up.result.now / 2) (λ w stands. ap (λ (up : List ℕ). length up / 2) (c.waiting_up.ensures.waits w stands)) c.in_ok-open.ensures.does c.in_ok-round.ensures.does c.in_ok-up.ensures.does
            c.cut.ensures.does c.in_ok-open-2.ensures.does does,
        refl,
      ))
      c.run.ensures.does;
}
