use Rattle.std.proofs.Common.{ℕ, ◌-◌, List, length, ap}
use Rattle.session_world.specs.Lines.{all_down, all_up, downs, ups}
use Rattle.session_world.proofs.Joining.{on_ok}
use Rattle.session_world.proofs.Rounds.{does_same, does_then, downs_all, ups_all}
use Rattle.session_world.proofs.world.World.round.Goals as goal

pub returns : goal.returns
returns c =
    let up : ℕ = length c.waiting_up.result.now in
    let down : ℕ = length c.waiting_down.result.now in
    record {
      does = on_ok c.carry_down.result
          (λ does.
          does_then all_up all_down c.args.self.now c.carry_up.new.self c.carry_down.new.self c.args.told.now c.carry_up.new.told c.carry_down.new.told
          (does_same (ups up) all_up c.args.self.now c.carry_up.new.self c.args.told.now c.carry_up.new.told
          (λ w stands. ups_all c.args.self.now up w (ap (λ (os : List ℕ). length os) c.waiting_up.ensures.waiting) stands) c.in_ok-carry_up.ensures.does)
          (does_same (downs down) all_down c.carry_up.new.self c.carry_down.new.self c.carry_up.new.told c.carry_down.new.told
          (λ w stands. downs_all c.carry_up.new.self down w (ap (λ (os : List ℕ). length os) c.waiting_down.ensures.waiting) stands) does))
          c.carry_down.ensures.does;
    }
