use Rattle.std.proofs.Common.{ℕ, ◌-◌, List, length, ap, ◌∙◌}
use Rattle.std.specs.Prelude.{min}
use Rattle.session_world.specs.Lines.{downs}
use Rattle.session_world.proofs.Joining.{on_ok}
use Rattle.session_world.proofs.Rounds.{does_same, downs_within}
use Rattle.session_world.proofs.world.World.down.Goals as goal

pub returns : goal.returns
returns c =
    let count = c.min-count.ensures ∙ ap (λ (os : List ℕ). min (length os) c.args.most) c.waiting_down.ensures.waiting in
    record {
      does = on_ok c.carry_down.result
          (λ does.
          does_same (downs c.min-count.result) (downs c.args.most) c.args.self.now c.carry_down.new.self c.args.told.now c.carry_down.new.told
          (λ w stands. downs_within c.args.self.now c.args.most c.min-count.result w count stands) does)
          c.carry_down.ensures.does;
    }
