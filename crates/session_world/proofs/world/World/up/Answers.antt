use Rattle.std.proofs.Common.{ℕ, ◌-◌, List, length, ap, ◌∙◌}
use Rattle.std.specs.Prelude.{min}
use Rattle.session_world.specs.Lines.{ups}
use Rattle.session_world.proofs.Joining.{on_ok}
use Rattle.session_world.proofs.Rounds.{does_same, ups_within}
use Rattle.session_world.proofs.world.World.up.Goals as goal

pub returns : goal.returns
returns c =
    let count = c.min-count.ensures ∙ ap (λ (os : List ℕ). min (length os) c.args.most) c.waiting_up.ensures.waiting in
    record {
      does = on_ok c.carry_up.result
          (λ does.
          does_same (ups c.min-count.result) (ups c.args.most) c.args.self.now c.carry_up.new.self c.args.told.now c.carry_up.new.told
          (λ w stands. ups_within c.args.self.now c.args.most c.min-count.result w count stands) does)
          c.carry_up.ensures.does;
    }
