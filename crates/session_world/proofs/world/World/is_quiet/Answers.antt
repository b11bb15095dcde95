use Rattle.std.proofs.Common.{ℕ, ◌-◌, List, sym, ap, ap₂, ◌∙◌}
use Rattle.std.specs.Prelude.{◌&&◌}
use Rattle.session_world.specs.Lines.{is_none}
use Rattle.session_world.specs.World.{waits_down}
use Rattle.session_world.proofs.Rounds.{quiet_else, quiet_then}
use Rattle.session_world.proofs.world.World.is_quiet.Goals as goal

pub returns-then-is_empty : goal.returns-then-is_empty
returns-then-is_empty c = record {
  quiet = λ w stands.
      c.is_empty-then-is_empty.ensures ∙ quiet_then c.waiting_up.result.now c.waiting_down.result.now (sym c.is_empty.ensures ∙ c.if-is_empty.true)
      ∙ ap₂ (λ (up down : List ℕ). is_none up && is_none down) (c.waiting_up.ensures.waits w stands) (c.waiting_down.ensures.waits w stands);
}

pub returns-else-is_empty : goal.returns-else-is_empty
returns-else-is_empty c = record {
  quiet = λ w stands.
      c.is_empty.ensures ∙ quiet_else c.waiting_up.result.now (waits_down w) (sym c.is_empty.ensures ∙ c.if-is_empty.false)
      ∙ ap (λ (up : List ℕ). is_none up && is_none (waits_down w)) (c.waiting_up.ensures.waits w stands);
}
