use Rattle.std.proofs.Common.{◌-◌}
use Rattle.session_world.specs.Lines.{collector_rests, validator_rests}
use Rattle.session_world.proofs.Joining.{on_ok}
use Rattle.session_world.proofs.Rounds.{does_then}
use Rattle.session_world.proofs.world.World.idle.Goals as goal

pub returns : goal.returns
returns c = record {
  does = on_ok c.rest_validator.result
      (λ does.
      does_then collector_rests validator_rests c.args.self.now c.rest_collector.new.self c.rest_validator.new.self c.args.told.now c.rest_collector.new.told c.rest_validator.new.told
      c.in_ok-rest_collector.ensures.does does)
      c.rest_validator.ensures.does;
}
