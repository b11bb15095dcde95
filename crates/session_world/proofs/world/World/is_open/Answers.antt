use Rattle.std.proofs.Common.{Option, Some, None, sym, ap, ◌∙◌}
use Rattle.std.specs.Prelude.{is_some}
use Rattle.session_world.specs.declared.joined.Joined.{Joined as JoinedView}
use Rattle.session_world.specs.Standing.{WorldView}
use Rattle.session_world.proofs.Rounds.{open_is}
use Rattle.session_world.proofs.world.World.is_open.Goals as goal

pub returns-in-None : goal.returns-in-None
returns-in-None c = record {
  session = λ w stands. ap (λ (j : Option JoinedView). is_some j) (sym c.in-None.is) ∙ ap (λ (v : WorldView). is_some v.joined) c.self.view_is ∙ open_is c.args.self.now w stands;
}

pub returns-in-Some : goal.returns-in-Some
returns-in-Some c = record {
  session = λ w stands. ap (λ (j : Option JoinedView). is_some j) (sym c.in-Some.is) ∙ ap (λ (v : WorldView). is_some v.joined) c.self.view_is ∙ open_is c.args.self.now w stands;
}
