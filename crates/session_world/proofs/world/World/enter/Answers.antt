use Rattle.std.proofs.Common.{◌-◌, subst}
use Rattle.session_world.specs.Lines.{enters}
use Rattle.session_world.specs.Standing.{Does, WorldView}
use Rattle.session_world.proofs.Entering.{enters_does}
use Rattle.session_world.proofs.Joining.{on_ok}
use Rattle.session_world.proofs.world.World.enter.Goals as goal

pub returns : goal.returns
returns c =
    let before : WorldView = record { terms = c.self.inside.terms; book = c.self.inside.book; mirror = c.self.inside.mirror; joined = c.self.inside.joined } in
    record {
      does = on_ok c.tell_refusal.result
          (λ told.
          subst (λ (v : WorldView). Does (enters c.args.edit) v c.args.told.now (record before { book = c.apply-done.new.self }) c.tell_refusal.new.told) c.self.view_is
          (enters_does _ c.args.edit before c.apply-done.new.self c.apply-done.result c.args.told.now c.tell_refusal.new.told
          c.apply-done.ensures.stands told))
          c.tell_refusal.ensures.told;
    }
