use Rattle.std.proofs.Common.{◌-◌, [], Some, subst}
use Rattle.session_world.specs.Lines.{opens}
use Rattle.session_world.specs.Standing.{Does, WorldView}
use Rattle.session_world.proofs.Entering.{opened_does}
use Rattle.session_world.proofs.world.World.open.Goals as goal

pub returns : goal.returns
returns c =
    let before : WorldView = record { terms = c.self.inside.terms; book = c.self.inside.book; mirror = c.self.inside.mirror; joined = c.self.inside.joined } in
    record {
      does = subst (λ (v : WorldView). Does opens v [] (record before { joined = Some c.in_ok-new.field-0 }) []) c.self.view_is (opened_does before c.in_ok-new.field-0 c.in_ok-new.ensures.stands);
    }
