use Rattle.std.proofs.Common.{[], refl}
use Rattle.session_world.specs.Standing.{WorldView, view_up}
use Rattle.session_world.specs.World.{waits_up}
use Rattle.session_world.proofs.Rounds.{up_waits_are, waiting}
use Rattle.session_world.proofs.world.World.waiting_up.Goals as goal

pub returns-in-None : goal.returns-in-None
returns-in-None c =
    let inside : WorldView = record { terms = c.self.inside.terms; book = c.self.inside.book; mirror = c.self.inside.mirror; joined = c.self.inside.joined } in
    let there = waiting view_up waits_up up_waits_are inside c.args.self.now [] refl c.in-None.is c.self.view_is in
    record { waiting = there.0; waits = there.1 }

pub returns-in-Some : goal.returns-in-Some
returns-in-Some c =
    let inside : WorldView = record { terms = c.self.inside.terms; book = c.self.inside.book; mirror = c.self.inside.mirror; joined = c.self.inside.joined } in
    let there = waiting view_up waits_up up_waits_are inside c.args.self.now c.waiting_up.result.now c.waiting_up.ensures.waiting c.in-Some.is c.self.view_is in
    record { waiting = there.0; waits = there.1 }
