use Rattle.std.proofs.Common.{None, refl}
use Rattle.session_world.specs.declared.joined.Joined.{Joined as JoinedView}
use Rattle.session_world.proofs.Joining.{new_stands}
use Rattle.session_world.proofs.joined.Joined.new.Goals as goal

pub returns : goal.returns
returns c =
    let made : JoinedView = record { serve = c.in_ok-new.field-0; follow = c.new-2.result; collector = None; validator = None } in
    record { stands = new_stands c.args.terms made c.in_ok-new.ensures.stood c.in_ok-new.ensures.config c.in_ok-new.ensures.live refl c.new-2.ensures.stands c.new-2.ensures.config refl }
