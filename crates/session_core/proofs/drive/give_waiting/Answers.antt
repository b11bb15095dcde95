-- What was given are the first of the octets that waited.
use Rattle.std.proofs.Common.{◌≤◌, List, ℕ, length, take, subst}
use Rattle.wire_base.specs.Outside.{Adds}
use Rattle.session_core.proofs.Driving.{all_given, drives_given}
use Rattle.session_core.proofs.drive.give_waiting.Goals as goal

pub carried-requires : goal.carried-requires
carried-requires g c = record { within = subst (λ (text : List ℕ). c.give_all-result.new.count ≤ length text) c.waiting.ensures.waiting c.give_all-result.ensures.within }

pub returns-clause-drives : goal.returns-clause-drives
returns-clause-drives g c beside =
    drives_given g.C.SessionCore.ran c.args.core.now c.carried.new.self beside _ _ _ _ (take c.give_all-result.new.count (g.C.SessionCore.waits c.args.core.now)) c.give_all-result.ensures.taken
    (subst (λ (text : List ℕ). Adds (g.L.Link.given c.args.link.now) (g.L.Link.given c.give_all-result.new.link) (take c.give_all-result.new.count text)) c.waiting.ensures.waiting c.give_all-result.ensures.gave)
    (c.carried.ensures.ran beside)

pub returns-clause-given : goal.returns-clause-given
returns-clause-given g c =
    all_given c.give_all-result.result c.waiting.result.now (g.C.SessionCore.waits c.args.core.now) (g.C.SessionCore.waits c.carried.new.self) c.give_all-result.new.count c.waiting.ensures.waiting c.give_all-result.ensures.whole c.carried.ensures.rest
