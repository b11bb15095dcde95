use Rattle.std.proofs.Common.{ℕ, ap, nat_lt, subst}
use Rattle.wire_base.proofs.Added.{takes_in}
use Rattle.wire_base.specs.InMemory.{DoorInMemory}
use Rattle.wire_base.specs.Outside.{HasCause}
use Rattle.wire_base.proofs.outside.mem_door.MemDoorDoor.back.Goals as goal

-- The count takes in the faults of the link.
pub returns-clause-cause : goal.returns-clause-cause
returns-clause-cause c =
    subst (λ (door : DoorInMemory). HasCause door.faults c.add_faults.new.self.faults (nat_lt 0 c.args.link.faults)) c.self.view_is
    (takes_in _ _ _ _ (ap (λ (count : ℕ). nat_lt 0 count) c.faults.ensures.faults) c.add_faults.ensures.later c.add_faults.ensures.faults)
