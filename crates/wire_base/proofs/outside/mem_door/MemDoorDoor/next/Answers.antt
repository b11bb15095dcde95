use Rattle.std.proofs.Common.{◌≡◌, arith, subst, sym}
use Rattle.std.proofs.lemmas.List.Elements.{All-drop}
use Rattle.std.specs.List.{All}
use Rattle.wire_base.specs.InMemory.{LinkInMemory}
use Rattle.wire_base.proofs.outside.mem_door.MemDoorDoor.next.Goals as goal

-- The links that are left are some of those that were left before, and each of them has its room.
pub invariant_of-self-in-Some : goal.invariant_of-self-in-Some
invariant_of-self-in-Some c = (
  subst (All (λ (link : LinkInMemory). link.faults ≡ 0)) (sym c.in-Some.ensures.rest) (All-drop (λ (link : LinkInMemory). link.faults ≡ 0) 1 c.self.inside.left.items c.self.invariant.0),
  omega (arith, c.in-Some.ensures.len, c.self.invariant.1),
  λ out. omega (arith, c.in-Some.ensures.len, c.self.invariant.1),
)
