-- What was given so far is that many octets of the text.
use Rattle.std.proofs.Common.{◌≡◌, ◌-◌, ◌≤◌, length, take}
use Rattle.wire_base.specs.Outside.{Adds}
use Rattle.session_core.proofs.drive.give_all.Given as goal

abbrev pub invariant-loop-count : goal.invariant-loop-count
invariant-loop-count g l = record {
  within : l.count ≤ length l.text;
  gave : Adds (g.L.Link.given l.fn.link) (g.L.Link.given l.link) (take l.count l.text);
  taken : g.L.Link.taken l.link ≡ g.L.Link.taken l.fn.link;
  calm : g.L.Link.faults l.link ≡ g.L.Link.faults l.fn.link;
}

abbrev pub decreases-loop-count : goal.decreases-loop-count
decreases-loop-count g l = length l.text - l.count
