-- A key that may come is above all, and the value that is due goes to the end.
use Rattle.std.proofs.Common.{sym}
use Rattle.cbor_det.proofs.Rising.{took_key, took_value, rises_after}
use Rattle.cbor_det.specs.View.{view, listed}
use Rattle.cbor_det.proofs.members.Rising.take.Goals as goal

pub invariant_of-self-in-Some : goal.invariant_of-self-in-Some
invariant_of-self-in-Some c = record {
  rises = rises_after _ _ c.args.self.now.key c.in-Some.key c.args.item (sym c.in-Some.ensures.value) c.args.self.now.rises c.push.result _ c.in-Some.ensures.after c.push.ensures.appended c.push.ensures.unchanged;
}

pub returns-in-None : goal.returns-in-None
returns-in-None c = record { taken = took_key (listed c.args.self.now.pairs) c.args.self.now.key (view c.args.item) (sym c.in-None.ensures.value) c.requires.may_come }

pub returns-in-Some : goal.returns-in-Some
returns-in-Some c = record {
  taken = took_value _ _ c.args.self.now.key c.in-Some.key c.args.item (sym c.in-Some.ensures.value) c.args.self.now.rises c.push.result _ c.in-Some.ensures.after c.push.ensures.appended;
}
