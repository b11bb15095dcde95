-- What an open construct makes of an item, as a state of the machine.
use Rattle.cbor_det.specs.declared.frame.Frame.{Frame}
use Rattle.cbor_det.specs.declared.nesting.Absorbed.{Absorbed}
use Rattle.cbor_det.specs.declared.nesting.Absorbed.TheVariants as absorbed
use Rattle.cbor_det.specs.View.{view}
use Rattle.cbor_det.specs.Faults.{Place}
use Rattle.cbor_det.specs.Standing.{inside}
use Rattle.cbor_det.specs.Machine.{State, due, faulty, item_ended}

abbrev pub absorbed_state : Place → Frame → Absorbed → State
absorbed_state p frame absorbed.Open = due (inside p frame)
absorbed_state p frame (absorbed.Ended at item) = item_ended p at (view item)
absorbed_state p frame (absorbed.Fault fault) = faulty fault.kind fault.at
