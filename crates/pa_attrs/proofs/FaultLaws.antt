-- The first row that shows has the lowest place.
use Rattle.std.proofs.Common.{arith}
use Rattle.wire_base.proofs.FaultTables.{first_is_lowest}
use Rattle.pa_attrs.specs.declared.fault.AttrFault.{AttrFault}
use Rattle.pa_attrs.specs.Faults.{header_rows, message_rows}
use Rattle.pa_attrs.specs.Laws.{FaultIsLowest}

pub fault_is_lowest : FaultIsLowest
fault_is_lowest supported octets room most h fault = (
  first_is_lowest (λ (f : AttrFault). f.at) 0 (message_rows supported room octets h) fault (omega arith, (omega arith, (omega arith, (omega arith, (omega arith, (omega arith, tt)))))),
  first_is_lowest (λ (f : AttrFault). f.at) 0 (header_rows most h) fault (omega arith, (omega arith, (omega arith, tt))),
)
