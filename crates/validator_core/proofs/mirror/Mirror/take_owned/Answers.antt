-- What is judged says where the mirror stands, and keeps it right.
use Rattle.std.proofs.Common.{rules}
use Rattle.validator_core.proofs.Judging.{answered_stands}
use Rattle.validator_core.proofs.Righting.{stays_right}
use Rattle.validator_core.proofs.mirror.Mirror.take_owned.Goals as goal

pub returns-in-Inventory-clause-right : goal.returns-in-Inventory-clause-right
returns-in-Inventory-clause-right c =
    stays_right c.args.self.now c.args.report c.take_inventory.result c.take_inventory.new.self (search rules)

pub returns-in-Inventory-clause-stands : goal.returns-in-Inventory-clause-stands
returns-in-Inventory-clause-stands c =
    answered_stands c.args.self.now c.args.report c.take_inventory.result c.take_inventory.new.self (search rules)

pub returns-in-Events-clause-right : goal.returns-in-Events-clause-right
returns-in-Events-clause-right c =
    stays_right c.args.self.now c.args.report c.take_events.result c.take_events.new.self (search rules)

pub returns-in-Events-clause-stands : goal.returns-in-Events-clause-stands
returns-in-Events-clause-stands c =
    answered_stands c.args.self.now c.args.report c.take_events.result c.take_events.new.self (search rules)
