use Rattle.std.proofs.Common.{◌∙◌, arith}
use Rattle.pb_batch.proofs.FieldsRead.{head_none, head_checked, head_is_said}
use Rattle.pb_batch.proofs.message_head.read_head.Goals as goal

pub returns-in_default-clause-head : goal.returns-in_default-clause-head
returns-in_default-clause-head c =
    rw c.new-in_default.ensures.fault (head_none c.args.left c.args.at c.args.rest.now c.in_default.field-0 (rw c.new-2.ensures.rest at c.in_default.ensures.fields) (omega (arith, c.if-left-eq0.false)))

pub returns-clause-head : goal.returns-clause-head
returns-clause-head c = c.check_fields.ensures.head ∙ head_checked c.args.left c.args.at c.args.rest.now c.in-Ok.fields (rw c.new-2.ensures.rest at c.in-Ok.ensures.fields) (omega (arith, c.if-left-eq0.false))

pub returns-clause-fields : goal.returns-clause-fields
returns-clause-fields c = rw (head_is_said c.args.at c.args.rest.now c.in-Ok.fields (rw c.new-2.ensures.rest at c.in-Ok.ensures.fields)) at c.check_fields.ensures.fields
