use Rattle.swid_run.proofs.Saying.{collect_lends, follow_lends, other_lends, other_plans}
use Rattle.swid_run.proofs.planning.plan.Goals as goal

pub returns-in-Ok-Collect-clause-lent : goal.returns-in-Ok-Collect-clause-lent
returns-in-Ok-Collect-clause-lent c =
    let so = rw c.in-Ok-Collect.field-0-is at c.in-Ok-Collect.ensures.order in
    collect_lends _ _ so.0

pub returns-in-Ok-Collect-clause-few : goal.returns-in-Ok-Collect-clause-few
returns-in-Ok-Collect-clause-few c = (rw c.in-Ok-Collect.field-0-is at c.in-Ok-Collect.ensures.order).1.names

pub returns-in-Ok-Follow-clause-lent : goal.returns-in-Ok-Follow-clause-lent
returns-in-Ok-Follow-clause-lent c = follow_lends _ _ (rw c.in-Ok-Follow.field-0-is at c.in-Ok-Follow.ensures.order).0

pub returns-in-Ok-Other-clause-plan : goal.returns-in-Ok-Other-clause-plan
returns-in-Ok-Other-clause-plan c = other_plans _ _ (rw c.in-Ok-Other.field-0-is at c.in-Ok-Other.ensures.order) c.other_plan.ensures.plan

pub returns-in-Ok-Other-clause-lent : goal.returns-in-Ok-Other-clause-lent
returns-in-Ok-Other-clause-lent c = other_lends _ _ (rw c.in-Ok-Other.field-0-is at c.in-Ok-Other.ensures.order) c.other_plan.ensures.plan
