use Rattle.std.proofs.Common.{[], ◌+◌}
use Rattle.std.specs.Prelude.{codes}
use Rattle.swid_cli.specs.Stream.{INPUT_OCTETS}
use Rattle.command_text.specs.Text.{fault_line, refusal}
use Rattle.swid_cli.specs.declared.mirror.first_attribute.Front.TheVariants as front
use Rattle.swid_cli.specs.declared.mirror.step.Step.TheVariants as step
use Rattle.swid_cli.proofs.Stepping.{first_step, ended, was_refused}
use Rattle.swid_cli.proofs.mirror.step.next_step.Goals as goal

pub returns-in-End-clause-step : goal.returns-in-End-clause-step
returns-in-End-clause-step g c = λ octets told.
    first_step c.args.at c.args.mirror.now octets front.End step.End c.args.mirror.now _ (rw c.in-End.is at (c.in_ok-first.ensures.front octets told)) (ended c.args.at c.args.mirror.now octets)

pub returns-in_ok-refuse-in-Torn-clause-step : goal.returns-in_ok-refuse-in-Torn-clause-step
returns-in_ok-refuse-in-Torn-clause-step g c = λ octets told.
    first_step _ _ octets _ _ _ _ (rw c.in-Torn.is at (c.in_ok-first.ensures.front octets told)) (was_refused (refusal (codes "torn") c.in-Torn.have) [] _ c.args.mirror.now c.in_ok-refuse-in-Torn.ensures.refused)

pub returns-in_ok-refuse-in-Limit-clause-step : goal.returns-in_ok-refuse-in-Limit-clause-step
returns-in_ok-refuse-in-Limit-clause-step g c = λ octets told.
    first_step _ _ octets _ _ _ _ (rw c.in-Limit.is at (c.in_ok-first.ensures.front octets told)) (was_refused (refusal (codes "limit") INPUT_OCTETS) [] _ c.args.mirror.now c.in_ok-refuse-in-Limit.ensures.refused)

pub returns-in_ok-fault_at-in-Faulty-clause-step : goal.returns-in_ok-fault_at-in-Faulty-clause-step
returns-in_ok-fault_at-in-Faulty-clause-step g c = λ octets told.
    first_step _ _ octets _ _ _ _ (rw c.in-Faulty.is at (c.in_ok-first.ensures.front octets told))
    (was_refused (fault_line c.in-Faulty.fault.code (c.args.at + c.in-Faulty.fault.at)) [] _ c.args.mirror.now c.in_ok-fault_at-in-Faulty.ensures.refused)

pub returns-in_ok-take_attribute-in-Whole-clause-step : goal.returns-in_ok-take_attribute-in-Whole-clause-step
returns-in_ok-take_attribute-in-Whole-clause-step g c = λ octets told.
    first_step _ _ octets _ _ _ _ (rw c.in-Whole.is at (c.in_ok-first.ensures.front octets told)) (c.in_ok-take_attribute-in-Whole.ensures.step octets)
