use Rattle.std.proofs.Common.{◌∙◌}
use Rattle.std.proofs.lemmas.Result.{err_from_is_err_and}
use Rattle.swid_cli.proofs.Following.{goes_further, front_so_far, front_of_line, front_of_last, ran_stopped, ran_whole}
use Rattle.command_text.specs.declared.ending.Ending.TheVariants as ending
use Rattle.swid_cli.proofs.mirror.mirror.Goals as goal

pub loop-mirror-preserved : goal.loop-mirror-preserved
loop-mirror-preserved g c = record {
  follows = goes_further c.args.kind _ _ _ _ _ _ c.loop-mirror.at c.in-Goes.length _ _ _ c.loop-mirror.invariant.follows (rw c.in-Goes.is at c.in_ok-next.ensures.step) (rw (← c.as_slice.ensures.items) c.in_ok-write_all-in-Goes.ensures.whole);
  within = (rw c.in-Goes.is at c.in_ok-next.ensures.advances).1;
  input = c.in_ok-next.ensures.cause.cause ∙ c.loop-mirror.invariant.input;
  output = c.in_ok-write_all-in-Goes.ensures.cause.cause ∙ c.loop-mirror.invariant.output;
}

pub returns-in_err-next-clause-printed : goal.returns-in_err-next-clause-printed
returns-in_err-next-clause-printed g c =
    let p = err_from_is_err_and c.from_residual.result c.from_residual.ensures.1 in
    ran_stopped c.args.kind _ _ _ _ c.from_residual.result p.0 p.1
    (λ octets told. front_so_far c.args.kind octets _ _ _ c.loop-mirror.at c.loop-mirror.mirror (c.loop-mirror.invariant.follows octets told))

pub returns-in_err-write_all-in-Goes-clause-printed : goal.returns-in_err-write_all-in-Goes-clause-printed
returns-in_err-write_all-in-Goes-clause-printed g c =
    let p = err_from_is_err_and c.from_residual-in_err-write_all-in-Goes.result c.from_residual-in_err-write_all-in-Goes.ensures.1 in
    let wrote = rw c.as_slice.ensures.items at c.in_err-write_all-in-Goes.ensures.front in
    ran_stopped c.args.kind _ _ _ _ c.from_residual-in_err-write_all-in-Goes.result p.0 p.1
    (λ octets told. front_of_line c.args.kind octets _ _ _ _ _ c.loop-mirror.at c.in-Goes.length _ _ _ wrote.0 (c.loop-mirror.invariant.follows octets told) (rw c.in-Goes.is at c.in_ok-next.ensures.step) wrote.1)

pub returns-in_err-write_all-in-Refused-clause-printed : goal.returns-in_err-write_all-in-Refused-clause-printed
returns-in_err-write_all-in-Refused-clause-printed g c =
    let p = err_from_is_err_and c.from_residual-in_err-write_all-in-Refused.result c.from_residual-in_err-write_all-in-Refused.ensures.1 in
    let wrote = rw c.as_slice-in-Refused.ensures.items at c.in_err-write_all-in-Refused.ensures.front in
    ran_stopped c.args.kind _ _ _ _ c.from_residual-in_err-write_all-in-Refused.result p.0 p.1
    (λ octets told. front_of_last c.args.kind octets _ _ _ _ _ c.loop-mirror.at _ _ wrote.0 ending.Refused (c.loop-mirror.invariant.follows octets told) (rw c.in-Refused.is at c.in_ok-next.ensures.step) wrote.1)

pub returns-in-Refused-clause-printed : goal.returns-in-Refused-clause-printed
returns-in-Refused-clause-printed g c =
    ran_whole c.args.kind _ _ _ _ _ _ c.loop-mirror.at _ c.in-Refused.refusal ending.Refused c.loop-mirror.invariant.follows (rw c.in-Refused.is at c.in_ok-next.ensures.step)
    (rw c.as_slice-in-Refused.ensures.items at c.in_ok-write_all-in-Refused.ensures.whole)

pub returns-in_err-write_mirror-in-End-clause-printed : goal.returns-in_err-write_mirror-in-End-clause-printed
returns-in_err-write_mirror-in-End-clause-printed g c =
    let p = err_from_is_err_and c.from_residual-in_err-write_mirror-in-End.result c.from_residual-in_err-write_mirror-in-End.ensures.1 in
    let wrote = c.in_err-write_mirror-in-End.ensures.front in
    ran_stopped c.args.kind _ _ _ _ c.from_residual-in_err-write_mirror-in-End.result p.0 p.1
    (λ octets told. front_of_last c.args.kind octets _ _ _ _ _ c.loop-mirror.at _ _ wrote.0 ending.Whole (c.loop-mirror.invariant.follows octets told) (rw c.in-End.is at c.in_ok-next.ensures.step) wrote.1)

pub returns-in-End-clause-printed : goal.returns-in-End-clause-printed
returns-in-End-clause-printed g c =
    ran_whole c.args.kind _ _ _ _ _ _ c.loop-mirror.at _ _ ending.Whole c.loop-mirror.invariant.follows (rw c.in-End.is at c.in_ok-next.ensures.step) c.in_ok-write_mirror-in-End.ensures.whole
