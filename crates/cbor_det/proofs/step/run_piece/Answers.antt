-- An item or a fault ends the run, and else it goes on.
use Rattle.std.proofs.Common.{◌∙◌, refl, arith}
use Rattle.cbor_det.proofs.Runs.{run_goes, run_over, front_is, front_len}
use Rattle.cbor_det.proofs.step.run_piece.Goals as goal

pub returns-in-Whole-clause-ran : goal.returns-in-Whole-clause-ran
returns-in-Whole-clause-ran c =
    run_goes c.args.limits c.args.taken c.loop-used.used c.taken_at_once-count.result _ _ _ c.args.piece.now _
    (front_is c.args.piece.now c.loop-used.used c.taken_at_once-count.result) (front_len c.args.piece.now c.loop-used.used c.taken_at_once-count.result c.taken_at_once-count.ensures.within)
    c.loop-used.invariant.ran (rw c.in-Whole.is at c.in_ok-stepped.ensures.ran)
    ∙ run_over c.args.limits _ _ _ refl

pub returns-in-Fault-clause-ran : goal.returns-in-Fault-clause-ran
returns-in-Fault-clause-ran c =
    run_goes c.args.limits c.args.taken c.loop-used.used c.taken_at_once-count.result _ _ _ c.args.piece.now _
    (front_is c.args.piece.now c.loop-used.used c.taken_at_once-count.result) (front_len c.args.piece.now c.loop-used.used c.taken_at_once-count.result c.taken_at_once-count.ensures.within)
    c.loop-used.invariant.ran (rw c.in-Fault.is at c.in_ok-stepped.ensures.ran)
    ∙ run_over c.args.limits _ _ _ refl

pub loop-used-preserved : goal.loop-used-preserved
loop-used-preserved c = record {
  ran = run_goes c.args.limits c.args.taken c.loop-used.used c.taken_at_once-count.result _ _ _ c.args.piece.now _
      (front_is c.args.piece.now c.loop-used.used c.taken_at_once-count.result) (front_len c.args.piece.now c.loop-used.used c.taken_at_once-count.result c.taken_at_once-count.ensures.within)
      c.loop-used.invariant.ran (rw c.in-Goes.is at c.in_ok-stepped.ensures.ran);
  within = omega (arith, c.taken_at_once-count.ensures.within, c.loop-used.invariant.within);
  fits = rw c.in-Goes.is at c.in_ok-stepped.ensures.fits;
}
