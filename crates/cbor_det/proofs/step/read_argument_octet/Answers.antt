-- An octet of an argument.
use Rattle.std.proofs.Common.{◌<◌, ◌-◌, arith, ap, ◌∙◌, ℕ, ◌+◌, ◌*◌, subst, sym}
use Rattle.std.proofs.lemmas.Result.{IfOk-weaker}
use Rattle.cbor_det.specs.Standing.{place}
use Rattle.cbor_det.specs.Frames.{ArgumentFits}
use Rattle.cbor_det.specs.Machine.{argued, argument}
use Rattle.cbor_det.proofs.Runs.{argument_fits, argument_next, argument_ends, argument_goes}
use Rattle.cbor_det.proofs.step.read_argument_octet.Goals as goal

pub overflow_mul-number : goal.overflow_mul-number
overflow_mul-number c = let small : c.args.octet < 256 = omega arith in let f = (argument_fits c.args.head.left c.args.head.number c.args.octet c.requires.fits small).0 in omega (arith, f)

pub overflow_add-number : goal.overflow_add-number
overflow_add-number c =
    let small : c.args.octet < 256 = omega arith in
    let f = (argument_fits c.args.head.left c.args.head.number c.args.octet c.requires.fits small).0 in
    let same = c.from.ensures in omega (arith, f, same)

pub returns-then-left-eq1-clause-stepped : goal.returns-then-left-eq1-clause-stepped
returns-then-left-eq1-clause-stepped c =
    IfOk-weaker c.item_from_head.result _ _ (λ came begins. argument_ends c.args.limits c.args.taken (place c.args.stack.now.items) c.args.head.at c.args.head.major c.args.head.left c.args.head.number c.args.octet _ c.if-left-eq1.true
    (begins
    ∙ ap (λ (k : ℕ). argued c.args.limits (c.args.taken + 1) (place c.args.stack.now.items) c.args.head.at c.args.head.major (256 * c.args.head.number + k)) c.from.ensures)) c.item_from_head.ensures.argued

pub returns-clause-stepped : goal.returns-clause-stepped
returns-clause-stepped c =
    let some = c.requires.fits.some in
    ap (λ (k : ℕ). argument (place c.args.stack.now.items) c.args.head.at c.args.head.major (c.args.head.left - 1) (256 * c.args.head.number + k)) c.from.ensures
    ∙ argument_goes c.args.limits c.args.taken (place c.args.stack.now.items) c.args.head.at c.args.head.major c.args.head.left c.args.head.number c.args.octet some c.if-left-eq1.false

pub returns-clause-fits : goal.returns-clause-fits
returns-clause-fits c =
    let small : c.args.octet < 256 = omega arith in
    let P : ℕ → Type 0 = λ k. ArgumentFits (c.args.head.left - 1) (256 * c.args.head.number + k) in
    subst P (sym c.from.ensures) (argument_next c.args.head.left c.args.head.number c.args.octet c.requires.fits small c.if-left-eq1.false)
