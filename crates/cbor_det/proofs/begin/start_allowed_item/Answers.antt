-- A construct opens.
use Rattle.std.proofs.Common.{subst, sym}
use Rattle.cbor_det.specs.declared.frame.PartialHead.{PartialHead}
use Rattle.cbor_det.specs.Frames.{ArgumentFits}
use Rattle.cbor_det.proofs.Begins.{head_fits}
use Rattle.cbor_det.proofs.begin.start_allowed_item.Goals as goal

pub returns-in-Argument-clause-fits : goal.returns-in-Argument-clause-fits
returns-in-Argument-clause-fits c =
    let P : PartialHead → Type 0 = λ head. ArgumentFits head.left head.number in
    subst P (sym c.new.ensures.made) (head_fits c.args.beginning c.in-Argument.major c.in-Argument.left c.in-Argument.is c.requires.head)
