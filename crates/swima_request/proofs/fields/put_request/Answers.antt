use Rattle.std.proofs.Common.{rules}
use Rattle.std.proofs.lemmas.Result.{on_ok_weaker}
use Rattle.swima_request.proofs.Writing.{fields_fit}
use Rattle.swima_request.proofs.fields.put_request.Goals as goal

pub returns-clause-fits : goal.returns-clause-fits
returns-clause-fits c =
    on_ok_weaker c.put_targets.result (fields_fit c.args.request.now c.requires.count (search rules) (search rules)) c.put_targets.ensures.fits
