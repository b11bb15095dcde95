use Rattle.std.proofs.lemmas.Result.{err_from_is_err_and}
use Rattle.source_lines.specs.LineFaults.{BodyFault, DigitsFault}
use Rattle.source_lines.specs.LineItems.{AreDescribed, IsBody}
use Rattle.source_lines.proofs.Refusals.{no_body, refuses}
use Rattle.source_lines.proofs.line_item.described.Goals as goal

pub returns-in_err-body : goal.returns-in_err-body
returns-in_err-body c =
    let key = c.args.key.now in
    let ident = c.args.ident.now in
    let locator = c.args.locator.now in
    let digits = c.args.digits.now in
    let p = err_from_is_err_and c.from_residual-in_err-body.result c.from_residual-in_err-body.ensures.1 in
    rw (p.1, p.2) (record {
      xml = refuses (IsBody digits) (DigitsFault digits) (AreDescribed key ident locator digits) (BodyFault key ident locator digits) c.in_err-body.field-0.0
          (no_body key ident locator digits (c.in-Some.key, c.in-Some.ensures.number) (c.in_ok-ident.ident, c.in_ok-ident.ensures.text) (c.in_ok-locator.locator, c.in_ok-locator.ensures.text))
          c.in_err-body.ensures.body;
    })
