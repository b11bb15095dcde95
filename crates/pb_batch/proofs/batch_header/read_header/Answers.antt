use Rattle.std.proofs.Common.{arith}
use Rattle.std.proofs.lemmas.Result.{err_from_is_err_and}
use Rattle.pb_batch.proofs.FieldsRead.{header_none, header_some, header_err}
use Rattle.pb_batch.proofs.batch_header.read_header.Goals as goal

pub new-requires : goal.new-requires
new-requires c = omega (arith, c.requires.places)

pub returns-in_default : goal.returns-in_default
returns-in_default c = record { header = header_none c.args.from_server c.args.octets.now c.in_default.field-0 (rw c.new.ensures.rest at c.in_default.ensures.fields) }

pub returns-in_err-header : goal.returns-in_err-header
returns-in_err-header c =
    let p = err_from_is_err_and c.from_residual.result c.from_residual.ensures.1 in
    rw (p.1, p.2) (record { header = header_err c.args.from_server c.args.octets.now c.in-Ok.fields c.in_err-header.field-0.0 (rw c.new.ensures.rest at c.in-Ok.ensures.fields) c.in_err-header.ensures.header })

pub returns : goal.returns
returns c = record { header = header_some c.args.from_server c.args.octets.now c.in-Ok.fields c.in_ok-header.header (rw c.new.ensures.rest at c.in-Ok.ensures.fields) c.in_ok-header.ensures.header }
