-- What is answered at each end.
use Rattle.std.proofs.lemmas.Result.{err_from_is_err_and}
use Rattle.cbor_det.specs.View.{view}
use Rattle.coswid_codec.proofs.Answered.{read_whole, form_refused}
use Rattle.coswid_codec.proofs.read.read_tag.Goals as goal

pub returns-in_err-tag-clause-refused : goal.returns-in_err-tag-clause-refused
returns-in_err-tag-clause-refused c =
    let all = form_refused c.args.bytes.now (view c.in_ok-item.item) c.in_ok-item.used c.in_err-tag.field-0.0 c.in_ok-item.ensures.found c.in_err-tag.ensures.told in
    let p = err_from_is_err_and c.from_residual-in_err-tag.result c.from_residual-in_err-tag.ensures.1 in
    rw (p.1, p.2) all.refused

pub returns-in_err-tag-clause-only : goal.returns-in_err-tag-clause-only
returns-in_err-tag-clause-only c =
    let all = form_refused c.args.bytes.now (view c.in_ok-item.item) c.in_ok-item.used c.in_err-tag.field-0.0 c.in_ok-item.ensures.found c.in_err-tag.ensures.told in
    let p = err_from_is_err_and c.from_residual-in_err-tag.result c.from_residual-in_err-tag.ensures.1 in
    rw (p.1, p.2) all.only

pub returns-in_err-tag-clause-fault : goal.returns-in_err-tag-clause-fault
returns-in_err-tag-clause-fault c =
    let all = form_refused c.args.bytes.now (view c.in_ok-item.item) c.in_ok-item.used c.in_err-tag.field-0.0 c.in_ok-item.ensures.found c.in_err-tag.ensures.told in
    let p = err_from_is_err_and c.from_residual-in_err-tag.result c.from_residual-in_err-tag.ensures.1 in
    rw (p.1, p.2) all.fault

pub returns-clause-shallow : goal.returns-clause-shallow
returns-clause-shallow c =
    (read_whole c.args.bytes.now (view c.in_ok-item.item) c.in_ok-tag.tag c.in_ok-item.used c.in_ok-item.ensures.found c.in_ok-tag.ensures.told.0 c.in_ok-tag.ensures.told.1).shallow

pub returns-clause-sizes : goal.returns-clause-sizes
returns-clause-sizes c =
    (read_whole c.args.bytes.now (view c.in_ok-item.item) c.in_ok-tag.tag c.in_ok-item.used c.in_ok-item.ensures.found c.in_ok-tag.ensures.told.0 c.in_ok-tag.ensures.told.1).sizes

pub returns-clause-only : goal.returns-clause-only
returns-clause-only c =
    (read_whole c.args.bytes.now (view c.in_ok-item.item) c.in_ok-tag.tag c.in_ok-item.used c.in_ok-item.ensures.found c.in_ok-tag.ensures.told.0 c.in_ok-tag.ensures.told.1).only
