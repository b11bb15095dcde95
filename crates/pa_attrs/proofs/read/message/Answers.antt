use Rattle.std.proofs.Common.{◌≡◌, ℕ, arith}
use Rattle.std.proofs.lemmas.Result.{err_from_is_err_and}
use Rattle.pa_attrs.specs.MessageReading.{attrs_of, message_of}
use Rattle.pa_attrs.proofs.FieldsRead.{message_none, message_version, message_good, message_err, message_ok}
use Rattle.pa_attrs.proofs.read.message.Goals as goal

pub returns-in_default : goal.returns-in_default
returns-in_default c =
    rw (c.fault_of.ensures.fault, c.new-fault.ensures.fault) (record { message = message_none c.args.supported.now c.args.bytes.now c.in_default.field-0 (rw c.new.ensures.rest at c.in_default.ensures.start) })

pub returns-then-version-ne-VERSION : goal.returns-then-version-ne-VERSION
returns-then-version-ne-VERSION c =
    let start = rw c.new.ensures.rest at c.in-Ok.ensures.start in
    rw (c.fault_of-then-version-ne-VERSION.ensures.fault, c.new-fault-then-version-ne-VERSION.ensures.fault)
    (record { message = message_version c.args.supported.now c.args.bytes.now (c.in-Ok.version, c.in-Ok.id) start (λ one. omega (arith, one, c.if-version-ne-VERSION.true)) })

pub attributes-requires-clause-least : goal.attributes-requires-clause-least
attributes-requires-clause-least c =
    let start = rw c.new.ensures.rest at c.in-Ok.ensures.start in
    let one : c.in-Ok.version ≡ 1 = omega (arith, c.if-version-ne-VERSION.false) in
    (message_good c.args.supported.now c.args.bytes.now (c.in-Ok.version, c.in-Ok.id) start one).2

pub returns-in_err-kept : goal.returns-in_err-kept
returns-in_err-kept c =
    let p = err_from_is_err_and c.from_residual.result c.from_residual.ensures.1 in
    let start = rw c.new.ensures.rest at c.in-Ok.ensures.start in
    let one : c.in-Ok.version ≡ 1 = omega (arith, c.if-version-ne-VERSION.false) in
    let good = message_good c.args.supported.now c.args.bytes.now (c.in-Ok.version, c.in-Ok.id) start one in
    rw (p.1, p.2) (record { message = message_err c.args.bytes.now (attrs_of c.args.supported.now c.args.bytes.now) (message_of c.args.supported.now c.args.bytes.now) c.in_err-kept.field-0.0 good.0 c.in_err-kept.ensures.attrs })

pub returns : goal.returns
returns c =
    let start = rw c.new.ensures.rest at c.in-Ok.ensures.start in
    let one : c.in-Ok.version ≡ 1 = omega (arith, c.if-version-ne-VERSION.false) in
    let good = message_good c.args.supported.now c.args.bytes.now (c.in-Ok.version, c.in-Ok.id) start one in
    record { message = message_ok c.args.bytes.now (attrs_of c.args.supported.now c.args.bytes.now) (message_of c.args.supported.now c.args.bytes.now) c.in-Ok.id c.in_ok-kept.kept good.0 c.in_ok-kept.ensures.attrs good.1 }
