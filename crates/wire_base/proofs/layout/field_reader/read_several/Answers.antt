use Rattle.std.proofs.lemmas.Result.{err_from_is_err_and}
use Rattle.wire_base.specs.Reading.{several}
use Rattle.wire_base.proofs.Several.{more, stops, all_read}
use Rattle.wire_base.proofs.layout.field_reader.read_several.Goals as goal

pub loop-preserved : goal.loop-preserved
loop-preserved g c =
    let reading = g.R.FieldReader.reading c.args.reader.now in
    rw c.in_ok-push.ensures.appended (more reading c.loop.values c.args.count c.loop.counter c.loop.cursor c.read.new.cursor c.in_ok-read.field-0 (several c.args.count reading c.args.cursor.now) c.loop-test.true c.in_ok-read.ensures.field c.loop.invariant)

pub returns-in_err-read : goal.returns-in_err-read
returns-in_err-read g c =
    let reading = g.R.FieldReader.reading c.args.reader.now in
    let p = err_from_is_err_and c.from_residual-in_err-read.result c.from_residual-in_err-read.ensures.1 in
    rw (p.1, p.2) (record { several = stops reading c.in_err-read.field-0.0 c.loop.values c.args.count c.loop.counter c.loop.cursor (several c.args.count reading c.args.cursor.now) c.loop-test.true c.in_err-read.ensures.field c.loop.invariant })

pub returns : goal.returns
returns g c =
    let reading = g.R.FieldReader.reading c.args.reader.now in
    record { several = all_read reading c.loop.values c.args.count c.loop.counter c.loop.cursor (several c.args.count reading c.args.cursor.now) c.loop-test.false c.loop.invariant }
