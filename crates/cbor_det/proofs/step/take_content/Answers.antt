-- A part of a string, or all that was left of it.
use Rattle.std.proofs.Common.{◌≡◌, ◌<◌, length, arith}
use Rattle.std.proofs.lemmas.Result.{IfOk-weaker}
use Rattle.cbor_det.specs.Standing.{place}
use Rattle.cbor_det.proofs.Runs.{string_stops, string_goes}
use Rattle.cbor_det.proofs.step.take_content.Goals as goal

pub returns-then-left-eq0-clause-ran : goal.returns-then-left-eq0-clause-ran
returns-then-left-eq0-clause-ran c =
    let all : length c.args.octets.now ≡ c.args.string.left = omega (arith, c.requires.left, c.if-left-eq0.true) in
    IfOk-weaker c.string_ended.result _ _ (λ came ends. λ limits taken rest. string_stops limits taken (place c.args.stack.now.items) c.args.string.at c.args.string.kind c.args.string.left c.args.string.came c.args.octets.now _ rest _
    c.in_ok-extend.ensures.appended all (omega (arith, c.requires.some, all)) ends) c.string_ended.ensures.ended

pub returns-clause-ran : goal.returns-clause-ran
returns-clause-ran c = λ limits taken rest.
    let less : length c.args.octets.now < c.args.string.left = omega (arith, c.requires.left, c.if-left-eq0.false) in
    string_goes limits taken (place c.args.stack.now.items) c.args.string.at c.args.string.kind c.args.string.left c.args.string.came c.args.octets.now _ rest
    c.in_ok-extend.ensures.appended less
