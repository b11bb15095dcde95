use Rattle.std.proofs.Common.{◌≡◌, ◌-◌, ◌<◌, List, ℕ, length, drop, sym, ap, arith, length-drop}
use Rattle.std.proofs.lemmas.List.{take_rest, length_push}
use Rattle.std.proofs.lemmas.Result.{err_from_is_err_and}
use Rattle.pb_batch.specs.Front.{messages_of}
use Rattle.pb_batch.proofs.MessageLists.{batch_forth}
use Rattle.pb_batch.proofs.Reading.{head_stops, stops, more_of, some_left, all_read}
use Rattle.pb_batch.proofs.read_messages.read_messages.Goals as goal

pub returns-in_err-head : goal.returns-in_err-head
returns-in_err-head c =
    let p = err_from_is_err_and c.from_residual.result c.from_residual.ensures.1 in
    let some : 0 < length (drop c.loop-at.at c.args.batch.now) = omega (arith, length-drop c.loop-at.at c.args.batch.now, c.loop-at-test.true) in
    rw (p.1, p.2) (record {
      messages = head_stops c.loop-at.messages (64 - length c.loop-at.messages) c.loop-at.at (drop c.loop-at.at c.args.batch.now) c.in_err-head.field-0.0 (messages_of 64 8 (drop 8 c.args.batch.now)) some
          (sym (rw (take_rest c.args.batch.now c.loop-at.at, c.len.ensures.len) at c.in_err-head.ensures.head)) c.loop-at.invariant.so_far;
      forms = tt;
      few = tt;
    })

pub returns-in_err-read_value : goal.returns-in_err-read_value
returns-in_err-read_value c =
    let p = err_from_is_err_and c.from_residual-in_err-read_value.result c.from_residual-in_err-read_value.ensures.1 in
    let some : 0 < length (drop c.loop-at.at c.args.batch.now) = omega (arith, length-drop c.loop-at.at c.args.batch.now, c.loop-at-test.true) in
    let head = sym (rw (take_rest c.args.batch.now c.loop-at.at, c.len.ensures.len) at c.in_ok-head.ensures.head) in
    let fields = rw (take_rest c.args.batch.now c.loop-at.at) at c.in_ok-head.ensures.fields in
    let value = rw (fields, take_rest c.args.batch.now c.loop-at.at) at c.in_err-read_value.ensures.value in
    rw (p.1, p.2) (record {
      messages = stops c.loop-at.messages (64 - length c.loop-at.messages) c.loop-at.at (drop c.loop-at.at c.args.batch.now) c.in_ok-head.head c.in_err-read_value.field-0.0 (messages_of 64 8 (drop 8 c.args.batch.now)) some
          head value c.loop-at.invariant.so_far;
      forms = tt;
      few = tt;
    })

pub loop-at-preserved : goal.loop-at-preserved
loop-at-preserved c =
    let some : 0 < length (drop c.loop-at.at c.args.batch.now) = omega (arith, length-drop c.loop-at.at c.args.batch.now, c.loop-at-test.true) in
    let head = sym (rw (take_rest c.args.batch.now c.loop-at.at, c.len.ensures.len) at c.in_ok-head.ensures.head) in
    let fields = rw (take_rest c.args.batch.now c.loop-at.at) at c.in_ok-head.ensures.fields in
    let value = rw (fields, take_rest c.args.batch.now c.loop-at.at) at c.in_ok-read_value.ensures.value in
    record {
      so_far = more_of 64 c.loop-at.messages c.push.new.self c.loop-at.at c.args.batch.now c.in_ok-head.head c.in_ok-read_value.field-0 (messages_of 64 8 (drop 8 c.args.batch.now)) some head fields value
          c.in_ok-push.ensures.appended c.loop-at.invariant.so_far;
      few =
          let left = some_left (64 - length c.loop-at.messages) c.loop-at.at (drop c.loop-at.at c.args.batch.now) c.in_ok-head.head head in
          rw c.in_ok-push.ensures.appended (omega (arith, left, length_push c.loop-at.messages c.in_ok-read_value.field-0));
      within = omega (arith, c.in_ok-head.ensures.within, length-drop c.loop-at.at c.args.batch.now, ap (λ (o : List ℕ). length o) (take_rest c.args.batch.now c.loop-at.at), c.loop-at-test.true);
    }

pub returns : goal.returns
returns c =
    let none : length (drop c.loop-at.at c.args.batch.now) ≡ 0 = omega (arith, length-drop c.loop-at.at c.args.batch.now, c.loop-at-test.false) in
    let all = all_read c.loop-at.messages (64 - length c.loop-at.messages) c.loop-at.at (drop c.loop-at.at c.args.batch.now) (messages_of 64 8 (drop 8 c.args.batch.now)) none c.loop-at.invariant.so_far in
    let found = batch_forth c.args.batch.now c.loop-at.messages (λ i. omega (arith, c.type_inv.batch i)) all in
    record { messages = all; forms = found.0; few = found.1 }
