use Rattle.std.proofs.Common.{arith, ◌≤◌, length, sym, ap}
use Rattle.std.proofs.lemmas.Result.{err_from_is_err_and}
use Rattle.pb_batch.proofs.Fronts.{header_bounds, more_short}
use Rattle.pb_batch.proofs.Growing.{filled_length, taken, grows_short, grows_refused, grows_waits, grows_bad, grows_done, header_unseen, header_is_seen, header_is_refused}
use Rattle.pb_batch.proofs.feed.grow.Goals as goal

pub read_header-requires : goal.read_header-requires
read_header-requires c =
    let held = more_short c.args.from_server c.args.held.now c.requires.torn in
    let len = filled_length c.in_ok-first.ensures.filled in
    record { places = rw c.as_slice.ensures.items (omega (arith, held, len, c.in_ok-first.ensures.filled.counted)) }

pub returns-in_err-header : goal.returns-in_err-header
returns-in_err-header c =
    let p = err_from_is_err_and c.from_residual-in_err-header.result c.from_residual-in_err-header.ensures.1 in
    let r = header_is_refused c.args.from_server c.fill.new.held c.in_err-header.field-0.0 (sym (rw c.as_slice.ensures.items at c.in_err-header.ensures.header)) in
    rw (p.1, p.2) (record { grown = grows_refused c.args.from_server c.in_err-header.field-0.0 c.in_ok-first.ensures.filled r.0 r.1 })

pub returns-in_default : goal.returns-in_default
returns-in_default c =
    let short = header_unseen c.args.from_server c.fill.new.held (sym (rw (c.as_slice.ensures.items, c.in_default.is) at c.in_ok-header.ensures.header)) in
    record { grown = grows_short c.args.from_server c.in_ok-first.ensures.filled short }

pub returns-then-len-header : goal.returns-then-len-header
returns-then-len-header c =
    let seen = header_is_seen c.args.from_server c.fill.new.held c.in-Some.header (sym (rw (c.as_slice.ensures.items, c.in-Some.is) at c.in_ok-header.ensures.header)) in
    let filled = rw c.split_at.ensures.back at c.in_ok-more.ensures.filled in
    let t = taken c.args.from_server c.in-Some.header c.requires.torn c.in_ok-first.ensures.filled seen.0 seen.1 filled in
    record { grown = grows_waits c.args.from_server c.in-Some.header c.in_ok-first.ensures.filled filled t (omega (arith, c.len.ensures.len, c.if-len-header.true)) }

pub read_messages-requires-clause-short : goal.read_messages-requires-clause-short
read_messages-requires-clause-short c =
    let seen = header_is_seen c.args.from_server c.fill.new.held c.in-Some.header (sym (rw (c.as_slice.ensures.items, c.in-Some.is) at c.in_ok-header.ensures.header)) in
    let filled = rw c.split_at.ensures.back at c.in_ok-more.ensures.filled in
    let t = taken c.args.from_server c.in-Some.header c.requires.torn c.in_ok-first.ensures.filled seen.0 seen.1 filled in
    let bounds = header_bounds c.args.from_server c.fill.new.held c.in-Some.header seen.1 in
    omega (arith, t.short, bounds.1, ap length c.as_slice-2.ensures.items)

pub returns-in_err-messages : goal.returns-in_err-messages
returns-in_err-messages c =
    let p = err_from_is_err_and c.from_residual-in_err-messages.result c.from_residual-in_err-messages.ensures.1 in
    let seen = header_is_seen c.args.from_server c.fill.new.held c.in-Some.header (sym (rw (c.as_slice.ensures.items, c.in-Some.is) at c.in_ok-header.ensures.header)) in
    let filled = rw c.split_at.ensures.back at c.in_ok-more.ensures.filled in
    let all : c.in-Some.header.length ≤ length c.fill-2.new.held = omega (arith, c.len.ensures.len, c.if-len-header.false) in
    let fails = rw c.as_slice-2.ensures.items at c.in_err-messages.ensures.messages in
    rw (p.1, p.2) (record { grown = grows_bad c.args.from_server c.in-Some.header c.in_err-messages.field-0.0 (taken c.args.from_server c.in-Some.header c.requires.torn c.in_ok-first.ensures.filled seen.0 seen.1 filled) all fails })

pub returns : goal.returns
returns c =
    let seen = header_is_seen c.args.from_server c.fill.new.held c.in-Some.header (sym (rw (c.as_slice.ensures.items, c.in-Some.is) at c.in_ok-header.ensures.header)) in
    let filled = rw c.split_at.ensures.back at c.in_ok-more.ensures.filled in
    let all : c.in-Some.header.length ≤ length c.fill-2.new.held = omega (arith, c.len.ensures.len, c.if-len-header.false) in
    let is = rw c.as_slice-2.ensures.items at c.in_ok-messages.ensures.messages in
    let forms = rw c.as_slice-2.ensures.items at c.in_ok-messages.ensures.forms in
    record { grown = grows_done c.args.from_server c.in-Some.header c.in_ok-messages.messages (taken c.args.from_server c.in-Some.header c.requires.torn c.in_ok-first.ensures.filled seen.0 seen.1 filled) all is forms c.in_ok-messages.ensures.few }
