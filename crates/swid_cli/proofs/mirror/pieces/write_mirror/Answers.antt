use Rattle.std.proofs.Common.{◌∙◌, ◌≡◌, ◌≤◌, ◌+◌, length, sym, arith}
use Rattle.command_text.specs.Text.{listed, mirror_text}
use Rattle.swid_cli.proofs.Pieces.{all_begun, all_written, head_begun, none_written, piece_begun, piece_written}
use Rattle.swid_cli.proofs.mirror.pieces.write_mirror.Goals as goal

pub returns-in_err-piece-clause-front : goal.returns-in_err-piece-clause-front
returns-in_err-piece-clause-front g c = none_written _ (mirror_text c.args.mirror.now)

pub returns-in_err-write_all-clause-front : goal.returns-in_err-write_all-clause-front
returns-in_err-write_all-clause-front g c =
    head_begun _ _ c.args.mirror.now c.as_slice.result.now (c.as_slice.ensures.items ∙ c.in_ok-piece.ensures.line) c.in_err-write_all.ensures.front

pub loop-start-preserved : goal.loop-start-preserved
loop-start-preserved g c =
    let within : c.loop-start.start + c.min.result ≤ c.listed_count-count.result = omega (arith, c.min.ensures, c.loop-start-test.true) in
    record {
      added = piece_written _ _ _ c.args.mirror.now c.loop-start.start (c.loop-start.start + c.min.result) (omega arith) c.loop-start.invariant.added c.in_ok-write_records.ensures.whole;
      within = within;
      output = c.in_ok-write_records.ensures.cause.cause ∙ c.loop-start.invariant.output;
    }

pub returns-in_err-write_records-clause-front : goal.returns-in_err-write_records-clause-front
returns-in_err-write_records-clause-front g c =
    let within : c.loop-start.start + c.min.result ≤ length (listed c.args.mirror.now.point c.args.mirror.now.records) = omega (arith, c.min.ensures, c.loop-start-test.true, c.listed_count-count.ensures.count) in
    piece_begun _ _ _ c.args.mirror.now c.loop-start.start (c.loop-start.start + c.min.result) (omega arith) within c.loop-start.invariant.added c.in_err-write_records.ensures.front

pub returns-clause-front : goal.returns-clause-front
returns-clause-front g c =
    let all : c.loop-start.start ≡ length (listed c.args.mirror.now.point c.args.mirror.now.records) = omega (arith, c.loop-start.invariant.within, c.loop-start-test.false, c.listed_count-count.ensures.count) in
    all_begun _ _ (mirror_text c.args.mirror.now) (all_written _ _ c.args.mirror.now c.loop-start.start all c.loop-start.invariant.added)
