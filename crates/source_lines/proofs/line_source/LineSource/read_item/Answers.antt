use Rattle.std.proofs.Common.{◌∙◌, ap}
use Rattle.source_lines.specs.Lines.{LineView, WillReport}
use Rattle.source_lines.proofs.Holding.{held_fault, held_keeps, kept_any, line_item, line_keeps, long_item, long_keeps, long_within, more_held, quiet_item, quiet_keeps, stayed_fault, stayed_keeps, unread_any, viewed}
use Rattle.source_lines.proofs.line_source.LineSource.read_item.Goals as goal

pub returns-in_err-take_line-in-Line-clause-unread : goal.returns-in_err-take_line-in-Line-clause-unread
returns-in_err-take_line-in-Line-clause-unread g c =
    unread_any (WillReport g.S.Source.left) c.args.self.now (viewed c.self.inside.input c.take_line.new.self) c.from_residual.result
    (stayed_keeps g.S.Source.left c.args.self.now c.loop-len.self c.self.inside.input c.self.inside.lines c.front.new.self c.self.view_is c.loop-len.invariant.held c.front.ensures.same c.take_line.new.self
    c.in_err-take_line-in-Line.ensures.unchanged)

pub returns-in_err-take_line-in-Line-clause-kept : goal.returns-in_err-take_line-in-Line-clause-kept
returns-in_err-take_line-in-Line-clause-kept g c =
    kept_any c.from_residual.result
    (stayed_fault g.S.Source.left c.args.self.now c.loop-len.self c.self.inside.input c.self.inside.lines c.front.new.self c.self.view_is c.loop-len.invariant.held c.front.ensures.same c.take_line.new.self
    c.in_err-take_line-in-Line.ensures.unchanged)

pub returns-in-Line-clause-fault : goal.returns-in-Line-clause-fault
returns-in-Line-clause-fault g c =
    line_keeps g.S.Source.left c.args.self.now c.loop-len.self c.self.inside.input c.self.inside.lines c.front.new.self c.self.view_is c.loop-len.invariant.held c.front.ensures.same c.take_line.new.self
    c.in_ok-take_line-in-Line.field-0 c.in-Line.len c.in-Line.ensures.front c.in_ok-take_line-in-Line.ensures.fault

pub returns-in-Line-clause-item : goal.returns-in-Line-clause-item
returns-in-Line-clause-item g c =
    line_item g.S.Source.left c.args.self.now c.loop-len.self c.self.inside.input c.self.inside.lines c.front.new.self c.self.view_is c.loop-len.invariant.held c.front.ensures.same c.take_line.new.self
    c.in_ok-take_line-in-Line.field-0 c.in-Line.len c.in-Line.ensures.front c.in_ok-take_line-in-Line.ensures.item c.in_ok-take_line-in-Line.ensures.rest c.in_ok-take_line-in-Line.ensures.number

pub take_long-requires : goal.take_long-requires
take_long-requires g c = record {
  within = long_within g.S.Source.left c.args.self.now c.loop-len.self c.self.inside.input c.self.inside.lines c.front.new.self c.self.view_is c.loop-len.invariant.held c.front.ensures.same c.in-Long.ensures.front;
}

pub returns-in-Long-clause-item : goal.returns-in-Long-clause-item
returns-in-Long-clause-item g c =
    long_item g.S.Source.left c.args.self.now c.loop-len.self c.self.inside.input c.self.inside.lines c.front.new.self c.self.view_is c.loop-len.invariant.held c.front.ensures.same c.take_long.new.self
    c.take_long.result c.in-Long.ensures.front c.take_long.ensures.item c.take_long.ensures.rest c.take_long.ensures.number

pub returns-in-Long-clause-fault : goal.returns-in-Long-clause-fault
returns-in-Long-clause-fault g c =
    long_keeps g.S.Source.left c.args.self.now c.loop-len.self c.self.inside.input c.self.inside.lines c.front.new.self c.self.view_is c.loop-len.invariant.held c.front.ensures.same c.take_long.new.self
    c.take_long.result c.in-Long.ensures.front c.take_long.ensures.item c.take_long.ensures.fault

pub returns-in_err-read_more-in-More-clause-kept : goal.returns-in_err-read_more-in-More-clause-kept
returns-in_err-read_more-in-More-clause-kept g c =
    kept_any c.from_residual-in_err-read_more-in-More.result
    (held_fault g.S.Source.left c.args.self.now c.loop-len.self c.self.inside.input c.self.inside.lines c.front.new.self c.self.view_is c.loop-len.invariant.held c.front.ensures.same c.read_more.new.self c.in_err-read_more-in-More.ensures.read)

pub returns-in_err-read_more-in-More-clause-unread : goal.returns-in_err-read_more-in-More-clause-unread
returns-in_err-read_more-in-More-clause-unread g c =
    unread_any (WillReport g.S.Source.left) c.args.self.now c.read_more.new.self c.from_residual-in_err-read_more-in-More.result
    (held_keeps g.S.Source.left c.args.self.now c.loop-len.self c.self.inside.input c.self.inside.lines c.front.new.self c.self.view_is c.loop-len.invariant.held c.front.ensures.same c.read_more.new.self
    c.in_err-read_more-in-More.ensures.read)

pub returns-then-not-branch-clause-item : goal.returns-then-not-branch-clause-item
returns-then-not-branch-clause-item g c =
    quiet_item g.S.Source.left c.args.self.now c.loop-len.self c.self.inside.input c.self.inside.lines c.front.new.self c.self.view_is c.loop-len.invariant.held c.front.ensures.same c.read_more.new.self
    c.in_ok-read_more-in-More.field-0 c.in-More.ensures.front c.if-not-branch.true c.in_ok-read_more-in-More.ensures.read

pub returns-then-not-branch-clause-fault : goal.returns-then-not-branch-clause-fault
returns-then-not-branch-clause-fault g c =
    quiet_keeps g.S.Source.left c.args.self.now c.loop-len.self c.self.inside.input c.self.inside.lines c.front.new.self c.self.view_is c.loop-len.invariant.held c.front.ensures.same c.read_more.new.self
    c.in_ok-read_more-in-More.field-0 c.if-not-branch.true c.in_ok-read_more-in-More.ensures.read

pub loop-len-preserved : goal.loop-len-preserved
loop-len-preserved g c = record {
  held =
      more_held g.S.Source.left c.args.self.now c.loop-len.self c.self.inside.input c.self.inside.lines c.front.new.self c.self.view_is c.loop-len.invariant.held c.front.ensures.same c.read_more.new.self
      c.in_ok-read_more-in-More.field-0 c.if-not-branch.false c.in_ok-read_more-in-More.ensures.read;
  calm = c.in_ok-read_more-in-More.ensures.cause.cause ∙ ap (λ (view : LineView _). g.S.Source.faults view.input) c.self.view_is ∙ c.loop-len.invariant.calm;
}
