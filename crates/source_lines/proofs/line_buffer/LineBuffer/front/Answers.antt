use Rattle.std.proofs.Common.{ap}
use Rattle.source_lines.specs.Lines.{BufferView}
use Rattle.source_lines.proofs.Fronts.{line_in, long_in, more_in, searched_more}
use Rattle.source_lines.proofs.line_buffer.LineBuffer.front.Goals as goal

pub invariant_of-self : goal.invariant_of-self
invariant_of-self c =
    let buffer = c.self.inside in
    let kept = c.self.invariant in
    searched_more buffer.octets.items c.as_slice.result.now c.split_at.result.1.now c.split_at-2.result.0.now buffer.place buffer.searched c.min.result
    kept.0 kept.1 kept.2 kept.3 c.as_slice.ensures.value c.split_at.ensures.back c.split_at-2.ensures.front c.min.ensures c.in-None-2.ensures c.if-searched-window-gt-MOST_OCTETS.false

pub returns-in-Some-clause-front : goal.returns-in-Some-clause-front
returns-in-Some-clause-front c =
    let buffer = c.self.inside in
    let kept = c.self.invariant in
    line_in buffer.octets.items c.as_slice.result.now c.split_at.result.1.now c.split_at-2.result.0.now buffer.place buffer.searched c.min.result
    kept.0 kept.1 kept.2 kept.3 c.as_slice.ensures.value c.split_at.ensures.back c.split_at-2.ensures.front c.min.ensures c.in-Some.count c.args.self.now.held
    (ap (λ (view : BufferView). view.held) c.self.view_is) c.in-Some.ensures

pub returns-in-None-clause-front : goal.returns-in-None-clause-front
returns-in-None-clause-front c =
    let buffer = c.self.inside in
    let kept = c.self.invariant in
    long_in buffer.octets.items c.as_slice.result.now c.split_at.result.1.now c.split_at-2.result.0.now buffer.place buffer.searched c.min.result
    kept.0 kept.1 kept.2 kept.3 c.as_slice.ensures.value c.split_at.ensures.back c.split_at-2.ensures.front c.min.ensures c.args.self.now.held
    (ap (λ (view : BufferView). view.held) c.self.view_is) c.in-None.ensures c.if-searched-window-gt-MOST_OCTETS.true

pub returns-in-None-2-clause-front : goal.returns-in-None-2-clause-front
returns-in-None-2-clause-front c =
    let buffer = c.self.inside in
    let kept = c.self.invariant in
    more_in buffer.octets.items c.as_slice.result.now c.split_at.result.1.now c.split_at-2.result.0.now buffer.place buffer.searched c.min.result
    kept.0 kept.1 kept.2 kept.3 c.as_slice.ensures.value c.split_at.ensures.back c.split_at-2.ensures.front c.min.ensures c.args.self.now.held
    (ap (λ (view : BufferView). view.held) c.self.view_is) c.in-None-2.ensures c.if-searched-window-gt-MOST_OCTETS.false
