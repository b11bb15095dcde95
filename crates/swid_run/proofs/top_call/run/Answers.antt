use Rattle.std.proofs.Common.{refl}
use Rattle.swid_run.proofs.Running.{lent, runs_collect, runs_follow, runs_other, runs_out}
use Rattle.swid_run.proofs.top_call.run.Goals as goal

pub follow-requires-clause-many : goal.follow-requires-clause-many
follow-requires-clause-many g c = λ lives within. (c.requires.lent.follow c.in-Ok-Follow.options (rw c.in-Ok-Follow.field-0-is at c.in-Ok-Follow.ensures.order).0).0

pub returns-in-Ok-Other : goal.returns-in-Ok-Other
returns-in-Ok-Other g c =
    let so = runs_other g.S.Source.left g.S.Source.faults g.K.Sink.written g.K.Sink.faults g.F.Files.contents g.F.Files.reads g.F.Files.faults
    g.D.L.Link.taken g.D.L.Link.given g.D.L.Link.faults g.D.Door.left g.D.Door.returned g.D.Door.last g.D.Door.faults g.C.Clock.moments g.B.TagSource.reports g.B.TagSource.faults
    _ (lent c.args.input.now c.args.output.now c.args.files.now c.args.doors.now c.args.clock.now c.args.sources.now)
    (lent c.run_plain.new.input c.run_plain.new.output c.run_plain.new.files c.args.doors.now c.args.clock.now c.args.sources.now) c.run_plain.result
    (rw c.in-Ok-Other.field-0-is at c.in-Ok-Other.ensures.order) (record {
      usage = c.run_plain.ensures.usage;
      usage_front = c.run_plain.ensures.usage_front;
      usage_text = c.run_plain.ensures.usage_text;
      usage_input = c.run_plain.ensures.usage_input;
      printed = c.run_plain.ensures.printed;
      front = c.run_plain.ensures.front;
      unread = c.run_plain.ensures.unread;
      reads = c.run_plain.ensures.reads;
      right = c.run_plain.ensures.right;
      fault = c.run_plain.ensures.fault;
      no_input_fault = c.run_plain.ensures.no_input_fault;
      no_output_fault = c.run_plain.ensures.no_output_fault;
      no_files_fault = c.run_plain.ensures.no_files_fault;
      input_count = c.run_plain.ensures.input_count;
      output_count = c.run_plain.ensures.output_count;
      files_count = c.run_plain.ensures.files_count;
      contents = c.run_plain.ensures.contents;
      files = c.run_plain.ensures.files;
    }) c.run_plain.ensures.status refl refl refl in
    record {
      usage = so.usage;
      no_line = so.no_line;
      plain = so.plain;
      others_unused = so.others_unused;
      collect = so.collect;
      follow = so.follow;
      follow_sweeps_nothing = so.follow_sweeps_nothing;
      unread = so.unread;
      fault = so.fault;
      no_fault = so.no_fault;
      counts_never_fall = so.counts_never_fall;
      status = so.within;
      ready = c.requires.ready;
    }

pub returns-in-Ok-Collect : goal.returns-in-Ok-Collect
returns-in-Ok-Collect g c =
    let so = runs_collect g.S.Source.left g.S.Source.faults g.K.Sink.written g.K.Sink.faults g.F.Files.contents g.F.Files.reads g.F.Files.faults
    g.D.L.Link.taken g.D.L.Link.given g.D.L.Link.faults g.D.Door.left g.D.Door.returned g.D.Door.last g.D.Door.faults g.C.Clock.moments g.B.TagSource.reports g.B.TagSource.faults
    _ (lent c.args.input.now c.args.output.now c.args.files.now c.args.doors.now c.args.clock.now c.args.sources.now)
    (lent c.args.input.now c.collect.new.output c.args.files.now c.collect.new.doors c.collect.new.clock c.collect.new.sources) c.status.result
    c.in-Ok-Collect.options c.collect.result (rw c.in-Ok-Collect.field-0-is at c.in-Ok-Collect.ensures.order).0 c.status.ensures.status c.collect.ensures.collects c.collect.ensures.causes refl refl in
    record {
      usage = so.usage;
      no_line = so.no_line;
      plain = so.plain;
      others_unused = so.others_unused;
      collect = so.collect;
      follow = so.follow;
      follow_sweeps_nothing = so.follow_sweeps_nothing;
      unread = so.unread;
      fault = so.fault;
      no_fault = so.no_fault;
      counts_never_fall = so.counts_never_fall;
      status = so.within;
      ready = c.collect.ensures.ready;
    }

pub returns-in-Ok-Follow : goal.returns-in-Ok-Follow
returns-in-Ok-Follow g c =
    let so = runs_follow g.S.Source.left g.S.Source.faults g.K.Sink.written g.K.Sink.faults g.F.Files.contents g.F.Files.reads g.F.Files.faults
    g.D.L.Link.taken g.D.L.Link.given g.D.L.Link.faults g.D.Door.left g.D.Door.returned g.D.Door.last g.D.Door.faults g.C.Clock.moments g.B.TagSource.reports g.B.TagSource.faults
    _ (lent c.args.input.now c.args.output.now c.args.files.now c.args.doors.now c.args.clock.now c.args.sources.now)
    (lent c.args.input.now c.follow.new.output c.args.files.now c.follow.new.doors c.args.clock.now c.args.sources.now) c.status-in-Ok-Follow.result
    c.in-Ok-Follow.options c.follow.result (rw c.in-Ok-Follow.field-0-is at c.in-Ok-Follow.ensures.order).0 c.status-in-Ok-Follow.ensures.status c.follow.ensures.follows c.follow.ensures.causes refl refl refl refl in
    record {
      usage = so.usage;
      no_line = so.no_line;
      plain = so.plain;
      others_unused = so.others_unused;
      collect = so.collect;
      follow = so.follow;
      follow_sweeps_nothing = so.follow_sweeps_nothing;
      unread = so.unread;
      fault = so.fault;
      no_fault = so.no_fault;
      counts_never_fall = so.counts_never_fall;
      status = so.within;
      ready = c.follow.ensures.ready;
    }

pub returns-in-Err : goal.returns-in-Err
returns-in-Err g c =
    let so = runs_out g.S.Source.left g.S.Source.faults g.K.Sink.written g.K.Sink.faults g.F.Files.contents g.F.Files.reads g.F.Files.faults
    g.D.L.Link.taken g.D.L.Link.given g.D.L.Link.faults g.D.Door.left g.D.Door.returned g.D.Door.last g.D.Door.faults g.C.Clock.moments g.B.TagSource.reports g.B.TagSource.faults
    _ (lent c.args.input.now c.args.output.now c.args.files.now c.args.doors.now c.args.clock.now c.args.sources.now) c.in-Err.ensures.order in
    record {
      usage = so.usage;
      no_line = so.no_line;
      plain = so.plain;
      others_unused = so.others_unused;
      collect = so.collect;
      follow = so.follow;
      follow_sweeps_nothing = so.follow_sweeps_nothing;
      unread = so.unread;
      fault = so.fault;
      no_fault = so.no_fault;
      counts_never_fall = so.counts_never_fall;
      status = so.within;
      ready = c.requires.ready;
    }
