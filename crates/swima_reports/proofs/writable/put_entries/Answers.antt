use Rattle.std.proofs.Common.{rules, ◌≡◌, ◌++◌, sym, subst}
use Rattle.std.proofs.lemmas.List.{append-nil}
use Rattle.std.proofs.lemmas.List.Elements.{All-nil, All-more}
use Rattle.wire_base.specs.Written.{written}
use Rattle.swima_reports.proofs.Writing.{behind_more}
use Rattle.swima_reports.proofs.writable.put_entries.Goals as goal

pub loop-entry-init : goal.loop-entry-init
unfolding written
loop-entry-init g c = record { appended = sym (append-nil c.args.out.now); room = All-nil (g.T.Writable.has_room c.args.kind) }

pub loop-entry-preserved : goal.loop-entry-preserved
loop-entry-preserved g c =
    let items = c.as_slice-entry-items.result.now in
    let i = c.loop-entry.entry-index in
    let d = c.entry-item.result in
    let fields = g.T.Writable.entry_fields c.args.kind in
    let room = g.T.Writable.has_room c.args.kind in
    record {
      appended = behind_more fields items i d c.args.out.now c.loop-entry.out c.put.new.out (search rules) c.loop-entry.invariant.appended
          (subst (λ e. c.put.new.out ≡ c.loop-entry.out ++ written (fields e)) c.entry-item.is c.in_ok-put.ensures.appended);
      room = All-more room items i d (search rules) c.loop-entry.invariant.room (subst room c.entry-item.is c.in_ok-put.ensures.room);
    }
