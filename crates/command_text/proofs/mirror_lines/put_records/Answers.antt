-- The line of the record at a place follows those of the records before it.
use Rattle.std.proofs.Common.{◌∙◌, ◌-◌, ◌≡◌, ◌++◌, ap, sym, arith}
use Rattle.std.specs.Option.{option_copied}
use Rattle.swima_model.specs.declared.report.Kind.{Kind}
use Rattle.command_text.specs.Text.{record_line}
use Rattle.command_text.proofs.Printed.{all_put, line_put, none_put}
use Rattle.command_text.proofs.mirror_lines.put_records.Goals.{in-Some+in_ok-put_record, in_default}
use Rattle.command_text.proofs.mirror_lines.put_records.Goals as goal

pub loop-place-preserved : goal.loop-place-preserved
loop-place-preserved c =
    let mirror = c.args.mirror.now in
    let out = c.loop-place.out in
    elim c.match-record_at.branch [
      | in-Some+in_ok-put_record w ↦
          line_put mirror c.args.start c.loop-place.place w.in-Some.record.now c.args.out.now out c.match-record_at.out c.loop-place.auto.place
          (sym c.record_at.ensures.record ∙ ap option_copied w.in-Some.is) c.loop-place.invariant
          (w.out-is ∙ w.in_ok-put_record.ensures.appended ∙ ap (λ (kind : Kind). out ++ record_line kind w.in-Some.record.now) w.kind.ensures.kind)
      | in_default w ↦
          w.out-is ∙ none_put mirror c.args.start c.loop-place.place c.args.out.now out c.loop-place.auto.place
          (sym c.record_at.ensures.record ∙ ap option_copied w.in_default.is) c.loop-place.invariant
    ]

pub returns : goal.returns
returns c =
    let last : c.loop-place.place - c.args.start ≡ c.args.end - c.args.start = omega (arith, c.loop-place-test.false, c.loop-place.auto.place-end c.requires.order) in
    record { appended = all_put c.args.mirror.now c.args.start c.args.end c.loop-place.place c.args.out.now c.loop-place.out last c.loop-place.invariant }
