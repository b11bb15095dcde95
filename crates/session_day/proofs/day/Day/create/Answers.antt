-- The stamp, and the content of the record.
use Rattle.std.proofs.Common.{◌∙◌, ◌+◌, ap, refl}
use Rattle.session_day.specs.Package.{content_by, package_content}
use Rattle.session_day.proofs.Daily.{created_so}
use Rattle.session_day.proofs.day.Day.create.Goals as goal

pub returns : goal.returns
returns c = record {
  changes = created_so (package_content c.args.count (c.args.count + c.args.number) 0) c.args.number (record { ref_ptr = c.args.self.ref_ptr; now = c.stamp_at.result })
      (record { ref_ptr = c.args.self.ref_ptr; now = c.in_ok-content.field-0 }) c.args.self.now (record { world = c.enter.new.self; told = c.enter.new.told; carried = c.args.self.now.carried }) c.enter.result
      c.enter.ensures.does c.stamp_at.ensures.text (c.in_ok-content.ensures.content ∙ ap (content_by (c.args.count + c.args.number) 0) c.number_of.ensures.number) refl;
}
