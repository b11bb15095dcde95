-- No attribute that was passed is a PA-TNC Error.
use Rattle.std.proofs.Common.{◌≡◌, drop}
use Rattle.std.specs.List.{list_any}
use Rattle.pa_attrs.specs.MessageReading.{is_error}
use Rattle.pa_attrs.proofs.read.has_error.Given as goal

abbrev pub invariant-loop-placed : goal.invariant-loop-placed
invariant-loop-placed l = list_any is_error l.attrs ≡ list_any is_error (drop l.placed-index l.attrs)
