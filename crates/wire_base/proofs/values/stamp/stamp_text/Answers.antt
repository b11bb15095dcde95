use Rattle.std.proofs.Common.{inl, arith}
use Rattle.wire_base.proofs.StampLaws.{shown_nanos, year_not_negative, shown_is_moment}
use Rattle.wire_base.proofs.values.stamp.stamp_text.Goals as goal

pub from_clock-requires : goal.from_clock-requires
from_clock-requires c =
    year_not_negative c.from_nanosecond_in_range.result c.args.secs
    (shown_nanos _ c.from-nanos.result c.in-Ok.second c.args.secs c.in-Ok.ensures.1 c.in-Ok.ensures.0 c.from-nanos.ensures c.from_nanosecond_in_range.ensures)

pub returns-clause-text : goal.returns-clause-text
returns-clause-text c = (
  omega (arith, c.in-Ok.ensures.0),
  c.from_clock.result,
  (
    c.from_nanosecond_in_range.result,
    shown_nanos _ c.from-nanos.result c.in-Ok.second c.args.secs c.in-Ok.ensures.1 c.in-Ok.ensures.0 c.from-nanos.ensures c.from_nanosecond_in_range.ensures,
    c.from_clock.ensures.shown,
  ),
  c.text.ensures.text,
)

pub returns-clause-stamp : goal.returns-clause-stamp
returns-clause-stamp c = inl (c.from_clock.result, shown_is_moment c.from_nanosecond_in_range.result c.from_clock.result c.from_clock.ensures.shown, c.text.ensures.text)
