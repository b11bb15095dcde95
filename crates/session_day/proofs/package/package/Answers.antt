-- The content is made of its tag.
use Rattle.std.proofs.Common.{arith}
use Rattle.session_day.proofs.package.package.Goals as goal

pub content_of-requires : goal.content_of-requires
content_of-requires c = record { of_package = (c.args.place, c.args.version, c.args.number, omega (arith, c.ranges.place.fits), c.in_ok-tag.ensures.tag) }

pub returns : goal.returns
returns c = record { content = c.content_of.ensures.content c.args.place c.args.version c.args.number (omega (arith, c.ranges.place.fits)) c.in_ok-tag.ensures.tag }
