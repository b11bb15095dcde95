-- Each tag states sizes that an item holds, as all of them do.
use Rattle.std.proofs.Common.{sym, subst, arith}
use Rattle.std.proofs.lemmas.List.Elements.{All-get_or}
use Rattle.coswid_codec.specs.SizesFit.{SizesFit}
use Rattle.coswid_links.proofs.rival.contents.Goals as goal

pub from_tag-requires-clause-sizes : goal.from_tag-requires-clause-sizes
from_tag-requires-clause-sizes c = subst SizesFit (sym c.tag-item.is) (All-get_or SizesFit c.args.tags.now c.loop-tag.tag-index c.tag-item.result (omega (arith, c.loop-tag-test.true)) c.requires.sizes)
