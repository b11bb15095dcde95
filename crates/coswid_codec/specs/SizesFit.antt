-- Which tags an item holds: those in which each size of a file is below 2^63.
use Rattle.std.specs.Option.{ForSome}
use Rattle.coswid_res.specs.Sizes.{PayloadSizesFit, EvidenceSizesFit}
use Rattle.coswid_tag.specs.declared.tag.Tag.{Tag}

pub record SizesFit (g : Tag) : Type 0 where
  pub payload : ForSome g.payload PayloadSizesFit
  pub evidence : ForSome g.evidence EvidenceSizesFit
