-- What the proofs of the writers of maps, row by row, cite.
pub use Rattle.std.proofs.Common.{◌≡◌, ◌+◌, List, drop, refl, ◌∙◌, arith}
unfoldable pub use Rattle.wire_base.specs.Numbers.{octets_of}
pub use Rattle.cbor_det.specs.Laid.{Row, present}
pub use Rattle.cbor_det.specs.View.{pairs_view}
pub use Rattle.cbor_det.proofs.Laid.{map_laid}
