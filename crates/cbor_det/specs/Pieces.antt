-- What came of a piece.
use Rattle.std.specs.Prelude.{◌<◌, ◌≤◌, ◌+◌, ℕ, List, ◌++◌, length}
use Rattle.cbor_det.specs.declared.frame.Frame.{Frame}
use Rattle.cbor_det.specs.declared.piece.PieceOutcome.{PieceOutcome}
use Rattle.cbor_det.specs.declared.piece.PieceOutcome.TheVariants as piece_outcome
use Rattle.cbor_det.specs.declared.limits.Limits.{Limits}
use Rattle.cbor_det.specs.View.{view}
use Rattle.cbor_det.specs.Faults.{Begins, IsFault, IsCut}
use Rattle.cbor_det.specs.Frames.{Fits}
use Rattle.cbor_det.specs.Standing.{Stands}

abbrev pub IsPieceOutcome : Limits → List ℕ → List ℕ → List Frame → PieceOutcome → Type 0
IsPieceOutcome limits before piece fs (piece_outcome.More phase taken) = Stands limits fs phase taken (before ++ piece) × IsCut limits (before ++ piece)
IsPieceOutcome limits before piece fs (piece_outcome.Done item used) =
    Begins limits (before ++ piece) (view item) (length before + used) × (0 < used) × (used ≤ length piece)
IsPieceOutcome limits before piece fs (piece_outcome.Fault f) = IsFault limits (before ++ piece) f.kind f.at

abbrev pub PieceOutcomeFits : Limits → PieceOutcome → Type 0
PieceOutcomeFits limits (piece_outcome.More phase taken) = Fits phase × (taken ≤ limits.octets)
PieceOutcomeFits limits (piece_outcome.Done item used) = Unit {0}
PieceOutcomeFits limits (piece_outcome.Fault f) = Unit {0}
