-- The directories before were written.
use Rattle.std.proofs.Common.{◌≡◌, map, take}
use Rattle.cbor_det.specs.View.{view}
use Rattle.coswid_res.specs.DirectoryItems.{directory_item}
use Rattle.coswid_res.proofs.resources.directory_write.+write.Given as goal

abbrev pub invariant-write_all-loop-directory : goal.invariant-write_all-loop-directory
invariant-write_all-loop-directory l = map view l.items ≡ map directory_item (take l.directory-index l.directory-items)
