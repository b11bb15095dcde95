-- The header was written, and the attributes gone over.
use Rattle.std.proofs.Common.{◌≡◌, ◌++◌, take}
use Rattle.std.specs.List.{flat_map}
use Rattle.pa_attrs.proofs.Writing.{head, written_attr}
use Rattle.pa_attrs.proofs.write.write_message.Given as goal

abbrev pub invariant-loop-attr : goal.invariant-loop-attr
invariant-loop-attr l = l.out ≡ head l.fn.message.id ++ flat_map written_attr (take l.attr-index l.attr-items)
