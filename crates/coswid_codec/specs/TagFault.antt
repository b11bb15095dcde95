-- The first form fault of a tag: first that it is too deep, then that it has both payload and
-- evidence, and then those of its map.
use Rattle.std.specs.Prelude.{[], Option, if◌then◌else◌}
use Rattle.cbor_det.specs.Term.{Term}
use Rattle.coswid_res.specs.declared.fault.FormFault.{FormFault}
use Rattle.coswid_res.specs.Schema.{one, a_map, tag}
use Rattle.coswid_res.specs.Fault.{fault, field_fault}
use Rattle.coswid_codec.specs.Marked.{content, is_deep, has_both}

abbrev pub tag_fault : Term → Option FormFault
tag_fault t = if is_deep t then fault 4 [] else (if has_both (content t) then fault 3 [] else field_fault (one (a_map tag)) (content t))
