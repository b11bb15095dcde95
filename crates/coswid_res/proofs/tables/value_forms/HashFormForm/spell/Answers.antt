-- A hash is spelled in its three parts.
use Rattle.std.proofs.Common.{◌≡◌, ◌++◌, rules}
use Rattle.cbor_det.specs.Canonical.{canon}
use Rattle.cbor_det.specs.Term.{integer}
use Rattle.coswid_res.proofs.Hashes.{hash_laid}
use Rattle.coswid_res.proofs.tables.value_forms.HashFormForm.spell.Goals as goal

pub returns : goal.returns
returns c =
    let h = c.args.value.now in
    let second : c.put_integer.new.out ≡ c.put_array_head.new.out ++ canon (integer h.algorithm) = search rules in
    record { appended = hash_laid h.algorithm h.value _ _ _ _ _ c.in_ok-put_array_head.ensures.appended second c.in_ok-put_bytes.ensures.appended c.as_slice.ensures.items }
