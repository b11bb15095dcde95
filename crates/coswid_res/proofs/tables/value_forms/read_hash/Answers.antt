-- An array of another number than two is no hash.
use Rattle.std.proofs.Common.{◌≡◌, length, arith}
use Rattle.coswid_res.proofs.Hashes.{other_told}
use Rattle.coswid_res.proofs.tables.value_forms.read_hash.Goals as goal

pub returns-then-len-ne2 : goal.returns-then-len-ne2
returns-then-len-ne2 c =
    let not : length c.args.parts ≡ 2 → ⊥ = λ e. grind (arith, e, c.if-len-ne2.true, c.len.ensures.len) in
    record { told = other_told c.args.parts c.new.result not c.new.ensures.fault }
