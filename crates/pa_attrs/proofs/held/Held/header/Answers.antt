use Rattle.std.proofs.Common.{◌≡◌, arith}
use Rattle.pa_attrs.proofs.Feeding.{header_is_held}
use Rattle.pa_attrs.proofs.held.Held.header.Goals as goal

pub returns : goal.returns
returns c =
    let full : c.args.self.now.header_len ≡ 12 = omega (arith, c.requires.order.within, c.if-self-lt-HEADER_OCTETS.false) in
    record { header = header_is_held _ _ _ c.requires.order.size full }
