-- A key above the last is above all.
use Rattle.std.proofs.Common.{List, ◌≡◌, get_or, length, ◌-◌, ◌<◌, sym, subst, ◌∙◌}
use Rattle.cbor_det.specs.declared.item.Pair.{Pair}
use Rattle.cbor_det.specs.View.{view}
use Rattle.cbor_det.proofs.Rising.{admitted}
use Rattle.cbor_det.proofs.members.Rising.admits.Goals as goal

pub returns-in-Some-clause-admits : goal.returns-in-Some-clause-admits
returns-in-Some-clause-admits c =
    let last : Pair = c.in-Some.last.now in
    let P : List Pair → Type 0 = λ xs. (0 < length xs) × (last ≡ get_or xs (length xs - 1) last) in
    let there = subst P c.as_slice.ensures.items (c.in-Some.ensures.item.3.0, c.in-Some.ensures.item.1) in
    admitted c.is_integer_above.result c.args.self.now.pairs last c.args.self.now.key (view c.args.item.now) there.0 there.1 c.args.self.now.rises (sym c.is_some.ensures ∙ c.if-is_some.false) c.is_integer_above.ensures.above
