use Rattle.std.proofs.Common.{◌≡◌, ◌<◌, ◌+◌, ◌^◌, ◌++◌, List, length, take, get_or, sym, ap, subst, ◌∙◌, arith}
use Rattle.std.specs.List.{flat_map}
use Rattle.std.proofs.lemmas.List.{take_all}
use Rattle.pa_attrs.specs.declared.attr.Attr.{Attr}
use Rattle.pa_attrs.proofs.Writing.{head, written_attr, message_written, length_fits}
use Rattle.pa_attrs.proofs.write.write_message.Goals as goal

pub put_attr-requires-clause-len : goal.put_attr-requires-clause-len
put_attr-requires-clause-len c =
    let items = c.as_slice-attr-items.ensures.items in
    let i = c.loop-attr.attr-index in
    let d = c.attr-item.result in
    let there : get_or c.args.message.now.attrs i d ≡ d = ap (λ (l : List Attr). get_or l i d) (sym items) ∙ sym c.attr-item.is in
    let within : i < length c.args.message.now.attrs = omega (arith, c.loop-attr-test.true, ap (λ (l : List Attr). length l) items) in
    subst (λ (a : Attr). 12 + length a.value < 2 ^ 32) there (length_fits c.args.message.now i d c.requires.within within)

pub returns : goal.returns
returns c =
    let items = c.as_slice-attr-items.ensures.items in
    let all : take c.loop-attr.attr-index c.as_slice-attr-items.result.now ≡ c.args.message.now.attrs = take_all c.loop-attr.attr-index c.as_slice-attr-items.result.now (omega (arith, c.loop-attr-test.false)) ∙ items in
    record { octets = c.loop-attr.invariant ∙ ap (λ (l : List Attr). head c.args.message.now.id ++ flat_map written_attr l) all ∙ sym (message_written c.args.message.now) }
