use Rattle.std.proofs.Common.{◌≤◌, ◌<◌, ◌+◌, length, sym, ap, ◌∙◌, arith}
use Rattle.pa_attrs.specs.declared.attr.Attr.{Attr}
use Rattle.pa_attrs.specs.Held.{octets_of_held}
use Rattle.pa_attrs.specs.Stream.{Whole}
use Rattle.pa_attrs.proofs.Feeding.{more_within, header_within, still_short, shows_bad, no_value, least, most, value_less, still_within, still_more, is_whole}
use Rattle.pa_attrs.proofs.held.Held.take.Goals as goal

pub returns-then-begun-lt-HEADER_OCTETS-clause-holds : goal.returns-then-begun-lt-HEADER_OCTETS-clause-holds
returns-then-begun-lt-HEADER_OCTETS-clause-holds c =
    let o = c.requires.order in
    still_short _ _ _ c.begin_header-first.new.header _ _ o.size o.within o.first c.begin_header-first.array_long c.begin_header-first.ensures.used c.begin_header-first.ensures.octets c.if-begun-lt-HEADER_OCTETS.true

pub overflow_sub-said : goal.overflow_sub-said
overflow_sub-said c =
    let o = c.requires.order in
    least _ _ _ _ _ _ o.size o.within o.first c.begin_header-first.array_long c.begin_header-first.ensures.used c.begin_header-first.ensures.octets c.if-begun-lt-HEADER_OCTETS.false c.requires.torn _ (sym c.in-Ok.ensures.header)

pub take_value-requires-clause-len : goal.take_value-requires-clause-len
take_value-requires-clause-len c =
    let o = c.requires.order in
    value_less _ _ _ _ _ _ o.size o.within o.first c.begin_header-first.array_long c.begin_header-first.ensures.used c.begin_header-first.ensures.octets c.if-begun-lt-HEADER_OCTETS.false c.requires.torn _ (sym c.in-Ok.ensures.header)

pub take_value-requires-clause-most : goal.take_value-requires-clause-most
take_value-requires-clause-most c =
    let o = c.requires.order in
    let within = most _ _ _ _ _ _ o.size o.within o.first c.begin_header-first.array_long c.begin_header-first.ensures.used c.begin_header-first.ensures.octets c.if-begun-lt-HEADER_OCTETS.false c.requires.torn _ (sym c.in-Ok.ensures.header) in
    omega arith

pub returns-in_err-more-in-Ok-clause-within : goal.returns-in_err-more-in-Ok-clause-within
returns-in_err-more-in-Ok-clause-within c = rw c.in_err-more-in-Ok.ensures.unchanged (more_within _ c.requires.torn)

pub returns-then-len-said-clause-within : goal.returns-then-len-said-clause-within
returns-then-len-said-clause-within c =
    let o = c.requires.order in
    let short : 12 + length c.take_value.new.value.items < c.in-Ok.said.length = omega (arith, c.if-len-said.true, c.len.ensures) in
    still_within _ _ _ _ _ _ o.size o.within o.first c.begin_header-first.array_long c.begin_header-first.ensures.used c.begin_header-first.ensures.octets c.if-begun-lt-HEADER_OCTETS.false c.requires.torn _ (sym c.in-Ok.ensures.header) _ short

pub returns-then-len-said-clause-holds : goal.returns-then-len-said-clause-holds
returns-then-len-said-clause-holds c =
    let o = c.requires.order in
    let short : 12 + length c.take_value.new.value.items < c.in-Ok.said.length = omega (arith, c.if-len-said.true, c.len.ensures) in
    still_more _ _ _ _ _ _ o.size o.within o.first c.begin_header-first.array_long c.begin_header-first.ensures.used c.begin_header-first.ensures.octets c.if-begun-lt-HEADER_OCTETS.false c.requires.torn _ (sym c.in-Ok.ensures.header) _ _
    (rw c.split_at.ensures.back at c.in_ok-more-in-Ok.ensures.used) (rw c.split_at.ensures.back at c.in_ok-more-in-Ok.ensures.octets) short

pub returns-else-len-said-clause-holds : goal.returns-else-len-said-clause-holds
returns-else-len-said-clause-holds c =
    let o = c.requires.order in
    let enough : c.in-Ok.said.length ≤ 12 + length c.take_value.new.value.items = omega (arith, c.if-len-said.false, c.len.ensures) in
    let w = is_whole _ _ _ _ _ _ o.size o.within o.first c.begin_header-first.array_long c.begin_header-first.ensures.used c.begin_header-first.ensures.octets c.if-begun-lt-HEADER_OCTETS.false c.requires.torn _ (sym c.in-Ok.ensures.header) _ _
    (rw c.split_at.ensures.back at c.in_ok-more-in-Ok.ensures.used) (rw c.split_at.ensures.back at c.in_ok-more-in-Ok.ensures.octets) enough in
    (w.0 ∙ ap (λ (a : Attr). Whole a (length (octets_of_held c.args.self.now) + (c.begin_header-first.result + c.in_ok-more-in-Ok.more))) (sym c.give.ensures.attr), w.1, w.2, c.give.ensures.nothing)

pub returns-in-Err-clause-within : goal.returns-in-Err-clause-within
returns-in-Err-clause-within c =
    let o = c.requires.order in
    let none = no_value _ _ _ _ _ _ o.size o.within o.first c.begin_header-first.array_long c.begin_header-first.ensures.used c.begin_header-first.ensures.octets c.if-begun-lt-HEADER_OCTETS.false c.requires.torn _ (sym c.in-Err.ensures.header) in
    header_within c.begin_header-first.new.header c.args.self.now.value.items none

pub returns-in-Err-clause-holds : goal.returns-in-Err-clause-holds
returns-in-Err-clause-holds c =
    let o = c.requires.order in
    shows_bad _ _ _ _ _ _ o.size o.within o.first c.begin_header-first.array_long c.begin_header-first.ensures.used c.begin_header-first.ensures.octets c.if-begun-lt-HEADER_OCTETS.false c.requires.torn _ (sym c.in-Err.ensures.header)
