use Rattle.std.proofs.Common.{◌≡◌, ◌<◌, ◌≤◌, ◌+◌, ◌++◌, ℕ, List, min, length, drop, Some, false, sym, ap, subst, ◌∙◌, arith}
use Rattle.pa_attrs.specs.declared.header.Header.{Header}
use Rattle.pa_attrs.specs.Numbers.{HEADER}
use Rattle.pa_attrs.specs.Header.{header_of}
use Rattle.pa_attrs.specs.Faults.{is_refused}
use Rattle.pa_attrs.specs.Stream.{Feeding}
use Rattle.pa_attrs.specs.declared.feed.AttrFed.TheVariants as fed
use Rattle.swid_cli.specs.declared.mirror.first_attribute.Front.TheVariants as front
use Rattle.swid_cli.specs.Front.{REPORT_TYPES, cut, first_of}
use Rattle.swid_cli.specs.Steps.{TakesFirst}
use Rattle.swid_cli.proofs.FirstLaws.{bad_near}
use Rattle.swid_cli.proofs.Fronts.{first_read, is_faulty, is_header, is_short, is_unsupported}
use Rattle.swid_cli.proofs.Wanting.{fresh_takes, header_whole, if_ok}
use Rattle.swid_cli.proofs.mirror.first_attribute.take_front.Goals as goal

pub returns-then-min-lt-HEADER_OCTETS-clause-front : goal.returns-then-min-lt-HEADER_OCTETS-clause-front
returns-then-min-lt-HEADER_OCTETS-clause-front g c = λ octets told.
    let room = c.args.room in
    let held = c.fill.new.held in
    let read = first_read (min 12 (room + 1)) _ octets _ held _ _ c.min.ensures c.new-start.ensures.empty told c.in_ok-fill.ensures.fills in
    let short : min (length held) room < HEADER = omega (arith, c.if-min-lt-HEADER_OCTETS.true, c.min-2.ensures, c.len.ensures.len) in
    rw (c.cut.ensures.front ∙ ap (λ (n : ℕ). cut room n) c.len-then-min-lt-HEADER_OCTETS.ensures.len) (is_short room octets _ held read short)

pub returns-then-is_refused-clause-front : goal.returns-then-is_refused-clause-front
returns-then-is_refused-clause-front g c = λ octets told.
    let room = c.args.room in
    let held = c.fill.new.held in
    let read = first_read (min 12 (room + 1)) _ octets _ held _ _ c.min.ensures c.new-start.ensures.empty told c.in_ok-fill.ensures.fills in
    let long : HEADER ≤ min (length held) room = omega (arith, c.if-min-lt-HEADER_OCTETS.false, c.min-2.ensures, c.len.ensures.len) in
    let said : c.read_header-header.result ≡ header_of held = c.read_header-header.ensures.header ∙ ap header_of c.as_slice.ensures.items in
    is_unsupported room octets _ held read long (ap (is_refused REPORT_TYPES) (sym said) ∙ sym c.is_refused.ensures.refused ∙ c.if-is_refused.true)

pub returns-in-More-clause-front : goal.returns-in-More-clause-front
returns-in-More-clause-front g c =
    let room = c.args.room in
    let held = c.fill.new.held in
    let takes = fresh_takes c.new-feed.result c.feed.new.self _ held fed.More c.new-feed.ensures.fresh c.as_slice-2.ensures.items c.in-More.ensures.fed in
    if_ok c.take_value.result _ _ (λ first found octets told.
    let read = first_read (min 12 (room + 1)) _ octets _ held _ _ c.min.ensures c.new-start.ensures.empty told c.in_ok-fill.ensures.fills in
    subst (λ (o : List ℕ). TakesFirst room o (g.S.Source.left c.take_value.new.input) first) (ap (λ (f : Feeding). f.octets ++ read.rest) takes.1 ∙ sym read.parts) (found read.rest read.still))
    c.take_value.ensures.front

pub returns-in-Done-clause-front : goal.returns-in-Done-clause-front
returns-in-Done-clause-front g c = λ octets told.
    let room = c.args.room in
    let held = c.fill.new.held in
    let read = first_read (min 12 (room + 1)) _ octets _ held _ _ c.min.ensures c.new-start.ensures.empty told c.in_ok-fill.ensures.fills in
    let long : HEADER ≤ min (length held) room = omega (arith, c.if-min-lt-HEADER_OCTETS.false, c.min-2.ensures, c.len.ensures.len) in
    let said : c.read_header-header.result ≡ header_of held = c.read_header-header.ensures.header ∙ ap header_of c.as_slice.ensures.items in
    let passed : is_refused REPORT_TYPES (header_of held) ≡ false = ap (is_refused REPORT_TYPES) (sym said) ∙ sym c.is_refused.ensures.refused ∙ c.if-is_refused.false in
    let takes = fresh_takes c.new-feed.result c.feed.new.self _ held (fed.Done c.in-Done.attr c.in-Done.field-1) c.new-feed.ensures.fresh c.as_slice-2.ensures.items c.in-Done.ensures.fed in
    let size : length held ≡ HEADER = omega (arith, c.in_ok-fill.ensures.within, c.min.ensures, long) in
    let whole = header_whole held c.in-Done.attr c.in-Done.field-1 c.feed.new.self size takes in
    subst (λ (n : ℕ). (front.Whole c.in-Done.attr n ≡ first_of room octets) × (g.S.Source.left c.fill.new.input ≡ Some (drop n octets))) (ap (λ (h : Header). h.length) (sym said))
    (is_header room octets _ held read long c.in-Done.attr (header_of held).length passed whole.0 whole.1)

pub returns-in-Done-clause-within : goal.returns-in-Done-clause-within
returns-in-Done-clause-within g c =
    let room = c.args.room in
    let held = c.fill.new.held in
    let long : HEADER ≤ min (length held) room = omega (arith, c.if-min-lt-HEADER_OCTETS.false, c.min-2.ensures, c.len.ensures.len) in
    let said : c.read_header-header.result ≡ header_of held = c.read_header-header.ensures.header ∙ ap header_of c.as_slice.ensures.items in
    let takes = fresh_takes c.new-feed.result c.feed.new.self _ held (fed.Done c.in-Done.attr c.in-Done.field-1) c.new-feed.ensures.fresh c.as_slice-2.ensures.items c.in-Done.ensures.fed in
    let size : length held ≡ HEADER = omega (arith, c.in_ok-fill.ensures.within, c.min.ensures, long) in
    let whole = header_whole held c.in-Done.attr c.in-Done.field-1 c.feed.new.self size takes in
    let count : c.read_header-header.result.length ≡ (header_of held).length = ap (λ (h : Header). h.length) said in
    (count ∙ whole.2, omega (arith, count, whole.1, long))

pub returns-in-Fault-clause-front : goal.returns-in-Fault-clause-front
returns-in-Fault-clause-front g c = λ octets told.
    let room = c.args.room in
    let held = c.fill.new.held in
    let read = first_read (min 12 (room + 1)) _ octets _ held _ _ c.min.ensures c.new-start.ensures.empty told c.in_ok-fill.ensures.fills in
    let long : HEADER ≤ min (length held) room = omega (arith, c.if-min-lt-HEADER_OCTETS.false, c.min-2.ensures, c.len.ensures.len) in
    let said : c.read_header-header.result ≡ header_of held = c.read_header-header.ensures.header ∙ ap header_of c.as_slice.ensures.items in
    let passed : is_refused REPORT_TYPES (header_of held) ≡ false = ap (is_refused REPORT_TYPES) (sym said) ∙ sym c.is_refused.ensures.refused ∙ c.if-is_refused.false in
    let takes = fresh_takes c.new-feed.result c.feed.new.self _ held (fed.Fault c.in-Fault.fault) c.new-feed.ensures.fresh c.as_slice-2.ensures.items c.in-Fault.ensures.fed in
    is_faulty room octets _ held read long c.in-Fault.fault passed takes.0

pub returns-in-Fault-clause-within : goal.returns-in-Fault-clause-within
returns-in-Fault-clause-within g c =
    let takes = fresh_takes c.new-feed.result c.feed.new.self _ c.fill.new.held (fed.Fault c.in-Fault.fault) c.new-feed.ensures.fresh c.as_slice-2.ensures.items c.in-Fault.ensures.fed in
    bad_near c.fill.new.held c.in-Fault.fault takes.0
