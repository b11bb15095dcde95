-- Each turn puts octets that stand for themselves, and the one after them.
use Rattle.std.proofs.Common.{◌∙◌, ◌++◌, List, ℕ, ap, sym, arith}
use Rattle.std.proofs.lemmas.List.{nil_from_length}
use Rattle.std.proofs.lemmas.List.Sums.{prefix_len-le-length}
use Rattle.wire_base.specs.Escaped.{is_plain}
use Rattle.wire_base.proofs.Escaping.{put_all, put_past, said}
use Rattle.wire_base.proofs.values.escape.put_escaped.Goals as goal

pub split_at-requires : goal.split_at-requires
split_at-requires c = omega (arith, c.plain_front.ensures.front, prefix_len-le-length is_plain c.loop-first.rest.now)

pub returns-in_default : goal.returns-in_default
returns-in_default c = record {
  appended = put_all c.loop-first.rest.now _ _ c.loop-first.out _ _ c.plain_front.result c.plain_front.ensures.front c.split_at.ensures.front c.split_at.ensures.back (nil_from_length _ c.in_default.ensures.cases)
      c.in_ok-extend.ensures.appended c.loop-first.invariant ∙ ap (λ (o : List ℕ). c.args.out.now ++ o) (sym (said c.args.octets.now c.is_empty.result c.is_empty.ensures c.if-is_empty.false));
}

pub loop-first-preserved : goal.loop-first-preserved
loop-first-preserved c =
    put_past c.loop-first.rest.now _ _ c.in-Some.behind.now c.loop-first.out _ c.put_hex.new.out _ c.plain_front.result c.in-Some.first.now c.plain_front.ensures.front c.split_at.ensures.front c.split_at.ensures.back c.in-Some.ensures.cases.0
    c.in_ok-extend.ensures.appended c.in_ok-put_hex.ensures.appended c.loop-first.invariant
