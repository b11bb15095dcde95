use Rattle.std.proofs.Common.{◌≡◌, ◌+◌, ◌∙◌, leb, ap, arith, ℕ}
use Rattle.std.specs.Prelude.{max}
use Rattle.collector_core.proofs.Moving.{any_kept}
use Rattle.collector_core.proofs.moved.keeps_later.Goals as goal

pub returns : goal.returns
returns c =
    let first : c.max-first.result ≡ max c.args.log.now.first (c.args.after + 1) = omega (arith, c.max-first.ensures, c.first.ensures.first) in
    record { later = ap (λ (last : ℕ). leb c.max-first.result last) c.last.ensures.last ∙ any_kept c.args.log.now c.first.ensures.log c.args.after c.max-first.result first }
