use Rattle.std.proofs.Common.{◌-◌, ◌∙◌, ℕ, ap, sym, arith}
use Rattle.swima_model.specs.Size.{records_octets}
use Rattle.collector_core.specs.Refusals.{others_than}
use Rattle.collector_core.specs.Standing.{BookView}
use Rattle.collector_core.proofs.Lives.{octets_enough, octets_others}
use Rattle.collector_core.proofs.book.Book.octets_beside.Goals as goal

pub overflow_sub-result : goal.overflow_sub-result
overflow_sub-result c =
    let enough = octets_enough c.self.inside.records.next c.self.inside.octet_count c.args.id c.self.inside.records.records c.in-Some.held.now c.self.invariant.0 (sym c.in-Some.ensures.held) in
    omega (arith, enough, c.octets.ensures.octets)

pub returns-in-Some-clause-beside : goal.returns-in-Some-clause-beside
returns-in-Some-clause-beside c =
    ap (λ (n : ℕ). c.self.inside.octet_count - n) c.octets.ensures.octets
    ∙ octets_others c.self.inside.records.next c.self.inside.octet_count c.args.id c.self.inside.records.records c.in-Some.held.now c.self.invariant.0 (sym c.in-Some.ensures.held)
    ∙ ap (λ (book : BookView). records_octets (others_than c.args.id book.records)) c.self.view_is
