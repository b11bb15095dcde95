use Rattle.std.proofs.Common.{◌≡◌, ◌+◌, ◌∙◌, ℕ, List, length, drop, ap, sym, arith, false}
use Rattle.std.specs.Prelude.{max, min}
use Rattle.std.specs.List.{sum_by}
use Rattle.std.proofs.lemmas.List.{drop-map, length-map, take-map, take_rest}
use Rattle.swima_model.specs.declared.event.Event.{Event}
use Rattle.swima_model.specs.declared.report.Report.TheVariants.{Events}
use Rattle.swima_model.specs.Kinds.{events_of_kind}
use Rattle.swima_model.specs.Size.{event_size}
use Rattle.collector_core.specs.declared.answer.Answer.TheVariants as answer
use Rattle.collector_core.specs.Answering.{consulted_before, front_fits, longest}
use Rattle.collector_core.specs.Borrowed.{values}
use Rattle.collector_core.proofs.Fitting.{told_fits, told_too_large}
use Rattle.collector_core.proofs.answer.told.Goals as goal

pub returns-then-size-most : goal.returns-then-size-most
returns-then-size-most c =
    let count : c.min-count.result ≡ min (max (longest (front_fits c.args.request.now c.args.point (values c.args.events.now) c.args.most) (length (values c.args.events.now))) 1) (length (values c.args.events.now)) =
    omega (arith, c.min-count.ensures, c.max.ensures, c.fitting.ensures.count c.args.point, length-map c.args.events.now (λ b. b.now)) in
    record {
      answer = told_too_large c.args.request.now c.args.point (values c.args.events.now) c.args.most c.min-count.result (20 + c.size_of_lent-size.result) count
          (ap (λ (n : ℕ). 20 + n) (c.size_of_lent-size.ensures.size ∙ ap (sum_by (event_size c.args.request.now.kind)) (sym (take-map (λ b. b.now) c.min-count.result c.args.events.now))))
          c.if-size-most.true;
    }

pub returns : goal.returns
returns c =
    let count : c.min-count.result ≡ min (max (longest (front_fits c.args.request.now c.args.point (values c.args.events.now) c.args.most) (length (values c.args.events.now))) 1) (length (values c.args.events.now)) =
    omega (arith, c.min-count.ensures, c.max.ensures, c.fitting.ensures.count c.args.point, length-map c.args.events.now (λ b. b.now)) in
    record {
      answer = ap (λ (n : ℕ). answer.Report (Events c.args.request.now.kind false c.args.request.now.id c.args.point n c.in_ok-events_of_kind.field-0))
          (c.consulted_before.ensures.consulted
          ∙ ap (λ (es : List Event). consulted_before es c.args.point.eid) (ap values (take_rest c.args.events.now c.min-count.result) ∙ sym (drop-map (λ b. b.now) c.min-count.result c.args.events.now)))
          ∙ ap (λ (es : List Event). answer.Report (Events c.args.request.now.kind false c.args.request.now.id c.args.point (consulted_before (drop c.min-count.result (values c.args.events.now)) c.args.point.eid) es))
          (c.in_ok-events_of_kind.ensures.carried ∙ ap (events_of_kind c.args.request.now.kind) (sym (take-map (λ b. b.now) c.min-count.result c.args.events.now)))
          ∙ told_fits c.args.request.now c.args.point (values c.args.events.now) c.args.most c.min-count.result (20 + c.size_of_lent-size.result) count
          (ap (λ (n : ℕ). 20 + n) (c.size_of_lent-size.ensures.size ∙ ap (sum_by (event_size c.args.request.now.kind)) (sym (take-map (λ b. b.now) c.min-count.result c.args.events.now))))
          c.if-size-most.false;
    }
