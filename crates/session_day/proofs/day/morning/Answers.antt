-- The packages, and the world that begins with them.
use Rattle.std.proofs.Common.{◌≡◌, ◌∙◌, ◌-◌, List, [], None, false, ap, sym, subst, arith}
use Rattle.swima_model.specs.declared.record.Content.{Content}
use Rattle.swima_model.specs.declared.report.Kind.TheVariants.{Full}
use Rattle.collector_core.specs.Refusals.{new_refusal}
use Rattle.session_world.specs.Standing.{StandsFor}
use Rattle.session_world.specs.World.{begun}
use Rattle.session_day.specs.Package.{packages}
use Rattle.session_day.proofs.Daily.{morning_next}
use Rattle.session_day.proofs.Sizes.{none_refused}
use Rattle.session_day.proofs.day.morning.Goals as goal

pub loop-number-preserved : goal.loop-number-preserved
loop-number-preserved c =
    let next = morning_next c.args.count c.loop-number.number c.loop-number.x c.next_number-x.result c.loop-number.base.items c.push.new.self.items c.in_ok-package.field-0 (omega (arith, c.loop-number.auto.number))
    c.loop-number.invariant.x c.loop-number.invariant.base c.next_number-x.ensures.next c.in_ok-package.ensures.content c.in_ok-push.ensures.items in
    record { x = next.0; base = next.1 }

pub begin_book-requires-clause-allowed : goal.begin_book-requires-clause-allowed
begin_book-requires-clause-allowed c =
    let last : c.loop-number.number - 1 ≡ c.args.count = omega (arith, c.loop-number-test.false, c.loop-number.auto.number-end) in
    let all : c.as_slice.result.now ≡ packages c.args.count 1 c.args.count = c.as_slice.ensures.value ∙ c.loop-number.invariant.base ∙ ap (packages c.args.count 1) last in
    subst (λ (cs : List Content). new_refusal cs ≡ None) (sym all) (none_refused c.args.count c.requires.few)

pub returns : goal.returns
returns c =
    let last : c.loop-number.number - 1 ≡ c.args.count = omega (arith, c.loop-number-test.false, c.loop-number.auto.number-end) in
    let all : c.as_slice.result.now ≡ packages c.args.count 1 c.args.count = c.as_slice.ensures.value ∙ c.loop-number.invariant.base ∙ ap (packages c.args.count 1) last in
    record {
      morning = record {
        world = subst (λ (cs : List Content). StandsFor c.new.result (begun (record { max = 16000000; subscribe = false }) (record { start = record { epoch = 1; cap = 1024; contents = cs }; entries = [] }) Full)) all
            (c.new.ensures.begins _ c.in_ok-book.ensures.stands);
        told = c.new-2.ensures.empty;
        carried = c.new-3.ensures.empty;
      };
    }
