-- What the value of an attribute makes.
use Rattle.std.proofs.Common.{◌≡◌, ◌≢◌, ℕ, List, Result, Ok, Err, refl, sym, ap, ◌∙◌}
use Rattle.pa_attrs.specs.Numbers.{INVALID_PARAMETER}
use Rattle.swima_model.specs.declared.report.Report.{Report}
use Rattle.validator_core.specs.Held.{Held}
use Rattle.validator_core.specs.Judge.{Judged, judge}
use Rattle.validator_core.specs.declared.mirror.Taken.{Taken}
use Rattle.validator_core.specs.declared.mirror.Taken.TheVariants as taken
use Rattle.command_text.specs.Text.{fault_line, took_line}
use Rattle.swid_cli.specs.Stream.{report_step}
use Rattle.swid_cli.specs.Steps.{IsStep}
use Rattle.swid_cli.specs.declared.mirror.step.Step.{Step}
use Rattle.swid_cli.specs.declared.mirror.step.Step.TheVariants as step

-- An answer that is not running out of memory is the one that was judged.
judged_is : (before after : Held) (judged : Taken × Held) (answer : Taken) → Judged before judged answer after → answer ≢ taken.Memory → judged ≡ (answer, after)
judged_is before after judged taken.WrongKind answers some = answers
judged_is before after judged taken.Stale answers some = answers
judged_is before after judged (taken.Doubled id) answers some = answers
judged_is before after judged (taken.Large count octets) answers some = answers
judged_is before after judged taken.Adopted answers some = answers
judged_is before after judged (taken.OtherEpoch have got) answers some = answers
judged_is before after judged (taken.Gap have got) answers some = answers
judged_is before after judged (taken.Contradiction eid) answers some = answers
judged_is before after judged (taken.Advanced from to) answers some = answers
judged_is before after judged taken.Memory answers some = absurd (some refl)

-- A report that was read and taken makes its line.
pub goes : (len : ℕ) (octets : List ℕ) (before after : Held) (read : Result Report ℕ) (report : Report) (answer : Taken) (line : List ℕ)
    → read ≡ Ok report → Judged before (judge before report) answer after → answer ≢ taken.Memory → line ≡ took_line report answer
    → IsStep (report_step before octets len read) (step.Goes line len) after
goes len octets before after read report answer line is answers some printed =
    let judged = judged_is before after (judge before report) answer answers some in
    rw is (printed ∙ ap (λ (j : Taken × Held). took_line report j.0) (sym judged), refl, ap (λ (j : Taken × Held). j.1) (sym judged))

-- A value that has a fault makes its line.
pub faulty : (len place : ℕ) (octets : List ℕ) (before : Held) (read : Result Report ℕ) (taken : Step) → read ≡ Err place → taken ≡ step.Refused (fault_line INVALID_PARAMETER place)
    → IsStep (report_step before octets len read) taken before
faulty len place octets before read taken is made = rw (is, made) (refl, refl)
