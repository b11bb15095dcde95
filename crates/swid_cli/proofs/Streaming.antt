-- The text of a stream is the line of its first step and then the text of what is after it.
use Rattle.std.proofs.Common.{◌≡◌, ℕ, zero, suc, ◌+◌, ◌-◌, ◌<◌, ◌≤◌, Bool, true, false, cond, eqb, List, [], length, take, drop, Option, Some, Result, Ok, Err, refl, sym, ap, ◌∙◌, arith, length-take, length-drop, add-one}
use Rattle.std.specs.Prelude.{nat_lt}
use Rattle.std.proofs.lemmas.Bool.{cond_both}
use Rattle.wire_base.specs.Reading.{whole}
use Rattle.pa_attrs.specs.declared.attr.Attr.{Attr}
use Rattle.pa_attrs.specs.Faults.{fault}
use Rattle.pa_attrs.specs.Numbers.{HEADER, UNSUPPORTED_ATTRIBUTE}
use Rattle.pa_attrs.specs.Stream.{Front as Begun, More, Bad, Whole, front_of}
use Rattle.pa_attrs.proofs.Fronts.{whole_within}
use Rattle.swima_model.specs.declared.report.Report.{Report}
use Rattle.swima_reports.specs.ReportReading.{read_report}
use Rattle.validator_core.specs.Held.{Held}
use Rattle.swid_cli.specs.declared.mirror.first_attribute.Front.{Front}
use Rattle.swid_cli.specs.declared.mirror.first_attribute.Front.TheVariants as front
use Rattle.command_text.specs.declared.ending.Ending.{Ending}
use Rattle.command_text.specs.declared.ending.Ending.TheVariants as ending
use Rattle.swid_cli.specs.declared.mirror.step.Step.TheVariants as step
use Rattle.swid_cli.specs.Front.{begins, carries_report, first_of, shows_refused}
use Rattle.command_text.specs.Text.{skipped_line}
use Rattle.swid_cli.specs.Stream.{INPUT_OCTETS, Printed, StepOf, Goes, Ends, StreamGoesOn, after_line, and_on, attribute_step, front_step, report_step, step_of, stream, stream_by}
use Rattle.swid_cli.specs.Steps.{IsLast, IsStep, TakesStep, left_of}

-- ---- a step that goes on takes some of the octets

abbrev Takes : Front → List ℕ → Type 0
Takes (front.Whole attr len) octets = (0 < len) × (len ≤ length octets)
Takes front.End octets = Unit {0}
Takes (front.Torn have) octets = Unit {0}
Takes front.Limit octets = Unit {0}
Takes (front.Faulty bad) octets = Unit {0}

cut_takes : (over none : Bool) (count : ℕ) (octets : List ℕ) → Takes (cond over front.Limit (cond none front.End (front.Torn count))) octets
cut_takes true none count octets = tt
cut_takes false true count octets = tt
cut_takes false false count octets = tt

takes_by : (refused : Bool) (room : ℕ) (octets : List ℕ) (begun : Begun) → front_of (take room octets) ≡ begun
    → Takes (cond refused (front.Faulty (fault UNSUPPORTED_ATTRIBUTE 0)) (begins room (length octets) begun)) octets
takes_by true room octets begun is = tt
takes_by false room octets More is = cut_takes (nat_lt room (length octets)) (eqb (length octets) 0) (length octets) octets
takes_by false room octets (Bad bad) is = tt
takes_by false room octets (Whole attr len) is =
    let within = whole_within (take room octets) attr len is in
    (omega (arith, within.0), omega (arith, within.2, length-take room octets))

front_takes : (room : ℕ) (octets : List ℕ) → Takes (first_of room octets) octets
unfolding first_of
front_takes room octets = takes_by (shows_refused (take room octets)) room octets (front_of (take room octets)) refl

abbrev StepTakes : StepOf → List ℕ → Type 0
StepTakes (Goes line len mirror) octets = (0 < len) × (len ≤ length octets)
StepTakes (Ends printed) octets = Unit {0}

report_takes : (mirror : Held) (octets : List ℕ) (len : ℕ) (read : Result Report ℕ) → (0 < len) × (len ≤ length octets) → StepTakes (report_step mirror octets len read) octets
report_takes mirror octets len (Ok report) takes = takes
report_takes mirror octets len (Err place) takes = tt

attribute_takes : (at : ℕ) (mirror : Held) (octets : List ℕ) (attr : Attr) (len : ℕ) → (0 < len) × (len ≤ length octets) → StepTakes (attribute_step at mirror octets attr len) octets
attribute_takes at mirror octets attr len takes =
    let read = whole (read_report attr.kind) (at + HEADER) attr.value in
    cond_both (carries_report attr.vendor attr.kind) (report_step mirror octets len read) (Goes (skipped_line attr.vendor attr.kind) len mirror)
    (λ taken. StepTakes taken octets) (λ carries. report_takes mirror octets len read takes) (λ skipped. takes)

front_step_takes : (at : ℕ) (mirror : Held) (octets : List ℕ) (first : Front) → Takes first octets → StepTakes (front_step at mirror octets first) octets
front_step_takes at mirror octets (front.Whole attr len) takes = attribute_takes at mirror octets attr len takes
front_step_takes at mirror octets front.End takes = tt
front_step_takes at mirror octets (front.Torn have) takes = tt
front_step_takes at mirror octets front.Limit takes = tt
front_step_takes at mirror octets (front.Faulty fault) takes = tt

step_takes : (at : ℕ) (mirror : Held) (octets : List ℕ) → StepTakes (step_of at mirror octets) octets
unfolding step_of
step_takes at mirror octets = front_step_takes at mirror octets (first_of (INPUT_OCTETS - at) octets) (front_takes (INPUT_OCTETS - at) octets)

-- ---- as many steps as octets and more are all alike

abbrev Alike : ℕ → ℕ → Type 0
Alike n k = (at : ℕ) (mirror : Held) (octets : List ℕ) → length octets < n → length octets < k → stream_by n at mirror octets ≡ stream_by k at mirror octets

alike_on : (n k at : ℕ) (octets : List ℕ) (taken : StepOf) → Alike n k → StepTakes taken octets → length octets < suc n → length octets < suc k
    → and_on (stream_by n) at octets taken ≡ and_on (stream_by k) at octets taken
alike_on n k at octets (Goes line len mirror) same takes one other =
    let behind = length-drop len octets in
    ap (λ (p : Printed). after_line line p) (same (at + len) mirror (drop len octets) (omega (arith, takes.0, takes.1)) (omega (arith, takes.0, takes.1)))
alike_on n k at octets (Ends printed) same takes one other = refl

alike : (n k : ℕ) → Alike n k
alike zero k at mirror octets one other = absurd (omega arith)
alike (suc n) zero at mirror octets one other = absurd (omega arith)
alike (suc n) (suc k) at mirror octets one other = alike_on n k at octets (step_of at mirror octets) (alike n k) (step_takes at mirror octets) one other

-- ---- the law

goes_on_by : (at : ℕ) (octets : List ℕ) (taken : StepOf) → StepTakes taken octets → and_on (stream_by (length octets)) at octets taken ≡ and_on stream at octets taken
unfolding stream
goes_on_by at octets (Goes line len mirror) takes =
    let behind = length-drop len octets in
    ap (λ (p : Printed). after_line line p) (alike (length octets) (length (drop len octets) + 1) (at + len) mirror (drop len octets) (omega (arith, takes.0, takes.1)) (omega arith))
goes_on_by at octets (Ends printed) takes = refl

first_on : (at : ℕ) (mirror : Held) (octets : List ℕ) → stream at mirror octets ≡ and_on (stream_by (length octets)) at octets (step_of at mirror octets)
unfolding stream
first_on at mirror octets = rw add-one refl

-- A stream is its first attribute, and after it the stream of the octets after it.
pub stream_goes_on : StreamGoesOn
stream_goes_on at mirror octets = first_on at mirror octets ∙ goes_on_by at octets (step_of at mirror octets) (step_takes at mirror octets)

on_goes : (at : ℕ) (octets text : List ℕ) (count : ℕ) (after : Held) (left : Option (List ℕ)) (taken : StepOf) → IsStep taken (step.Goes text count) after → left ≡ Some (left_of taken octets)
    → (and_on stream at octets taken ≡ after_line text (stream (at + count) after (drop count octets))) × (left ≡ Some (drop count octets))
on_goes at octets text count after left (Goes line len mirror) is behind = rw (is.0, is.1, is.2) (refl, behind)
on_goes at octets text count after left (Ends printed) is behind = absurd is

on_ends : (at : ℕ) (octets text : List ℕ) (how : Ending) (left : Option (List ℕ)) (taken : StepOf) → IsLast taken text how → left ≡ Some (left_of taken octets)
    → ((and_on stream at octets taken).text ≡ text) × ((and_on stream at octets taken).ending ≡ how) × (left ≡ Some (and_on stream at octets taken).left)
on_ends at octets text how left (Goes line len mirror) is behind = absurd is
on_ends at octets text how left (Ends printed) is behind = (sym is.0, sym is.1, behind)

-- A step that goes on, and what is after it.
pub goes_on : (at : ℕ) (before : Held) (octets text : List ℕ) (count : ℕ) (after : Held) (left-before left : Option (List ℕ)) → left-before ≡ Some octets → TakesStep at before left-before left (step.Goes text count) after
    → (stream at before octets ≡ after_line text (stream (at + count) after (drop count octets))) × (left ≡ Some (drop count octets))
goes_on at before octets text count after left-before left told steps =
    let is = steps octets told in
    let on = on_goes at octets text count after left (step_of at before octets) is.0 is.1 in
    (stream_goes_on at before octets ∙ on.0, on.1)

-- A step over what was left is the last: it is this text, and it ends so.
abbrev pub TakesLast : ℕ → Held → Option (List ℕ) → Option (List ℕ) → List ℕ → Ending → Type 0
TakesLast at before left-before left text how = (octets : List ℕ) → left-before ≡ Some octets
    → IsLast (step_of at before octets) text how × (left ≡ Some (left_of (step_of at before octets) octets))

-- The last step.
pub ends : (at : ℕ) (before : Held) (octets text : List ℕ) (how : Ending) (left-before left : Option (List ℕ)) → left-before ≡ Some octets → TakesLast at before left-before left text how
    → ((stream at before octets).text ≡ text) × ((stream at before octets).ending ≡ how) × (left ≡ Some (stream at before octets).left)
ends at before octets text how left-before left told steps =
    let is = steps octets told in
    rw (stream_goes_on at before octets) (on_ends at octets text how left (step_of at before octets) is.0 is.1)

-- ---- at the end nothing is left

abbrev NothingLeft : Printed → Type 0
NothingLeft printed = printed.ending ≡ ending.Whole → printed.left ≡ []

abbrev StepLeaves : StepOf → Type 0
StepLeaves (Goes line len mirror) = Unit {0}
StepLeaves (Ends printed) = NothingLeft printed

report_leaves : (mirror : Held) (octets : List ℕ) (len : ℕ) (read : Result Report ℕ) → StepLeaves (report_step mirror octets len read)
report_leaves mirror octets len (Ok report) = tt
report_leaves mirror octets len (Err place) = λ whole. absurd (cc)

attribute_leaves : (at : ℕ) (mirror : Held) (octets : List ℕ) (attr : Attr) (len : ℕ) → StepLeaves (attribute_step at mirror octets attr len)
attribute_leaves at mirror octets attr len =
    let read = whole (read_report attr.kind) (at + HEADER) attr.value in
    cond_both (carries_report attr.vendor attr.kind) (report_step mirror octets len read) (Goes (skipped_line attr.vendor attr.kind) len mirror)
    StepLeaves (λ carries. report_leaves mirror octets len read) (λ skipped. tt)

front_leaves : (at : ℕ) (mirror : Held) (octets : List ℕ) (first : Front) → StepLeaves (front_step at mirror octets first)
front_leaves at mirror octets front.End = λ whole. refl
front_leaves at mirror octets (front.Torn have) = λ whole. refl
front_leaves at mirror octets front.Limit = λ whole. absurd (cc)
front_leaves at mirror octets (front.Faulty fault) = λ whole. absurd (cc)
front_leaves at mirror octets (front.Whole attr len) = attribute_leaves at mirror octets attr len

step_leaves : (at : ℕ) (mirror : Held) (octets : List ℕ) → StepLeaves (step_of at mirror octets)
unfolding step_of
step_leaves at mirror octets = front_leaves at mirror octets (first_of (INPUT_OCTETS - at) octets)

leaves_on : (steps at : ℕ) (octets : List ℕ) (taken : StepOf) → ((at : ℕ) (mirror : Held) (octets : List ℕ) → NothingLeft (stream_by steps at mirror octets)) → StepLeaves taken → NothingLeft (and_on (stream_by steps) at octets taken)
leaves_on steps at octets (Goes line len mirror) behind leaves = behind (at + len) mirror (drop len octets)
leaves_on steps at octets (Ends printed) behind leaves = leaves

leaves_by : (steps at : ℕ) (mirror : Held) (octets : List ℕ) → NothingLeft (stream_by steps at mirror octets)
leaves_by zero at mirror octets = λ whole. absurd (cc)
leaves_by (suc steps) at mirror octets = leaves_on steps at octets (step_of at mirror octets) (leaves_by steps) (step_leaves at mirror octets)

-- Where the input is not refused, nothing of it is left.
pub nothing_left : (at : ℕ) (mirror : Held) (octets : List ℕ) → (stream at mirror octets).ending ≡ ending.Whole → (stream at mirror octets).left ≡ []
unfolding stream
nothing_left at mirror octets = leaves_by (length octets + 1) at mirror octets
